-- That `end_whole` ensures what it says.
use Rattle.std.proofs.Common.{[], refl, ap}
use Rattle.query_meaning.specs.declared.token.Token.TheVariants.{Word}
use Rattle.query_meaning.specs.declared.keyword.Keyword.TheVariants as keyword
use Rattle.mdx_reader.specs.declared.place.Place.TheVariants as place
use Rattle.query_meaning.specs.Keywords.{keyword_text}
use Rattle.mdx_reader.specs.Places.{axis_of, rest_of}
use Rattle.mdx_reader.specs.SetMoves as sets
use Rattle.text_forms.specs.Carried.{taken}
use Rattle.mdx_reader.proofs.in_sets.end_whole.Goals as goal

pub returns-then-is_word-clause-takes : goal.returns-then-is_word-clause-takes
returns-then-is_word-clause-takes c = λ at. let a = c.args in let s = place.AfterSet a.head [] a.set in
    taken rest_of s s at a.token.now (Word (keyword_text keyword.On)) (place.On a.head.which c.in_ok-axis.axis) (place.On a.head.which (axis_of a.head.non_empty a.set))
    refl c.if-is_word.ensures (ap (λ x. place.On a.head.which x) c.in_ok-axis.ensures)
    (sets.on_taken a.head a.set at)

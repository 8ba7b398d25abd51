-- That `begin_empty` ensures what it says.
use Rattle.std.proofs.Common.{[], refl, ap, true}
use Rattle.query_meaning.specs.declared.token.Token.TheVariants.{Word}
use Rattle.query_meaning.specs.declared.keyword.Keyword.TheVariants as keyword
use Rattle.mdx_reader.specs.declared.place.Place.TheVariants as place
use Rattle.query_meaning.specs.Keywords.{keyword_text}
use Rattle.mdx_reader.specs.AxisMoves as axes
use Rattle.mdx_reader.specs.AxisMoves.{head_of}
use Rattle.text_forms.specs.Carried.{taken}
use Rattle.mdx_reader.specs.Places.{rest_of}
use Rattle.mdx_reader.proofs.in_axes.begin_empty.Goals as goal

pub returns-then-is_word-clause-takes : goal.returns-then-is_word-clause-takes
returns-then-is_word-clause-takes c = λ at. taken rest_of (place.Non c.args.which) (place.Non c.args.which) at c.args.token (Word (keyword_text keyword.Empty)) (place.ASet (head_of c.args.which true) c.new.result 15) (place.ASet (head_of c.args.which true) [] 15) refl c.if-is_word.ensures (ap (λ x. place.ASet (head_of c.args.which true) x 15) c.new.ensures) (axes.empty_taken c.args.which at)

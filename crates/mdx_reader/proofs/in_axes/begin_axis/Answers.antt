-- That `begin_axis` ensures what it says.
use Rattle.std.proofs.Common.{refl, subst, false}
use Rattle.query_meaning.specs.declared.token.Token.TheVariants.{Word}
use Rattle.query_meaning.specs.Tokens.{At}
use Rattle.text_forms.specs.Grammars.{Took}
use Rattle.query_meaning.specs.declared.keyword.Keyword.TheVariants as keyword
use Rattle.mdx_reader.specs.declared.place.Place.TheVariants as place
use Rattle.query_meaning.specs.Keywords.{keyword_text}
use Rattle.mdx_reader.specs.Places.{rest_of}
use Rattle.mdx_reader.specs.AxisMoves as axes
use Rattle.mdx_reader.specs.AxisMoves.{head_of}
use Rattle.text_forms.specs.Carried.{taken}
use Rattle.text_forms.proofs.Turns.{on_ok}
use Rattle.mdx_reader.proofs.in_axes.begin_axis.Goals as goal

pub returns-then-is_word-clause-takes : goal.returns-then-is_word-clause-takes
returns-then-is_word-clause-takes c = taken rest_of (place.AnAxis c.args.which) (place.AnAxis c.args.which) c.args.at c.args.token (Word (keyword_text keyword.Non)) (place.Non c.args.which) (place.Non c.args.which) refl c.if-is_word.ensures refl (axes.non_taken c.args.which c.args.at)

pub returns-clause-takes : goal.returns-clause-takes
returns-clause-takes c =
    let head = head_of c.args.which false in
    on_ok _ _ c.begin_set.result (λ o h. axes.axis_as_set c.args.which c.args.at c.args.token o c.if-is_word.ensures (subst (λ x. Took rest_of (rest_of (place.ASet head x 15)) (At c.args.at c.args.token) o) c.new.ensures h)) c.begin_set.ensures.takes

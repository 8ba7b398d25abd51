-- That `begin` ensures what it says.
use Rattle.std.proofs.Common.{refl}
use Rattle.query_meaning.specs.declared.token.Token.TheVariants.{Word}
use Rattle.query_meaning.specs.declared.keyword.Keyword.TheVariants as keyword
use Rattle.mdx_reader.specs.declared.place.Which.TheVariants as which
use Rattle.mdx_reader.specs.declared.place.Place.TheVariants as place
use Rattle.query_meaning.specs.Keywords.{keyword_text}
use Rattle.mdx_reader.specs.AxisMoves as axes
use Rattle.mdx_reader.specs.AxisMoves.{head_of}
use Rattle.text_forms.specs.Carried.{taken}
use Rattle.mdx_reader.specs.Places.{rest_of}
use Rattle.mdx_reader.proofs.in_axes.begin.Goals as goal

pub returns-then-is_word-clause-takes : goal.returns-then-is_word-clause-takes
returns-then-is_word-clause-takes c = λ at. taken rest_of place.Start place.Start at c.args.token (Word (keyword_text keyword.Select)) (place.AnAxis which.Columns) (place.AnAxis which.Columns) refl c.if-is_word.ensures refl (axes.select_taken at)

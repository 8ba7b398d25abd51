-- That `end_columns` ensures what it says.
use Rattle.std.proofs.Common.{Some, None}
use Rattle.query_meaning.specs.declared.token.Token.TheVariants.{Word, Sign}
use Rattle.query_meaning.specs.declared.keyword.Keyword.TheVariants as keyword
use Rattle.mdx_reader.specs.declared.place.Which.TheVariants as which
use Rattle.mdx_reader.specs.declared.place.Place.TheVariants as place
use Rattle.query_meaning.specs.Keywords.{keyword_text}
use Rattle.mdx_reader.specs.Places.{rest_of}
use Rattle.mdx_reader.specs.AxisMoves as axes
use Rattle.mdx_reader.specs.AxisMoves.{head_of}
use Rattle.text_forms.specs.Carried.{took_at}
use Rattle.mdx_reader.proofs.in_axes.end_columns.Goals as goal

pub returns-then-is_sign-clause-takes : goal.returns-then-is_sign-clause-takes
returns-then-is_sign-clause-takes c = λ at. took_at rest_of (rest_of (place.AfterColumns c.args.columns)) at c.args.token (Sign 44) (Some (place.AnAxis (which.Rows c.args.columns))) c.if-is_sign.ensures (axes.comma_taken c.args.columns at)

pub returns-then-is_word-clause-takes : goal.returns-then-is_word-clause-takes
returns-then-is_word-clause-takes c = λ at. took_at rest_of (rest_of (place.AfterColumns c.args.columns)) at c.args.token (Word (keyword_text keyword.From)) (Some (place.ACube c.args.columns None)) c.if-is_word.ensures (axes.from_taken c.args.columns at)

-- That `end_axis` ensures what it says.
use Rattle.std.proofs.Common.{refl, ap}
use Rattle.query_meaning.specs.declared.token.Token.TheVariants.{Word}
use Rattle.query_meaning.specs.declared.keyword.Keyword.TheVariants as keyword
use Rattle.mdx_reader.specs.declared.place.Which.TheVariants as which
use Rattle.mdx_reader.specs.declared.place.Place.TheVariants as place
use Rattle.query_meaning.specs.Keywords.{keyword_text}
use Rattle.mdx_reader.specs.AxisMoves as axes
use Rattle.mdx_reader.specs.AxisMoves.{head_of}
use Rattle.text_forms.specs.Carried.{taken}
use Rattle.mdx_reader.specs.Places.{rest_of}
use Rattle.mdx_reader.proofs.in_axes.end_axis.Goals as goal

pub returns-then-is_word-clause-takes : goal.returns-then-is_word-clause-takes
returns-then-is_word-clause-takes c = λ at. taken rest_of (place.On c.args.which c.args.axis) (place.On which.Columns c.args.axis) at c.args.token (Word (keyword_text keyword.Columns)) (place.AfterColumns c.args.axis) (place.AfterColumns c.args.axis) (ap (λ w. place.On w c.args.axis) c.in-Columns.is) c.if-is_word.ensures refl (axes.first_on which.Columns c.args.axis at)

pub returns-then-is_word-2-clause-takes : goal.returns-then-is_word-2-clause-takes
returns-then-is_word-2-clause-takes c = λ at. taken rest_of (place.On c.args.which c.args.axis) (place.On which.Columns c.args.axis) at c.args.token (Word (keyword_text keyword.Zero)) (place.AfterColumns c.args.axis) (place.AfterColumns c.args.axis) (ap (λ w. place.On w c.args.axis) c.in-Columns.is) c.if-is_word-2.ensures refl (axes.second_on which.Columns c.args.axis at)

pub returns-then-is_word-3-clause-takes : goal.returns-then-is_word-3-clause-takes
returns-then-is_word-3-clause-takes c = λ at. let w = which.Rows c.in-Rows.columns in taken rest_of (place.On c.args.which c.args.axis) (place.On w c.args.axis) at c.args.token (Word (keyword_text keyword.Rows)) (place.AfterRows c.in-Rows.columns c.args.axis) (place.AfterRows c.in-Rows.columns c.args.axis) (ap (λ w. place.On w c.args.axis) c.in-Rows.is) c.if-is_word-3.ensures refl (axes.first_on w c.args.axis at)

pub returns-then-is_word-4-clause-takes : goal.returns-then-is_word-4-clause-takes
returns-then-is_word-4-clause-takes c = λ at. let w = which.Rows c.in-Rows.columns in taken rest_of (place.On c.args.which c.args.axis) (place.On w c.args.axis) at c.args.token (Word (keyword_text keyword.One)) (place.AfterRows c.in-Rows.columns c.args.axis) (place.AfterRows c.in-Rows.columns c.args.axis) (ap (λ w. place.On w c.args.axis) c.in-Rows.is) c.if-is_word-4.ensures refl (axes.second_on w c.args.axis at)

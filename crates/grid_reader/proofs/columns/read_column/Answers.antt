-- That `read_column` reads the title of a column's line.
use Rattle.std.proofs.Common.{[], ◌∷◌, Some}
use Rattle.std.proofs.lemmas.Bool.Decides.{Decides-eqb}
use Rattle.std.proofs.lemmas.Slice.Eq.{strip_prefix_is}
use Rattle.grid_reader.specs.Lines.{IsColumnLine}
use Rattle.grid_reader.specs.Reading.{IsTitleAt, ReadsAs}
use Rattle.grid_reader.proofs.GridFacts.{column_read, ok_then}
use Rattle.grid_reader.proofs.columns.read_column.Goals as goal

pub returns-in-Some : goal.returns-in-Some
returns-in-Some c =
    let parts = strip_prefix_is Decides-eqb c.args.line.now (67 ∷ 9 ∷ []) (Some c.in-Some.title) c.in-Some.ensures.cases in
    ok_then c.read_title.result (ReadsAs IsTitleAt c.in-Some.title.now) (ReadsAs IsColumnLine c.args.line.now) c.read_title.ensures (λ r own. column_read c.args.line.now c.in-Some.title.now r parts own)

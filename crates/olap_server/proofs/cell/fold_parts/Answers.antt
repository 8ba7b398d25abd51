-- That `fold_parts` ensures what it says.
use Rattle.std.proofs.Common.{IfOk}
use Rattle.rayon.proofs.ToStd.{slice-AllZip}
use Rattle.csv_records.specs.Files.{file_records}
use Rattle.olap_server.specs.Parted.{IsPart}
use Rattle.olap_server.proofs.PartFacts.{all_ok}
use Rattle.olap_server.proofs.cell.fold_parts.Goals as goal

pub returns-in-Ok-Ok : goal.returns-in-Ok-Ok
returns-in-Ok-Ok g c =
    let got = c.in-Ok-Ok.ensures in
    let made = rw c.in-Ok-Ok.field-0-is at got.2 in
    let chain = rw (c.map.ensures.base, c.map.ensures.f, c.with_min_len.ensures.base) at got.1 in
    let slice = rw c.par_iter.ensures at chain.1 in
    let zipped = slice-AllZip chain.0 c.args.parts.now slice (λ bytes r. IfOk r (λ part. IsPart c.args.bound.now.query c.args.bound.now.header (file_records bytes.now) part)) got.0 chain.2 in
    rw made.2 (all_ok _ _ c.args.parts.now made.0 (rw made.1 at zipped))

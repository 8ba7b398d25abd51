-- Names that are the same in lower case are the same except for case.
use Rattle.std.proofs.Common.{rules}
use Rattle.std.proofs.lemmas.Slice.Eq.{bytes_eq-Decides}
use Rattle.catalog_tables.proofs.matching.Likeness.holds.Goals as goal

pub returns-in-ButCase : goal.returns-in-ButCase
returns-in-ButCase c = search (rules, bytes_eq-Decides)

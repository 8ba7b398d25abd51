-- That `is_same_but_case` ensures what it says.
use Rattle.std.proofs.Common.{rules}
use Rattle.std.proofs.lemmas.Slice.Eq.{bytes_eq-Decides}
use Rattle.olap_plain.proofs.catalogs.is_same_but_case.Goals as goal

pub returns : goal.returns
returns c = search (rules, bytes_eq-Decides)

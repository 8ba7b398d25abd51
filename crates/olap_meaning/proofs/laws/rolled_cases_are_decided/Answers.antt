-- That `rolled_cases_are_decided` ensures what it says.
use Rattle.std.proofs.Common.{refl}
use Rattle.olap_meaning.proofs.laws.rolled_cases_are_decided.Goals as goal

pub returns : goal.returns
returns c = record {
  one_open = refl;
  both_values = refl;
  one_value = refl;
  overlap = refl;
  other_value = refl;
  no_values = refl;
  two_versions = refl;
  distinct = refl;
  no_more = refl;
  own_column = refl;
  uncovered = refl;
  two_splits = refl;
  full_split = refl;
  full_beside = refl;
  open_beside = refl;
  two_lists = refl;
  behind_other = refl;
  other_measure = refl;
  other_cube = refl;
  no_values_uncovered = refl;
}

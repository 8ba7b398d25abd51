-- That no member and no hierarchy of a catalog has an empty name.
use Rattle.std.specs.Prelude.{ℕ, ◌≡◌, ◌≢◌, ◌<◌, List, [], Some, length, slice_get}
use Rattle.olap_meaning.specs.declared.tables.Catalog.{Catalog}
use Rattle.olap_meaning.specs.declared.cells.Member.TheVariants as member
use Rattle.olap_meaning.specs.declared.cells.LevelRef.TheVariants.{Whole}
use Rattle.olap_meaning.specs.Catalog.{values, member_name, root_name}
use Rattle.olap_meaning.specs.Catalog.{all_text}
use Rattle.olap_meaning.specs.MemberOf.{measure_count}

-- no hierarchy's full name is empty, no all member's name, no measure's, and no value of a column
pub record HasNames (catalog : Catalog) : Type 0 where
  pub hierarchies : (h : ℕ) → h < length catalog.hierarchies → root_name catalog (Whole h) ≢ []
  pub all_members : (h : ℕ) (name : List ℕ) → all_text catalog h ≡ Some name → name ≢ []
  pub measures : (cube m : ℕ) → m < measure_count catalog cube
      → member_name catalog cube (member.Measure m) ≢ []
  pub values : (column value : ℕ) (text : List ℕ)
      → slice_get (values catalog column) value ≡ Some text → text ≢ []

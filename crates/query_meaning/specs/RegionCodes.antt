-- Regions as lists of data, by which a proof tells them apart.
use Rattle.std.specs.Prelude.{ℕ, List, [], ◌∷◌, ◌++◌, ◌≡◌, ◌⊎◌, Bool, true, false}
use Rattle.std.specs.Coded.{Coded, code_by, coded×, coded_ℕ, coded_bool, coded_list, coded⊎}
use Rattle.std.proofs.Common.{inl, inr, refl, sym, ap, ◌∙◌, append_assoc}
use Rattle.std.proofs.lemmas.List.{append-nil}
use Rattle.query_meaning.specs.declared.region_text.Joins.{Joins}
use Rattle.query_meaning.specs.declared.region_text.Joins.TheVariants as joins
use Rattle.query_meaning.specs.RegionTree.{RegionTree, RegionTrees, Member, Range, Measures, Parts, none, more, before, pushed}

-- a path, two paths, the measures or the front of some parts, or their end
abbrev pub Item : Type 0
Item = (List (List ℕ) ⊎ (List (List ℕ) × List (List ℕ))) ⊎ (Bool ⊎ Bool)

abbrev pub item_code : Coded Item
item_code = coded⊎ (coded⊎ (coded_list (coded_list coded_ℕ)) (coded× (coded_list (coded_list coded_ℕ)) (coded_list (coded_list coded_ℕ)))) (coded⊎ coded_bool coded_bool)

abbrev pub bool_of : Joins → Bool
bool_of joins.Crossjoin = true
bool_of joins.Union = false

abbrev pub join_of : Bool → Joins
join_of true = joins.Crossjoin
join_of false = joins.Union

abbrev mutual
  pub items_of : RegionTree → List Item
  items_of (Member path) = inl (inl path) ∷ []
  items_of (Range first last) = inl (inr (first, last)) ∷ []
  items_of Measures = inr (inl true) ∷ []
  items_of (Parts join parts) = inr (inl false) ∷ (all_items parts ++ inr (inr (bool_of join)) ∷ [])

  pub all_items : RegionTrees → List Item
  all_items none = []
  all_items (more part parts) = items_of part ++ all_items parts

-- a region after those of the innermost parts
abbrev pub added : RegionTree → List RegionTrees → List RegionTrees
added part [] = []
added part (parts ∷ around) = pushed parts part ∷ around

abbrev pub closed : Joins → List RegionTrees → List RegionTrees
closed join [] = []
closed join (parts ∷ around) = added (Parts join parts) around

abbrev pub read_items : List Item → List RegionTrees → List RegionTrees
read_items [] around = around
read_items (inl (inl path) ∷ items) around = read_items items (added (Member path) around)
read_items (inl (inr paths) ∷ items) around = read_items items (added (Range paths.0 paths.1) around)
read_items (inr (inl true) ∷ items) around = read_items items (added Measures around)
read_items (inr (inl false) ∷ items) around = read_items items (none ∷ around)
read_items (inr (inr join) ∷ items) around = read_items items (closed (join_of join) around)

pub before_none : (parts : RegionTrees) → before parts none ≡ parts
before_none none = refl
before_none (more part parts) = ap (more part) (before_none parts)

pub before_assoc : (a b c : RegionTrees) → before (before a b) c ≡ before a (before b c)
before_assoc none b c = refl
before_assoc (more part a) b c = ap (more part) (before_assoc a b c)

same_join : (join : Joins) → join_of (bool_of join) ≡ join
same_join joins.Crossjoin = refl
same_join joins.Union = refl

mutual
  pub reads_one : (part : RegionTree) (front : RegionTrees) (around : List RegionTrees) (items : List Item) → read_items (items_of part ++ items) (front ∷ around) ≡ read_items items (pushed front part ∷ around)
  reads_one (Member path) front around items = refl
  reads_one (Range first last) front around items = refl
  reads_one Measures front around items = refl
  reads_one (Parts join parts) front around items =
      ap (λ x. read_items x (none ∷ front ∷ around)) (append_assoc (all_items parts) (inr (inr (bool_of join)) ∷ []) items)
      ∙ reads_all parts none (front ∷ around) (inr (inr (bool_of join)) ∷ items)
      ∙ ap (λ j. read_items items (closed j (parts ∷ front ∷ around))) (same_join join)

  pub reads_all : (parts : RegionTrees) (front : RegionTrees) (around : List RegionTrees) (items : List Item) → read_items (all_items parts ++ items) (front ∷ around) ≡ read_items items (before front parts ∷ around)
  reads_all none front around items = ap (λ x. read_items items (x ∷ around)) (sym (before_none front))
  reads_all (more part parts) front around items =
      ap (λ x. read_items x (front ∷ around)) (append_assoc (items_of part) (all_items parts) items)
      ∙ reads_one part front around (all_items parts ++ items)
      ∙ reads_all parts (pushed front part) around items
      ∙ ap (λ x. read_items items (x ∷ around)) (before_assoc front (more part none) parts)

abbrev pub all_of : List RegionTrees → RegionTrees
all_of [] = none
all_of (parts ∷ around) = parts

abbrev pub first_part : RegionTrees → RegionTree
first_part none = Measures
first_part (more part parts) = part

pub region_again : (part : RegionTree) → first_part (all_of (read_items (items_of part) (none ∷ []))) ≡ part
region_again part = ap (λ x. first_part (all_of (read_items x (none ∷ [])))) (sym (append-nil (items_of part))) ∙ ap (λ x. first_part (all_of x)) (reads_one part none [] [])

pub regions_again : (parts : RegionTrees) → all_of (read_items (all_items parts) (none ∷ [])) ≡ parts
regions_again parts = ap (λ x. all_of (read_items x (none ∷ []))) (sym (append-nil (all_items parts))) ∙ ap all_of (reads_all parts none [] [])

abbrev pub region_code : Coded RegionTree
region_code = code_by (List Item) (coded_list item_code) items_of (λ items. first_part (all_of (read_items items (none ∷ [])))) region_again

abbrev pub regions_code : Coded RegionTrees
regions_code = code_by (List Item) (coded_list item_code) all_items (λ items. all_of (read_items items (none ∷ []))) regions_again

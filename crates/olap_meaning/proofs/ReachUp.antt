-- A region that covers a cell covers each cell with fewer of its columns.
use Rattle.std.proofs.Common.{◌≡◌, ◌∙◌, ap, ℕ, List, [], ◌∷◌, Bool, true, not, ◌||◌, ◌==◌, inl, inr, Contains}
use Rattle.std.specs.List.{list_any, list_all}
use Rattle.std.proofs.lemmas.Bool.{and_parts, and_from, or_cases, or_left, or_right}
use Rattle.std.proofs.lemmas.List.Elements.{All-contains, Contains-get_or}
use Rattle.std.proofs.lemmas.List.Sums.{AllPass-from_list_all, list_all-from_AllPass}
use Rattle.olap_meaning.specs.declared.cells.Cell.{Cell}
use Rattle.olap_meaning.specs.declared.regions.RegionBox.{RegionBox}
use Rattle.olap_meaning.specs.Covering.{box_covers, of_measure, among, HasFewerColumns}
use Rattle.olap_meaning.specs.Laws.{RegionsReachUp}

pub any_weaker : {A : Type 0} (p q : A → Bool) → ((x : A) → p x ≡ true → q x ≡ true) → (xs : List A) → list_any p xs ≡ true → list_any q xs ≡ true
any_weaker p q w [] h = h
any_weaker p q w (x ∷ xs) h = elim (or_cases (p x) (list_any p xs) h) [ inl e ↦ or_left (q x) (list_any q xs) (w x e) | inr e ↦ or_right (q x) (list_any q xs) (any_weaker p q w xs e) ]

-- a test of each element of a list holds of each element of a list within it
all_within : {A : Type 0} (p : A → Bool) (few many : List A) → ((x : A) → Contains few x → Contains many x) → list_all p many ≡ true → list_all p few ≡ true
all_within p few many within h =
    list_all-from_AllPass p few (λ k d l. All-contains (λ x. p x ≡ true) many _ (AllPass-from_list_all p many h) (within _ (Contains-get_or few k d l)))

box_reaches : (fewer more : Cell) → HasFewerColumns fewer more → (box : RegionBox) → box_covers box more ≡ true → box_covers box fewer ≡ true
box_reaches fewer more few box h =
    let parts : (of_measure box.measures more.measure ≡ true) × (list_all inside more.at ≡ true) = and_parts (of_measure box.measures more.measure) (list_all inside more.at) h in
    and_from (of_measure box.measures fewer.measure) (list_all inside fewer.at) (ap (of_measure box.measures) few.measure ∙ parts.0) (all_within inside fewer.at more.at few.pairs parts.1)
  where
    inside : ℕ × ℕ → Bool
    inside pair = list_all (λ column. not (column.0 == pair.0) || among column.1 pair.1) box.columns

pub regions_reach_up : RegionsReachUp
regions_reach_up region fewer more few h =
    let parts : ((region.cube == more.cube) ≡ true) × (list_any (λ box. box_covers box more) region.boxes ≡ true) = and_parts (region.cube == more.cube) (list_any (λ box. box_covers box more) region.boxes) h in
    and_from (region.cube == fewer.cube) (list_any (λ box. box_covers box fewer) region.boxes)
    (ap (λ c. region.cube == c) few.cube ∙ parts.0) (any_weaker _ _ (box_reaches fewer more few) region.boxes parts.1)

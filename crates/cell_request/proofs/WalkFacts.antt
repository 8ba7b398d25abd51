-- The boxes of a cube's hierarchies in turn: their columns rise, and each column and value is the cube's.
use Rattle.std.proofs.Common.{◌≡◌, ◌∙◌, ◌+◌, ◌++◌, ℕ, zero, suc, Bool, true, false, List, [], ◌∷◌, Some, refl, sym, ap, subst, map, flat_map, slice_get, drop, append_assoc, arith, if◌then◌else◌}
use Rattle.std.specs.List.{All, list_all}
use Rattle.std.specs.Option.{option_map_or}
use Rattle.std.proofs.lemmas.List.{map-append}
use Rattle.std.proofs.lemmas.List.Elements.{All-head, All-same, All-tail}
use Rattle.std.proofs.lemmas.List.Folds.{list_all-append}
use Rattle.std.proofs.lemmas.Bool.{and_from}
use Rattle.olap_catalog.specs.Parts.{has_levels}
use Rattle.olap_meaning.specs.declared.tables.Catalog.{Catalog}
use Rattle.olap_meaning.specs.declared.tables.Hierarchy.{Hierarchy}
use Rattle.olap_meaning.specs.Legal.{rise}
use Rattle.olap_meaning.specs.MemberOf.{level_columns}
use Rattle.cell_request.specs.declared.defaults.DefaultBox.{DefaultBox}
use Rattle.cell_request.specs.Boxes.{is_own, is_within, IsBoxOf, IsFront}
use Rattle.cell_request.specs.Defaults.{default_box, default_boxes}
use Rattle.cell_request.proofs.BoxFacts.{box_front, box_own}
use Rattle.cell_request.proofs.DefaultFacts.{boxes_first, boxes_from}
use Rattle.cell_request.proofs.RiseFacts.{cut, rise_front}

-- the columns of some pairs
abbrev pub columns_in : List (ℕ × ℕ) → List ℕ
columns_in pairs = map (λ pair. pair.0) pairs

-- the columns of the levels of some hierarchies
abbrev pub all_levels : List Hierarchy → List ℕ
all_levels hierarchies = flat_map (λ hierarchy. hierarchy.levels) hierarchies

-- the first of the items from a place on
first_there : {A : Type 0} (xs : List A) (i : ℕ) (x : A) (rest : List A) → drop i xs ≡ x ∷ rest → (slice_get xs i ≡ Some x) × (drop (suc i) xs ≡ rest)
first_there [] zero x rest is = absurd (cc is)
first_there [] (suc i) x rest is = absurd (cc is)
first_there (y ∷ xs) zero x rest is = let same : y ≡ x = cc is in let later : xs ≡ rest = cc is in (ap (λ k. Some k) same, later)
first_there (y ∷ xs) (suc i) x rest is = first_there xs i x rest is

-- some pairs are the cube's, and their columns rise after others
pub record AreOwn (catalog : Catalog) (cube : ℕ) (before : List ℕ) (at : List (ℕ × ℕ)) : Type 0 where
  pub rising : rise (before ++ columns_in at) ≡ true
  pub own : list_all (is_own catalog cube) at ≡ true

-- what stands for a hierarchy is a box of it
abbrev pub StandsFor : Catalog → (DefaultBox → List (ℕ × ℕ)) → DefaultBox → Type 0
StandsFor catalog box_of kept = IsBoxOf catalog kept.hierarchy (box_of kept)

module _ (catalog : Catalog) (cube : ℕ) (box_of : DefaultBox → List (ℕ × ℕ)) (leveled : list_all (has_levels catalog.columns) catalog.hierarchies ≡ true) where
  -- the box of one hierarchy, and then those of later ones
  one_more : (i : ℕ) (x : Hierarchy) (before later_levels : List ℕ) (later : List DefaultBox) → slice_get catalog.hierarchies i ≡ Some x → is_within catalog cube x ≡ true → StandsFor catalog box_of (default_box catalog cube i)
      → rise (before ++ (x.levels ++ later_levels)) ≡ true → ((columns : List ℕ) → rise (columns ++ later_levels) ≡ true → AreOwn catalog cube columns (flat_map box_of later)) → AreOwn catalog cube before (flat_map box_of (default_box catalog cube i ∷ later))
  one_more i x before later_levels later there within is up rest =
      let pairs : List (ℕ × ℕ) = box_of (default_box catalog cube i) in
      let levels : level_columns catalog i ≡ x.levels = ap (λ o. option_map_or (λ (y : Hierarchy). y.levels) o []) there in
      let front : IsFront (columns_in pairs) x.levels = subst (λ (ls : List ℕ). IsFront (columns_in pairs) ls) levels (box_front catalog i pairs is) in
      let more : AreOwn catalog cube (before ++ columns_in pairs) (flat_map box_of later) = rest (before ++ columns_in pairs) (rise_front before (columns_in pairs) x.levels later_levels front up) in
      record {
        rising =
            ap rise (ap (λ cs. before ++ cs) (map-append (λ (pair : ℕ × ℕ). pair.0) pairs (flat_map box_of later)) ∙ sym (append_assoc before (columns_in pairs) (columns_in (flat_map box_of later))))
            ∙ more.rising;
        own =
            list_all-append (is_own catalog cube) pairs (flat_map box_of later)
            ∙ and_from _ _ (box_own catalog cube i pairs leveled (ap (λ o. option_map_or (is_within catalog cube) o false) there ∙ within) is) more.own;
      }

  -- the boxes of the hierarchies from a place on
  walk : (hierarchies : List Hierarchy) (i : ℕ) (before : List ℕ) → drop i catalog.hierarchies ≡ hierarchies → All (StandsFor catalog box_of) (boxes_from catalog cube i hierarchies) → rise (before ++ all_levels hierarchies) ≡ true
      → AreOwn catalog cube before (flat_map box_of (boxes_from catalog cube i hierarchies))
  walk [] i before are boxes up = record { rising = up; own = refl }
  walk (x ∷ hierarchies) i before are boxes up =
      let there = first_there catalog.hierarchies i x hierarchies are in
      let next : drop (i + 1) catalog.hierarchies ≡ hierarchies = let e : i + 1 ≡ suc i = omega arith in ap (λ n. drop n catalog.hierarchies) e ∙ there.1 in
      let split = boxes_first catalog cube i x hierarchies in
      subst (λ (kept : List DefaultBox). AreOwn catalog cube before (flat_map box_of kept)) (sym split)
      (by there.0 (λ columns rest. walk hierarchies (i + 1) columns next rest) (is_within catalog cube x) refl (All-same (StandsFor catalog box_of) _ _ (sym split) boxes))
    where
      later : List DefaultBox
      later = boxes_from catalog cube (i + 1) hierarchies

      by : slice_get catalog.hierarchies i ≡ Some x → ((columns : List ℕ) → All (StandsFor catalog box_of) later → rise (columns ++ all_levels hierarchies) ≡ true → AreOwn catalog cube columns (flat_map box_of later))
          → (b : Bool) → is_within catalog cube x ≡ b → All (StandsFor catalog box_of) ((if b then default_box catalog cube i ∷ [] else []) ++ later) → AreOwn catalog cube before (flat_map box_of ((if b then default_box catalog cube i ∷ [] else []) ++ later))
      by there rest true within all =
          one_more i x before (all_levels hierarchies) later there within (All-head (StandsFor catalog box_of) (default_box catalog cube i) later all) up
          (λ columns. rest columns (All-tail (StandsFor catalog box_of) (default_box catalog cube i) later all))
      by there rest false without all = rest before all (cut before x.levels (all_levels hierarchies) up)

  -- the boxes of all hierarchies of the cube
  pub all_own : rise (flat_map (λ hierarchy. hierarchy.levels) catalog.hierarchies) ≡ true → All (StandsFor catalog box_of) (default_boxes catalog cube) → AreOwn catalog cube [] (flat_map box_of (default_boxes catalog cube))
  all_own up boxes = walk catalog.hierarchies 0 [] refl boxes up

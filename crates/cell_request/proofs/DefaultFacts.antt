-- The boxes of the default members of a cube's hierarchies, one after another.
use Rattle.std.proofs.Common.{cond, ◌≡◌, ◌∙◌, ◌+◌, ◌<◌, ◌≤◌, ◌++◌, ℕ, suc, Bool, true, false, List, [], ◌∷◌, Option, Some, None, refl, sym, ap, map, filter, slice_get, drop, length, append_assoc, arith, if◌then◌else◌}
use Rattle.std.specs.List.{All, enumerate_from}
use Rattle.std.specs.Option.{option_map_or}
use Rattle.std.proofs.lemmas.List.{append-nil, drop_all}
use Rattle.std.proofs.lemmas.List.Elements.{All-append, All-nil, All-same}
use Rattle.olap_meaning.specs.declared.cells.LevelRef.TheVariants.{Whole}
use Rattle.olap_meaning.specs.declared.cells.Member.{Member}
use Rattle.olap_meaning.specs.declared.tables.Catalog.{Catalog}
use Rattle.olap_meaning.specs.declared.tables.Hierarchy.{Hierarchy}
use Rattle.olap_meaning.specs.Catalog.{box, default_member}
use Rattle.olap_meaning.proofs.Lists.{drop_at, missing}
use Rattle.cell_request.specs.declared.defaults.DefaultBox.{DefaultBox}
use Rattle.cell_request.specs.Boxes.{is_within, HasOwnBox}
use Rattle.cell_request.specs.Defaults.{default_box, default_boxes, default_boxes_at}

-- the boxes of the hierarchies from a place on, of which these are the first
abbrev pub boxes_from : Catalog → ℕ → ℕ → List Hierarchy → List DefaultBox
boxes_from catalog cube i hierarchies = map (default_box catalog cube) (map (λ h. h.0) (filter (λ h. is_within catalog cube h.1) (enumerate_from i hierarchies)))

-- some boxes are those of the hierarchies before a place
pub record AreBefore (catalog : Catalog) (cube : ℕ) (kept : List DefaultBox) (i : ℕ) : Type 0 where
  pub joins : default_boxes catalog cube ≡ kept ++ boxes_from catalog cube i (drop i catalog.hierarchies)
  pub own : All (HasOwnBox catalog) kept

-- before the first there are none
pub boxes_none : (catalog : Catalog) (cube : ℕ) → AreBefore catalog cube [] 0
boxes_none catalog cube = record { joins = refl; own = All-nil (HasOwnBox catalog) }

-- the box of the first of some hierarchies comes first, where it is of a dimension of the cube
pub boxes_first : (catalog : Catalog) (cube i : ℕ) (hierarchy : Hierarchy) (hierarchies : List Hierarchy)
    → boxes_from catalog cube i (hierarchy ∷ hierarchies) ≡ (if is_within catalog cube hierarchy then default_box catalog cube i ∷ [] else []) ++ boxes_from catalog cube (i + 1) hierarchies
boxes_first catalog cube i hierarchy hierarchies = by (is_within catalog cube hierarchy)
  where
    rest : List (ℕ × Hierarchy)
    rest = filter (λ (h : ℕ × Hierarchy). is_within catalog cube h.1) (enumerate_from (i + 1) hierarchies)

    by : (b : Bool) → map (default_box catalog cube) (map (λ (h : ℕ × Hierarchy). h.0) (cond b ((i, hierarchy) ∷ rest) rest)) ≡ (if b then default_box catalog cube i ∷ [] else []) ++ boxes_from catalog cube (i + 1) hierarchies
    by true = refl
    by false = refl

module _ (catalog : Catalog) (cube i : ℕ) where
  -- the boxes from a place on begin with that of the hierarchy there
  box_first : (hierarchy : Hierarchy) → slice_get catalog.hierarchies i ≡ Some hierarchy
      → boxes_from catalog cube i (drop i catalog.hierarchies) ≡ default_boxes_at catalog cube i ++ boxes_from catalog cube (i + 1) (drop (i + 1) catalog.hierarchies)
  box_first hierarchy at =
      let next : suc i ≡ i + 1 = omega arith in
      let later = boxes_from catalog cube (i + 1) (drop (i + 1) catalog.hierarchies) in
      ap (boxes_from catalog cube i) (drop_at catalog.hierarchies i hierarchy at ∙ ap (λ n. hierarchy ∷ drop n catalog.hierarchies) next)
      ∙ boxes_first catalog cube i hierarchy (drop (i + 1) catalog.hierarchies)
      ∙ sym (ap (λ o. (if option_map_or (is_within catalog cube) o false then default_box catalog cube i ∷ [] else []) ++ later) at)

  -- one more
  pub boxes_more : (kept after : List DefaultBox) → i < length catalog.hierarchies → AreBefore catalog cube kept i → All (HasOwnBox catalog) (default_boxes_at catalog cube i) → after ≡ kept ++ default_boxes_at catalog cube i → AreBefore catalog cube after (i + 1)
  boxes_more kept after within so_far own more = by (slice_get catalog.hierarchies i) refl
    where
      later : List DefaultBox
      later = boxes_from catalog cube (i + 1) (drop (i + 1) catalog.hierarchies)

      by : (o : Option Hierarchy) → slice_get catalog.hierarchies i ≡ o → AreBefore catalog cube after (i + 1)
      by None there = absurd (missing catalog.hierarchies i within there)
      by (Some hierarchy) there = record {
        joins =
            so_far.joins
            ∙ ap (λ boxes. kept ++ boxes) (box_first hierarchy there)
            ∙ sym (append_assoc kept (default_boxes_at catalog cube i) later)
            ∙ ap (λ boxes. boxes ++ later) (sym more);
        own = All-same (HasOwnBox catalog) after _ more (All-append (HasOwnBox catalog) kept (default_boxes_at catalog cube i) so_far.own own);
      }

  -- after the last there are all
  pub boxes_all : (kept : List DefaultBox) → length catalog.hierarchies ≤ i → AreBefore catalog cube kept i → kept ≡ default_boxes catalog cube
  boxes_all kept past is = sym (is.joins ∙ ap (λ hs. kept ++ boxes_from catalog cube i hs) (drop_all i catalog.hierarchies past) ∙ append-nil kept)

abbrev pub kept_with : ℕ → List (ℕ × ℕ) → DefaultBox
kept_with h pairs = record { hierarchy = h; pairs = pairs }

-- the kept box of a hierarchy whose default member is known
pub box_known : (catalog : Catalog) (cube h : ℕ) (o : Option Member) (pairs : List (ℕ × ℕ)) → default_member catalog cube (Whole h) ≡ o → pairs ≡ option_map_or (box catalog) o [] → ◌≡◌ {A = DefaultBox} (record { hierarchy = h; pairs = pairs }) (default_box catalog cube h)
box_known catalog cube h o pairs found is =
    let same : pairs ≡ option_map_or (box catalog) (default_member catalog cube (Whole h)) [] = is ∙ ap (λ (x : Option Member). option_map_or (box catalog) x []) (sym found) in
    ap (λ (x : List (ℕ × ℕ)). kept_with h x) same

-- the box alone of a hierarchy of a cube's dimensions
pub box_within : (catalog : Catalog) (cube h : ℕ) (kept : DefaultBox) → option_map_or (is_within catalog cube) (slice_get catalog.hierarchies h) false ≡ true → kept ≡ default_box catalog cube h → default_boxes_at catalog cube h ≡ kept ∷ []
box_within catalog cube h kept within is = ap (λ b. if b then default_box catalog cube h ∷ [] else []) within ∙ ap (λ (x : DefaultBox). x ∷ []) (sym is)

-- What braces mean, by their items.
use Rattle.std.proofs.Common.{◌≡◌, ◌∙◌, ◌+◌, ℕ, Bool, true, false, not, List, [], ◌∷◌, Option, None, Some, Ok, Err, All, Vec, IfSome, arith, refl, sym, ap, find, is_some, length, map, min, option_copied, option_map, sum, if◌then◌else◌}
use Rattle.std.specs.Borrow.{Bor}
use Rattle.std.specs.List.{flat_map}
use Rattle.std.specs.Option.{option_map_or}
use Rattle.std.specs.declared.alloc.Global.{Global}
use Rattle.std.proofs.lemmas.List.{length-append}
use Rattle.std.proofs.lemmas.List.Elements.{All-head, All-map, All-nil, All-same, All-tail, All-weaker}
use Rattle.std.proofs.lemmas.List.Folds.{flat_map-map}
use Rattle.std.proofs.lemmas.List.Sums.{sum_by-cons}
use Rattle.olap_meaning.specs.MemberOf.{IsLevelIn}
use Rattle.olap_meaning.specs.Results.{unless}
use Rattle.olap_meaning.specs.declared.cells.LevelRef.{LevelRef}
use Rattle.olap_meaning.specs.declared.tables.Catalog.{Catalog}
use Rattle.olap_meaning.proofs.Lists.{find-map, option_map-map}
use Rattle.query_meaning.specs.Resolution.{Item, MixedSet, Refusal, is_mixed, joined, mixed, most_told}
use Rattle.cell_request.specs.declared.parts.ItemPart.{ItemPart}
use Rattle.cell_request.specs.declared.plan.Plan.{Plan, Joined}
use Rattle.cell_request.specs.Parts.{is_other, item_of, part_meant, IsItemOf, IsPartOf}
use Rattle.cell_request.specs.Plans.{listed, IsPlanOf}
use Rattle.cell_request.proofs.PartFacts.{meant_so}
use Rattle.cell_request.proofs.PlanFacts.{joined_listed, joined_own}

pub map_or_map : {A B C : Type 0} (f : B → C) (g : A → B) (o : Option A) (d : C) → option_map_or f (option_map g o) d ≡ option_map_or (λ x. f (g x)) o d
map_or_map f g None d = refl
map_or_map f g (Some x) d = refl

-- the first item that is not open
abbrev pub first_closed : List ItemPart → Option ItemPart
first_closed items = find (λ item. not item.part.is_open) items

-- why items may not stand in braces
abbrev pub others : List LevelRef → List ItemPart → Option Refusal
others roots items = option_map (λ item. MixedSet item.at) (find (is_other roots) items)

module _ (catalog : Catalog) (cube : ℕ) (items : List ItemPart) where
  abbrev meant : List Item
  meant = map (item_of catalog cube) items

  -- what braces mean where their roots are known
  pub braces_mean : (roots : List LevelRef) → roots ≡ option_map_or (λ item. item.part.roots) (first_closed items) [] → joined meant
      ≡ unless (others roots items)
      (Ok (record { roots = roots; is_open = option_map_or (λ item. false) (first_closed items) true; tuples = flat_map (λ item. listed catalog cube item.part.plan) items }))
  braces_mean roots is =
      ap (λ o. unless (mixed (option_map_or (λ item. item.meant.roots) o []) meant)
      (Ok (record { roots = option_map_or (λ item. item.meant.roots) o []; is_open = option_map_or (λ item. false) o true; tuples = flat_map (λ item. item.meant.tuples) meant })))
      (find-map (λ item. not item.meant.is_open) (item_of catalog cube) items)
      ∙ ap (λ r. unless (mixed r meant) (Ok (record { roots = r; is_open = option_map_or (λ item. false) (option_map (item_of catalog cube) (first_closed items)) true; tuples = flat_map (λ item. item.meant.tuples) meant })))
      (map_or_map (λ item. item.meant.roots) (item_of catalog cube) (first_closed items) [] ∙ sym is)
      ∙ ap (λ m. unless m (Ok (record { roots = roots; is_open = option_map_or (λ item. false) (option_map (item_of catalog cube) (first_closed items)) true; tuples = flat_map (λ item. item.meant.tuples) meant })))
      (ap (option_map (λ item. MixedSet item.at)) (find-map (is_mixed roots) (item_of catalog cube) items) ∙ option_map-map (λ item. MixedSet item.at) (item_of catalog cube) (find (is_other roots) items))
      ∙ ap (λ m. unless (others roots items) (Ok m)) (meant_so refl (map_or_map (λ item. false) (item_of catalog cube) (first_closed items) true) (flat_map-map (λ item. item.meant.tuples) (item_of catalog cube) items))

  -- braces with an item of other roots
  pub braces_mixed : (roots : List LevelRef) (at : ℕ) → roots ≡ option_map_or (λ item. item.part.roots) (first_closed items) [] → Some at ≡ option_map (λ item. item.at) (find (is_other roots) items) → joined meant ≡ Err (MixedSet at)
  braces_mixed roots at is found =
      braces_mean roots is
      ∙ ap (λ o. unless o (Ok (record { roots = roots; is_open = option_map_or (λ item. false) (first_closed items) true; tuples = flat_map (λ item. listed catalog cube item.part.plan) items })))
      (sym (option_map-map MixedSet (λ (item : ItemPart). item.at) (find (is_other roots) items)) ∙ ap (option_map MixedSet) (sym found))

  tuples_are : (plans : Vec Plan Global) → plans.items ≡ map (λ item. item.part.plan) items → listed catalog cube (Joined plans) ≡ flat_map (λ item. listed catalog cube item.part.plan) items
  tuples_are plans are = joined_listed catalog cube plans ∙ ap (flat_map (listed catalog cube)) are ∙ flat_map-map (listed catalog cube) (λ (item : ItemPart). item.part.plan) items

  -- braces without one
  pub braces_joined : (roots : List LevelRef) (is_open : Bool) (count : ℕ) (plans : Vec Plan Global) → roots ≡ option_map_or (λ item. item.part.roots) (first_closed items) [] → is_open ≡ option_map_or (λ item. false) (first_closed items) true → plans.items ≡ map (λ item. item.part.plan) items
      → ◌≡◌ {A = Option ℕ} None (option_map (λ item. item.at) (find (is_other roots) items)) → joined meant ≡ Ok (part_meant catalog cube (record { roots = roots; is_open = is_open; count = count; plan = Joined plans }))
  braces_joined roots is_open count plans is opens are none =
      braces_mean roots is
      ∙ ap (λ o. unless o (Ok (record { roots = roots; is_open = option_map_or (λ item. false) (first_closed items) true; tuples = flat_map (λ item. listed catalog cube item.part.plan) items })))
      (sym (option_map-map MixedSet (λ (item : ItemPart). item.at) (find (is_other roots) items)) ∙ ap (option_map MixedSet) (sym none))
      ∙ ap (λ m. Ok m) (meant_so refl (sym opens) (sym (tuples_are plans are)))

-- whether braces are open
pub opens : (o : Option (Bor ItemPart)) (is_open : Bool) → is_some o ≡ not is_open → is_open ≡ option_map_or (λ (item : ItemPart). false) (option_copied o) true
opens None true is = refl
opens None false is = absurd (cc is)
opens (Some item) true is = absurd (cc is)
opens (Some item) false is = refl

found_own : (catalog : Catalog) (cube : ℕ) (p : ItemPart → Bool) (items : List ItemPart) → All (IsItemOf catalog cube) items → IfSome (find p items) (IsItemOf catalog cube)
found_own catalog cube p [] own = tt
found_own catalog cube p (item ∷ items) own = by (p item) (found_own catalog cube p items (All-tail (IsItemOf catalog cube) item items own))
  where
    by : (b : Bool) → IfSome (find p items) (IsItemOf catalog cube) → IfSome (if b then Some item else find p items) (IsItemOf catalog cube)
    by true later = All-head (IsItemOf catalog cube) item items own
    by false later = later

first_own : (catalog : Catalog) (cube : ℕ) (o : Option ItemPart) → IfSome o (IsItemOf catalog cube) → All (IsLevelIn catalog) (option_map_or (λ item. item.part.roots) o [])
first_own catalog cube None own = All-nil (IsLevelIn catalog)
first_own catalog cube (Some item) own = own.roots

added : (most c s n m : ℕ) → c ≡ min n most → min s most ≡ min m most → min (c + s) most ≡ min (n + m) most
added most c s n m e f = omega (arith, e, f)

total : (catalog : Catalog) (cube : ℕ) (items : List ItemPart) → All (IsItemOf catalog cube) items → min (sum (map (λ item. item.part.count) items)) most_told ≡ min (length (flat_map (λ item. listed catalog cube item.part.plan) items)) most_told
total catalog cube [] own = refl
total catalog cube (item ∷ items) own =
    let here : IsPartOf catalog cube item.part = All-head (IsItemOf catalog cube) item items own in
    ap (λ n. min n most_told) (sum_by-cons (λ n. n) item.part.count (map (λ item. item.part.count) items))
    ∙ added most_told item.part.count (sum (map (λ item. item.part.count) items)) (length (listed catalog cube item.part.plan)) (length (flat_map (λ item. listed catalog cube item.part.plan) items)) here.count (total catalog cube items (All-tail (IsItemOf catalog cube) item items own))
    ∙ ap (λ n. min n most_told) (sym (length-append (listed catalog cube item.part.plan) (flat_map (λ item. listed catalog cube item.part.plan) items)))

-- the roots, the plan and the count of braces
pub braces_own : (catalog : Catalog) (cube : ℕ) (items : List ItemPart) (roots : List LevelRef) (is_open : Bool) (count : ℕ) (plans : Vec Plan Global) → All (IsItemOf catalog cube) items → roots ≡ option_map_or (λ item. item.part.roots) (first_closed items) [] → plans.items ≡ map (λ item. item.part.plan) items
    → count ≡ min (sum (map (λ item. item.part.count) items)) most_told → IsPartOf catalog cube (record { roots = roots; is_open = is_open; count = count; plan = Joined plans })
braces_own catalog cube items roots is_open count plans own is are counted = record {
  roots = All-same (IsLevelIn catalog) roots _ is (first_own catalog cube (first_closed items) (found_own catalog cube (λ item. not item.part.is_open) items own));
  plan = joined_own catalog cube plans (All-same (IsPlanOf catalog cube) plans.items _ are (All-map (IsPlanOf catalog cube) (λ (item : ItemPart). item.part.plan) items (All-weaker (IsItemOf catalog cube) (λ item. IsPlanOf catalog cube item.part.plan) (λ item part. part.plan) items own)));
  count = counted ∙ total catalog cube items own ∙ ap (λ ts. min (length ts) most_told) (sym (tuples_are catalog cube items plans are));
}

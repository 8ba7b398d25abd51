-- The entries of a map of kept loads: what is found in them, and what a change of one entry is.
use Rattle.std.proofs.Common.{◌≡◌, ◌∙◌, ◌++◌, ℕ, true, false, List, [], ◌∷◌, None, Some, refl, sym, ap, arith, inl, inr, true≢false, map, drop, length, nat_eq, option_map, find}
use Rattle.std.specs.Prelude.{◌≤◌, Option, Result, Ok, Err, IsOk, IsSome, OnOk, OnSome, ◌==◌}
use Rattle.std.specs.Map.{lookup}
use Rattle.std.proofs.lemmas.Bool.{cases_Bool}
use Rattle.std.proofs.lemmas.Bool.Decides.{nat_tests}
use Rattle.std.proofs.lemmas.List.{drop-append-le, length-append, length-map}
use Rattle.std.proofs.lemmas.List.Elements.{All-head, All-tail, All-weaker, filter-append}
use Rattle.olap_meaning.specs.declared.regions.Region.{Region}
use Rattle.olap_meaning.specs.Covering.{among, concerning, region_concerns}
use Rattle.cache_flush.specs.Loads.{KeptOf, are_different, kept_in, numbers_of, shut_off}
use Rattle.cache_flush.specs.declared.kept.Kept.{Kept}
use Rattle.cache_flush.proofs.Differing.{differ_more}
use Rattle.cache_flush.proofs.ListFacts.{map_append}
use Rattle.segment_index.specs.Numbered.{AreNumbered, AreWithin, seen}

pub eq_flips : (a b : ℕ) → (a == b) ≡ nat_eq b a
eq_flips a b = grind (arith, nat_tests)

pub on_ok : {A E P : Type 0} (r : Result A E) → IsOk r → OnOk r P → P
on_ok (Ok x) h p = p
on_ok (Err e) h p = absurd (true≢false (sym h))

pub on_some : {A P : Type 0} (r : Option A) → IsSome r → OnSome r P → P
on_some None h p = absurd (true≢false (sym h))
on_some (Some x) h p = p

-- the loads of a map's entries
abbrev pub loads_of : List Region → List (ℕ × Kept) → List KeptOf
loads_of regions entries = map (λ entry. entry.1) (seen regions entries)

-- the load of a number
pub load_looked : (regions : List Region) (es : List (ℕ × Kept)) (n : ℕ) → AreNumbered (seen regions es) → option_map (kept_in regions) (lookup (nat_eq n) es) ≡ find (λ kept. kept.load == n) (loads_of regions es)
load_looked regions [] n all = refl
load_looked regions (e ∷ es) n all =
    let own : (e.1.load == n) ≡ nat_eq n e.0 = rw (← all.0) (eq_flips e.0 n) in
    elim (cases_Bool (nat_eq n e.0)) [
      | inl same ↦ let here : (e.1.load == n) ≡ true = own ∙ same in rw (same, here) refl
      | inr other ↦ let here : (e.1.load == n) ≡ false = own ∙ other in rw (other, here) (load_looked regions es n all.1)
    ]

-- the keys are the numbers
pub keys_numbers : (regions : List Region) (es : List (ℕ × Kept)) → AreNumbered (seen regions es) → map (λ e. e.0) es ≡ numbers_of (loads_of regions es)
keys_numbers regions [] all = refl
keys_numbers regions (e ∷ es) all = rw (all.0, keys_numbers regions es all.1) refl

-- a number that no load has
pub load_absent : (regions : List Region) (es : List (ℕ × Kept)) (n : ℕ) → AreNumbered (seen regions es) → among (numbers_of (loads_of regions es)) n ≡ false → lookup (nat_eq n) es ≡ None
load_absent regions [] n all none = refl
load_absent regions (e ∷ es) n all none =
    let own : (e.1.load == n) ≡ nat_eq n e.0 = rw (← all.0) (eq_flips e.0 n) in
    elim (cases_Bool (nat_eq n e.0)) [
      | inl same ↦ let here : (e.1.load == n) ≡ true = own ∙ same in absurd (true≢false (rw here at none))
      | inr other ↦
          let here : (e.1.load == n) ≡ false = own ∙ other in
          rw other (load_absent regions es n all.1 (rw here at none))
    ]

-- one entry more
pub loads_push : (regions : List Region) (es : List (ℕ × Kept)) (kept : Kept) → loads_of regions (es ++ (kept.load, kept) ∷ []) ≡ loads_of regions es ++ kept_in regions kept ∷ []
loads_push regions [] kept = refl
loads_push regions (e ∷ es) kept = ap (λ (ls : List KeptOf). kept_in regions e.1 ∷ ls) (loads_push regions es kept)

pub numbered_push : (regions : List Region) (es : List (ℕ × Kept)) (kept : Kept) → AreNumbered (seen regions es) → AreNumbered (seen regions (es ++ (kept.load, kept) ∷ []))
numbered_push regions [] kept all = (refl, tt)
numbered_push regions (e ∷ es) kept all = (all.0, numbered_push regions es kept all.1)

pub differ_push : (regions : List Region) (es : List (ℕ × Kept)) (kept : Kept) → are_different (numbers_of (loads_of regions es)) ≡ true → among (numbers_of (loads_of regions es)) kept.load ≡ false → are_different (numbers_of (loads_of regions (es ++ (kept.load, kept) ∷ []))) ≡ true
differ_push regions es kept differ another =
    rw (loads_push regions es kept, map_append (λ k. k.load) (loads_of regions es) (kept_in regions kept ∷ [])) (differ_more (numbers_of (loads_of regions es)) kept.load differ another)

-- there are as many loads as entries
pub loads_counted : (es : List (ℕ × KeptOf)) → length (map (λ e. e.1) es) ≡ length es
loads_counted es = length-map es (λ (e : ℕ × KeptOf). e.1)

pub loads_length : (regions : List Region) (es : List (ℕ × Kept)) → length (loads_of regions es) ≡ length es
loads_length regions es = loads_counted (seen regions es) ∙ length-map es (λ (e : ℕ × Kept). (e.0, kept_in regions e.1))

-- ---- where a region is flushed

-- a load whose place is one of the regions before
pub kept_more : (regions : List Region) (region : Region) (kept : Kept) → kept.place ≤ length regions → kept_in (regions ++ region ∷ []) kept ≡ shut_off region (kept_in regions kept)
kept_more regions region kept within =
    ap (λ (rs : List Region). record { load = kept.load; version = kept.version; body = kept.body; shut = concerning kept.body.header rs }) (drop-append-le kept.place regions (region ∷ []) within)
    ∙ ap (λ (rs : List Region). record { load = kept.load; version = kept.version; body = kept.body; shut = rs }) (filter-append (λ r. region_concerns r kept.body.header) (drop kept.place regions) (region ∷ []))

module _ (regions : List Region) (region : Region) where
  pub loads_more : (es : List (ℕ × Kept)) → AreWithin regions es → loads_of (regions ++ region ∷ []) es ≡ map (shut_off region) (loads_of regions es)
  loads_more [] within = refl
  loads_more (e ∷ es) within =
      rw (kept_more regions region e.1 (All-head (λ (x : ℕ × Kept). x.1.place ≤ length regions) e es within)) (ap (λ (ls : List KeptOf). shut_off region (kept_in regions e.1) ∷ ls) (loads_more es (All-tail (λ (x : ℕ × Kept). x.1.place ≤ length regions) e es within)))

  pub numbered_more : (es : List (ℕ × Kept)) → AreNumbered (seen regions es) → AreNumbered (seen (regions ++ region ∷ []) es)
  numbered_more [] all = tt
  numbered_more (e ∷ es) all = (all.0, numbered_more es all.1)

-- a region changes no number
pub same_numbers : (region : Region) (loads : List KeptOf) → numbers_of (map (shut_off region) loads) ≡ numbers_of loads
same_numbers region [] = refl
same_numbers region (k ∷ loads) = ap (λ (ns : List ℕ). k.load ∷ ns) (same_numbers region loads)

-- the places stay within more regions
pub within_more : (regions : List Region) (region : Region) (es : List (ℕ × Kept)) → AreWithin regions es → AreWithin (regions ++ region ∷ []) es
within_more regions region es within =
    All-weaker (λ (e : ℕ × Kept). e.1.place ≤ length regions) (λ (e : ℕ × Kept). e.1.place ≤ length (regions ++ region ∷ []))
    (λ e le. let more = length-append regions (region ∷ []) in omega (arith, le, more)) es within

-- The different numbers of a list with one more at its end.
use Rattle.std.proofs.Common.{◌≡◌, ◌∙◌, ◌++◌, ◌∷◌, [], ℤ, Bool, true, false, not, List, refl, ap, inl, inr, if◌then◌else◌, filter, append-nil}
use Rattle.std.specs.List.{list_any}
use Rattle.std.specs.Ordering.{int_eq}
use Rattle.std.proofs.lemmas.Bool.{cases_Bool}
use Rattle.std.proofs.lemmas.Bool.Decides.{Decides-int_eq}
use Rattle.std.proofs.lemmas.List.Elements.{filter-append}
use Rattle.std.proofs.lemmas.Map.Views.{any-filter_same}
use Rattle.indexmap.specs.IndexSet.{insert_key}
use Rattle.olap_meaning.specs.Values.{different}

same-dropped : (n m : ℤ) (ds : List ℤ) (b : Bool) → int_eq m n ≡ true
    → filter (λ k. not (int_eq k n)) (if b then ds else ds ++ m ∷ []) ≡ filter (λ k. not (int_eq k n)) ds
same-dropped n m ds true same = refl
same-dropped n m ds false same = filter-append (λ k. not (int_eq k n)) ds (m ∷ []) ∙ rw same (append-nil (filter (λ k. not (int_eq k n)) ds))

other-kept : (n m : ℤ) (ds : List ℤ) (b : Bool) → int_eq m n ≡ false
    → n ∷ filter (λ k. not (int_eq k n)) (if b then ds else ds ++ m ∷ [])
    ≡ (if b then n ∷ filter (λ k. not (int_eq k n)) ds else n ∷ filter (λ k. not (int_eq k n)) ds ++ m ∷ [])
other-kept n m ds true other = refl
other-kept n m ds false other = ap (λ (ks : List ℤ). n ∷ ks) (filter-append (λ k. not (int_eq k n)) ds (m ∷ []) ∙ rw other refl)

-- a number that is not n is found among those that are not n
found-without : (n m : ℤ) (ds : List ℤ) → int_eq m n ≡ false → list_any (int_eq m) (filter (λ k. not (int_eq k n)) ds) ≡ list_any (int_eq m) ds
found-without n m ds other =
    any-filter_same (int_eq m) (λ k. not (int_eq k n)) true (λ k found. rw (← (Decides-int_eq m k).0 found, other) refl) ds

insert-without : (n m : ℤ) (ds : List ℤ) → n ∷ filter (λ k. not (int_eq k n)) (insert_key int_eq ds m) ≡ insert_key int_eq (n ∷ filter (λ k. not (int_eq k n)) ds) m
insert-without n m ds =
    elim (cases_Bool (int_eq m n)) [
      | inl same ↦ rw same (ap (λ (ks : List ℤ). n ∷ ks) (same-dropped n m ds (list_any (int_eq m) ds) same))
      | inr other ↦ rw (other, found-without n m ds other) (other-kept n m ds (list_any (int_eq m) ds) other)
    ]

pub different_joined : (ns : List ℤ) (m : ℤ) → different (ns ++ m ∷ []) ≡ insert_key int_eq (different ns) m
different_joined [] m = refl
different_joined (n ∷ ns) m =
    ap (λ (ks : List ℤ). n ∷ filter (λ k. not (int_eq k n)) ks) (different_joined ns m) ∙ insert-without n m (different ns)

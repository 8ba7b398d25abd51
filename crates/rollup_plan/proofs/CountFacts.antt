-- Loads have too few values to have each of a split.
use Rattle.std.proofs.Common.{◌≡◌, ◌∙◌, ◌<◌, ◌≤◌, ◌+◌, ◌++◌, ℕ, zero, suc, Bool, true, false, not, List, [], ◌∷◌, length, filter, length-append, refl, sym, arith, inl, inr}
use Rattle.std.specs.Prelude.{◌==◌, ◌||◌}
use Rattle.std.specs.List.{list_any}
use Rattle.std.proofs.lemmas.Bool.{and_from, and_parts, false_from_ne_true, ne_eqb, not_from_false, not_from_true, or_cases, or_left, or_right}
use Rattle.std.proofs.lemmas.List.Folds.{list_any-append}
use Rattle.olap_meaning.specs.declared.cells.Allowed.{Allowed}
use Rattle.olap_meaning.specs.declared.cells.Cell.{Cell}
use Rattle.olap_meaning.specs.Covering.{allows, among}
use Rattle.olap_meaning.specs.Rolled.{all_below, allows_in, is_any}
use Rattle.olap_meaning.proofs.Members.{all_below_at, member_any}
use Rattle.cache_flush.specs.Loads.{KeptOf}
use Rattle.rollup_plan.specs.Picks.{AreCounted, has_value, is_open, kind_splits, listed}
use Rattle.rollup_plan.proofs.KindFacts.{fewer}
use Rattle.rollup_plan.proofs.ListFacts.{among-filter}
use Rattle.rollup_plan.proofs.PickFacts.{lists_allowed}

-- a list that has all numbers below one has at least this many
pub enough : (n : ℕ) (xs : List ℕ) → ((v : ℕ) → v < n → among xs v ≡ true) → n ≤ length xs
enough zero xs all = omega arith
enough (suc n) xs all =
    let there = member_any (λ x. x == n) xs (all n (omega arith)) in
    let less = fewer (λ x. not (x == n)) xs there.0 there.1 (not_from_true (there.0 == n) there.2) in
    let rest = enough n (filter (λ x. not (x == n)) xs) (λ v below. among-filter (λ x. not (x == n)) xs v ∙ and_from (not (v == n)) (among xs v) (not_from_false (v == n) (ne_eqb v n (λ same. omega arith))) (all v (omega arith))) in
    omega (arith, less, rest)

module _ (cell : Cell) (split : ℕ) where
  -- before the first load there is none
  pub none_counted : AreCounted cell split [] 0
  none_counted = record { values = []; fits = omega arith; all = λ value some. some }

  -- one load more
  pub more_counted : (loads : List KeptOf) (one : KeptOf) (count held all : ℕ) → AreCounted cell split loads count → AreCounted cell split (one ∷ []) held → count + held ≡ all → AreCounted cell split (loads ++ one ∷ []) all
  more_counted loads one count held all so_far next sum = record {
    values = so_far.values ++ next.values;
    fits = let a = so_far.fits in let b = next.fits in omega (arith, a, b, length-append so_far.values next.values);
    all = λ value some.
        list_any-append (λ v. v == value) so_far.values next.values
        ∙ (elim (or_cases (list_any (has_value cell split value) loads) (list_any (has_value cell split value) (one ∷ [])) (sym (list_any-append (has_value cell split value) loads (one ∷ [])) ∙ some)) [
          | inl before ↦ or_left (among so_far.values value) (among next.values value) (so_far.all value before)
          | inr here ↦ or_right (among so_far.values value) (among next.values value) (next.all value here)
        ]);
  }

  or_none : (b : Bool) → (b || false) ≡ b
  or_none true = refl
  or_none false = refl

  -- a load that is not open has none
  pub closed_counted : (one : KeptOf) → is_open cell split one ≡ false → AreCounted cell split (one ∷ []) 0
  closed_counted one closed = record { values = []; fits = omega arith; all = λ value some. let none = rw closed at some in absurd (cc) }

  -- one that is open has what its set lists
  pub open_counted : (one : KeptOf) (allowed : Allowed) (count : ℕ) → is_any allowed ≡ false → ((value : ℕ) → allows allowed value ≡ allows_in one.body.header split value) → length (listed allowed) ≤ count → AreCounted cell split (one ∷ []) count
  open_counted one allowed count not_any same fits = record {
    values = listed allowed;
    fits = fits;
    all = λ value some. lists_allowed allowed value not_any ∙ same value ∙ (and_parts (is_open cell split one) (allows_in one.body.header split value) (sym (or_none (has_value cell split value one)) ∙ some)).1;
  }

  -- where they are fewer than the size, a value is missing
  pub too_few : (size count : ℕ) (loads : List KeptOf) → AreCounted cell split loads count → count < size → kind_splits size cell split loads ≡ false
  too_few size count loads counted less =
      false_from_ne_true (kind_splits size cell split loads)
      (λ all.
      let each = (and_parts (list_any (is_open cell split) loads) (all_below size (λ value. list_any (has_value cell split value) loads)) all).1 in
      let long = enough size counted.values (λ v below. counted.all v (all_below_at size (λ value. list_any (has_value cell split value) loads) v each below)) in
      let fits = counted.fits in
      omega (arith, long, fits))

-- Sums of lists side by side, and their bounds.
use Rattle.std.proofs.Common.{◌≡◌, ◌∙◌, ◌++◌, ◌∷◌, [], ◌+◌, ℕ, ℤ, pos, ◌+ℤ◌, List, refl, arith, length-append, SFits, w64}
use Rattle.std.proofs.lemmas.Int.{ints}
use Rattle.std.proofs.lemmas.List.Sums.{fold-append}
use Rattle.olap_meaning.specs.Values.{total}
use Rattle.olap_meaning.proofs.Orders.{total-from}
use Rattle.measure_folds.specs.Kept.{AreSummed}

total-joined : (ns ms : List ℤ) → total (ns ++ ms) ≡ total ns +ℤ total ms
total-joined ns ms = fold-append (λ sum n. sum +ℤ n) (pos 0) ns ms ∙ total-from (total ns) ms

-- the numbers of one sum and of another
pub summed_joined : (k j : ℕ) (s t u : ℤ) (ns ms all : List ℤ) → AreSummed k s ns → AreSummed j t ms → u ≡ s +ℤ t → all ≡ ns ++ ms → AreSummed (k + j) u all
summed_joined k j s t u ns ms all a b e f = record {
  count = rw f (omega (arith, a.count, b.count, length-append ns ms));
  summed = rw f (omega (arith, ints, a.summed, b.summed, total-joined ns ms));
  low = omega (arith, ints, a.low, b.low);
  high = omega (arith, ints, a.high, b.high);
}

-- one number of 64 bits is its own sum
pub summed_one : (n : ℤ) → SFits w64 n → AreSummed 1 n (n ∷ [])
summed_one n fits = record { count = refl; summed = omega (arith, ints); low = omega (arith, ints); high = omega (arith, ints) }

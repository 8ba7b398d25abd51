-- Numbers of loads.
use Rattle.std.proofs.Common.{◌≡◌, refl, sym, ℕ, zero, suc, ◌+◌, ◌<◌, List, [], ◌∷◌, ◌++◌, length, map, true, false, not, ◌==◌, inl, inr, Some, arith, All, nat_lt}
use Rattle.std.specs.List.{list_all}
use Rattle.std.proofs.lemmas.Bool.{and_from, and_parts, both_ways, eqb-true, eq-eqb, false_from_ne_true, lt-ltb, ltb-true, not-true, not_from_false, or_cases, or_left, or_right}
use Rattle.std.proofs.lemmas.List.Elements.{All-cons, All-nil}
use Rattle.std.proofs.lemmas.Option.{slice_get_within}
use Rattle.olap_meaning.specs.Covering.{among}
use Rattle.olap_meaning.specs.History.{Entry, Load, Start, load_at}
use Rattle.olap_meaning.proofs.Loads.{load_start}
use Rattle.segment_load.specs.Loads.{JobOf}
use Rattle.cache_manager.specs.Jobs.{apart}
use Rattle.history_core.specs.Groups.{numbers_from}

-- the other jobs have other loads, where a load is not among theirs
pub other_loads : (v : ℕ) (jobs : List JobOf) → among (map (λ job. job.load) jobs) v ≡ false → All (λ job. (v == job.load) ≡ false) jobs
other_loads v [] none = All-nil (λ job. (v == job.load) ≡ false)
other_loads v (x ∷ xs) none =
    All-cons (λ job. (v == job.load) ≡ false) x xs
    (false_from_ne_true (v == x.load) (λ h. both_ways _ none (or_left (x.load == v) (among (map (λ job. job.load) xs) v) (eq-eqb x.load v (sym (eqb-true v x.load h))))))
    (other_loads v xs (false_from_ne_true _ (λ h. both_ways _ none (or_right (x.load == v) (among (map (λ job. job.load) xs) v) h))))

above_numbers : (v first count : ℕ) → v < first → among (numbers_from first count) v ≡ false
above_numbers v first zero l = refl
above_numbers v first (suc count) l = false_from_ne_true _ (λ h. elim (or_cases (first == v) (among (numbers_from (suc first) count) v) h) [
  | inl here ↦ let e : first ≡ v = eqb-true first v here in omega (arith, e, l)
  | inr there ↦ both_ways _ (above_numbers v (suc first) count (omega (arith, l))) there
])

-- numbers from one on are all different
pub apart_numbers : (first count : ℕ) → apart (numbers_from first count) ≡ true
apart_numbers first zero = refl
apart_numbers first (suc count) = and_from _ _ (not_from_false _ (above_numbers first (suc first) count (omega arith))) (apart_numbers (suc first) count)

among_joined : (xs ys : List ℕ) (v : ℕ) → among xs v ≡ false → among ys v ≡ false → among (xs ++ ys) v ≡ false
among_joined [] ys v none others = others
among_joined (x ∷ xs) ys v none others = false_from_ne_true _ (λ h. elim (or_cases (x == v) (among (xs ++ ys) v) h) [
  | inl here ↦ both_ways _ none (or_left (x == v) (among xs v) here)
  | inr there ↦ both_ways _ (among_joined xs ys v (false_from_ne_true _ (λ k. both_ways _ none (or_right (x == v) (among xs v) k))) others) there
])

-- different numbers below one, and then numbers from that on, are all different
pub apart_joined : (ns : List ℕ) (first count : ℕ) → list_all (λ n. nat_lt n first) ns ≡ true → apart ns ≡ true → apart (ns ++ numbers_from first count) ≡ true
apart_joined [] first count below differ = apart_numbers first count
apart_joined (n ∷ ns) first count below differ =
    let parts = and_parts (not (among ns n)) (apart ns) differ in
    let lower = and_parts _ _ below in
    and_from _ _ (not_from_false _ (among_joined ns (numbers_from first count) n (not-true _ parts.0) (above_numbers n first count (ltb-true n first lower.0)))) (apart_joined ns first count lower.1 parts.1)

-- the number of a load is within the history
pub load_within : (entries : List Entry) (j : ℕ) (load : Load) → load_at entries j ≡ Some load → nat_lt j (length entries + 1) ≡ true
load_within entries zero load at = lt-ltb _ _ (omega arith)
load_within entries (suc j) load at =
    let l = slice_get_within entries j (Start load) (load_start entries (suc j) load at) in
    lt-ltb _ _ (omega (arith, l))

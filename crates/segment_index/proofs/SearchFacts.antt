-- What a search among the loads of some numbers finds.
use Rattle.std.proofs.Common.{◌≡◌, ◌∙◌, ◌<◌, ◌≤◌, ℕ, ◌+◌, add-one, length, reverse, take, true, false, not, zero, suc, get_or, List, [], ◌∷◌, Option, Some, None, refl, sym, arith, inl, inr, true≢false, Contains}
use Rattle.std.specs.Prelude.{◌==◌, ◌++◌, nat_le, nat_lt}
use Rattle.std.proofs.Math.Seq.{take-suc}
use Rattle.std.proofs.lemmas.Bool.{and_parts, cases_Bool, eq-eqb, eqb-true, ltb-false}
use Rattle.std.proofs.lemmas.Bool.Decides.{nat_tests}
use Rattle.std.proofs.lemmas.List.{reverse-append}
use Rattle.std.proofs.lemmas.List.Sorted.{IsPermutation-reverse, list_any-IsPermutation}
use Rattle.std.proofs.lemmas.List.Elements.{Contains-get_or}
use Rattle.olap_meaning.proofs.Members.{in_first, in_rest, none_in}
use Rattle.olap_meaning.specs.declared.cells.Cell.{Cell}
use Rattle.olap_meaning.specs.Covering.{among}
use Rattle.cache_flush.specs.Loads.{IsGreatest, KeptOf, are_different, numbers_of, serves}
use Rattle.segment_index.specs.Search.{later, later_serving, latest_serving, load_of, reaches, serving}

below : (a b : ℕ) → nat_lt a b ≡ true → a ≤ b
below a b h = grind (arith, nat_tests)

not_above : (a b : ℕ) → nat_le b a ≡ true → nat_lt a b ≡ false
not_above a b h = grind (arith, nat_tests)

is_above : (a b : ℕ) → nat_le b a ≡ false → nat_lt a b ≡ true
is_above a b h = grind (arith, nat_tests)

-- ---- loads by their numbers

-- the load of a number is one of the loads, and has the number
pub load_there : (loads : List KeptOf) (n : ℕ) (kept : KeptOf) → load_of loads n ≡ Some kept → Contains loads kept × ((kept.load == n) ≡ true)
load_there [] n kept is = absurd (cc)
load_there (l ∷ loads) n kept is =
    elim (cases_Bool (l.load == n)) [
      | inl same ↦
          let some : Some l ≡ Some kept = rw same at is in
          let e : l ≡ kept = cc in
          rw (← e) (in_first l loads, same)
      | inr other ↦
          let rest = load_there loads n kept (rw other at is) in
          (in_rest l loads kept rest.0, rest.1)
    ]

pub number_there : (loads : List KeptOf) (kept : KeptOf) → Contains loads kept → among (numbers_of loads) kept.load ≡ true
number_there [] kept held = absurd (none_in kept held)
number_there (l ∷ loads) kept (zero, inside, here) = let same : l ≡ kept = here in rw (same, eq-eqb kept.load kept.load refl) refl
number_there (l ∷ loads) kept (suc k, inside, here) =
    let rest = number_there loads kept (k, omega arith, here) in
    elim (cases_Bool (l.load == kept.load)) [ inl first ↦ rw first refl | inr fails ↦ rw fails rest ]

-- where no number stands twice, each load is found by its number
pub load_found : (loads : List KeptOf) (kept : KeptOf) → are_different (numbers_of loads) ≡ true → Contains loads kept → load_of loads kept.load ≡ Some kept
load_found [] kept differ held = absurd (none_in kept held)
load_found (l ∷ loads) kept differ (zero, inside, here) = let same : l ≡ kept = here in rw (same, eq-eqb kept.load kept.load refl) refl
load_found (l ∷ loads) kept differ (suc k, inside, here) =
    let parts = and_parts (not (among (numbers_of loads) l.load)) (are_different (numbers_of loads)) differ in
    let held : Contains loads kept = (k, omega arith, here) in
    elim (cases_Bool (l.load == kept.load)) [
      | inl same ↦
          let e : l.load ≡ kept.load = eqb-true l.load kept.load same in
          let twice : among (numbers_of loads) l.load ≡ true = rw e (number_there loads kept held) in
          absurd (true≢false (sym (rw twice at parts.0)))
      | inr other ↦ rw other (load_found loads kept parts.1 held)
    ]

-- ---- the latest

-- a load was found, and its number is at least this one
abbrev Reaches : ℕ → Option KeptOf → Type 0
Reaches x None = 0 < 0
Reaches x (Some best) = x ≤ best.load

-- what was found is one of the loads, and serves the cell
abbrev Serves : List KeptOf → Cell → Option KeptOf → Type 0
Serves loads cell None = Unit {0}
Serves loads cell (Some best) = Contains loads best × (serves best cell ≡ true)

later-next : (best : Option KeptOf) (next : KeptOf) → Reaches next.load (later best next)
later-next None next = omega arith
later-next (Some best) next =
    elim (cases_Bool (nat_lt best.load next.load)) [
      | inl less ↦ rw less (omega arith)
      | inr more ↦ rw more (ltb-false best.load next.load more)
    ]

later-best : (x : ℕ) (best : Option KeptOf) (next : KeptOf) → Reaches x best → Reaches x (later best next)
later-best x None next h = absurd (omega (arith, h))
later-best x (Some best) next h =
    elim (cases_Bool (nat_lt best.load next.load)) [
      | inl less ↦ rw less (let l : best.load ≤ next.load = below best.load next.load less in omega (arith, h, l))
      | inr more ↦ rw more h
    ]

later-serves : (loads : List KeptOf) (cell : Cell) (best : Option KeptOf) (next : KeptOf) → Serves loads cell best → Serves loads cell (Some next) → Serves loads cell (later best next)
later-serves loads cell None next had new = new
later-serves loads cell (Some best) next had new =
    elim (cases_Bool (nat_lt best.load next.load)) [
      | inl less ↦ rw less new
      | inr more ↦ rw more had
    ]

module _ (loads : List KeptOf) (cell : Cell) where
  step-best : (x : ℕ) (best next : Option KeptOf) → Reaches x best → Reaches x (later_serving cell best next)
  step-best x best None h = h
  step-best x best (Some next) h =
      elim (cases_Bool (serves next cell)) [
        | inl served ↦ rw served (later-best x best next h)
        | inr other ↦ rw other h
      ]

  step-serves : (n : ℕ) (best next : Option KeptOf) → load_of loads n ≡ next → Serves loads cell best → Serves loads cell (later_serving cell best next)
  step-serves n best None at h = h
  step-serves n best (Some next) at h =
      elim (cases_Bool (serves next cell)) [
        | inl served ↦ rw served (later-serves loads cell best next h ((load_there loads n next at).0, served))
        | inr other ↦ rw other h
      ]

  all-best : (x : ℕ) (ns : List ℕ) (best : Option KeptOf) → Reaches x best → Reaches x (latest_serving loads cell best ns)
  all-best x [] best h = h
  all-best x (n ∷ ns) best h = all-best x ns _ (step-best x best (load_of loads n) h)

  all-serves : (ns : List ℕ) (best : Option KeptOf) → Serves loads cell best → Serves loads cell (latest_serving loads cell best ns)
  all-serves [] best h = h
  all-serves (n ∷ ns) best h = all-serves ns _ (step-serves n best (load_of loads n) refl h)

  step-next : (best : Option KeptOf) (next : KeptOf) → serves next cell ≡ true → Reaches next.load (later_serving cell best (Some next))
  step-next best next served = rw served (later-next best next)

  -- each serving load whose number is searched is reached
  all-reached : (ns : List ℕ) (best : Option KeptOf) (kept : KeptOf) → among ns kept.load ≡ true → load_of loads kept.load ≡ Some kept → serves kept cell ≡ true → Reaches kept.load (latest_serving loads cell best ns)
  all-reached [] best kept there found served = absurd (true≢false (sym there))
  all-reached (n ∷ ns) best kept there found served =
      elim (cases_Bool (n == kept.load)) [
        | inl same ↦
            let e : n ≡ kept.load = eqb-true n kept.load same in
            let here : load_of loads n ≡ Some kept = rw e found in
            all-best kept.load ns _ (rw here (step-next best kept served))
        | inr other ↦ all-reached ns _ kept (rw other at there) found served
      ]

greatest_of : (loads : List KeptOf) (cell : Cell) (r : Option KeptOf) → Serves loads cell r → ((other : KeptOf) → Contains loads other → serves other cell ≡ true → Reaches other.load r) → IsGreatest loads cell r
greatest_of loads cell None s all = λ k d lt.
    elim (cases_Bool (serves (get_or loads k d) cell)) [
      | inl served ↦ absurd (omega (arith, all (get_or loads k d) (Contains-get_or loads k d lt) served))
      | inr other ↦ other
    ]
greatest_of loads cell (Some best) s all = (s.0, s.1, λ k d lt. all (get_or loads k d) (Contains-get_or loads k d lt))

-- a search that goes on after another
pub latest_more : (loads : List KeptOf) (cell : Cell) (best : Option KeptOf) (ns ms : List ℕ) → latest_serving loads cell best (ns ++ ms) ≡ latest_serving loads cell (latest_serving loads cell best ns) ms
latest_more loads cell best [] ms = refl
latest_more loads cell best (n ∷ ns) ms = latest_more loads cell (later_serving cell best (load_of loads n)) ns ms

-- the search among numbers finds the greatest that serves the cell, where each load that does is among them
pub greatest_found : (loads : List KeptOf) (cell : Cell) (numbers : List ℕ) → are_different (numbers_of loads) ≡ true → ((kept : KeptOf) → Contains loads kept → serves kept cell ≡ true → among numbers kept.load ≡ true)
    → IsGreatest loads cell (latest_serving loads cell None numbers)
greatest_found loads cell numbers differ each =
    greatest_of loads cell (latest_serving loads cell None numbers) (all-serves loads cell numbers None tt)
    (λ other there served. all-reached loads cell numbers None other (each other there served) (load_found loads other differ there) served)

-- a number among others, turned round
pub among_reversed : (numbers : List ℕ) (n : ℕ) → among (reverse numbers) n ≡ among numbers n
among_reversed numbers n = sym (list_any-IsPermutation (λ v. v == n) numbers (reverse numbers) (IsPermutation-reverse numbers))

-- ---- the search from the last number on

-- what was found reaches a number whose load is not the later one
pub not_later : (loads : List KeptOf) (cell : Cell) (best : Option KeptOf) (n : ℕ) → reaches best n ≡ true → best ≡ later_serving cell best (load_of loads n)
not_later loads cell None n h = absurd (cc)
not_later loads cell (Some best) n h = by (load_of loads n) refl
  where
    by : (next : Option KeptOf) → load_of loads n ≡ next → Some best ≡ later_serving cell (Some best) next
    by None at = refl
    by (Some next) at =
        let same : next.load ≡ n = eqb-true next.load n (load_there loads n next at).1 in
        let more : nat_lt best.load next.load ≡ false = rw same (not_above best.load n h) in
        elim (cases_Bool (serves next cell)) [ inl served ↦ rw (served, more) refl | inr other ↦ rw other refl ]

-- and else the next load is the later one,
is_later : (loads : List KeptOf) (best : Option KeptOf) (n : ℕ) (next : KeptOf) → reaches best n ≡ false → load_of loads n ≡ Some next → later best next ≡ Some next
is_later loads None n next h at = refl
is_later loads (Some best) n next h at =
    let same : next.load ≡ n = eqb-true next.load n (load_there loads n next at).1 in
    let less : nat_lt best.load next.load ≡ true = rw same (is_above best.load n h) in
    rw less refl

-- where it serves the cell
pub serving_is_later : (loads : List KeptOf) (cell : Cell) (best : Option KeptOf) (n : ℕ) (next : KeptOf) → reaches best n ≡ false → serving cell (load_of loads n) ≡ Some next → Some next ≡ later_serving cell best (load_of loads n)
serving_is_later loads cell best n next h found = by (load_of loads n) refl found
  where
    by : (o : Option KeptOf) → load_of loads n ≡ o → serving cell o ≡ Some next → Some next ≡ later_serving cell best o
    by None at is = absurd (cc)
    by (Some kept) at is =
        elim (cases_Bool (serves kept cell)) [
          | inl served ↦
              let some : Some kept ≡ Some next = rw served at is in
              let same : kept ≡ next = cc in
              let next_at : load_of loads n ≡ Some next = at ∙ some in
              rw (served, same) (sym (is_later loads best n next h next_at))
          | inr other ↦ absurd (let none : None ≡ Some next = rw other at is in cc)
        ]

-- and where it does not, the other stays
pub other_stays : (loads : List KeptOf) (cell : Cell) (best : Option KeptOf) (n : ℕ) → serving cell (load_of loads n) ≡ None → best ≡ later_serving cell best (load_of loads n)
other_stays loads cell best n none = by (load_of loads n) none
  where
    by : (o : Option KeptOf) → serving cell o ≡ None → best ≡ later_serving cell best o
    by None is = refl
    by (Some kept) is =
        elim (cases_Bool (serves kept cell)) [
          | inl served ↦ absurd (let some : Some kept ≡ None = rw served at is in cc)
          | inr other ↦ rw other refl
        ]

-- one number less is left
pub one_less : (xs : List ℕ) (i : ℕ) → i < length xs → reverse (take (i + 1) xs) ≡ get_or xs i 0 ∷ reverse (take i xs)
one_less xs i below = rw (add-one, take-suc xs i 0 below) (reverse-append (take i xs) (get_or xs i 0 ∷ []))

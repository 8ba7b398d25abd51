-- Lists: what is found in them, what a filter keeps, and lent kept loads.
use Rattle.std.proofs.Common.{◌≡◌, ◌∙◌, ◌⊎◌, ◌<◌, ◌+◌, ◌++◌, ℕ, zero, suc, Bool, true, false, List, [], ◌∷◌, Some, length, take, filter, get_or, refl, sym, ap, subst, arith, inl, inr, Bor}
use Rattle.std.specs.Prelude.{◌&&◌, All, Contains, nat_lt, slice_get}
use Rattle.std.specs.List.{find, list_all}
use Rattle.std.proofs.lemmas.Bool.{and_from, and_parts, cases_Bool, cases_eq, eq-eqb, ne_eqb}
use Rattle.std.proofs.lemmas.List.{length-map, get_or-map, take_more}
use Rattle.std.proofs.lemmas.List.Elements.{All-contains_itself}
use Rattle.olap_meaning.specs.Covering.{among}
use Rattle.olap_meaning.specs.Legal.{rise}
use Rattle.olap_meaning.proofs.Members.{in_first, in_rest}
use Rattle.cache_flush.specs.Loads.{KeptOf, kept_of}
use Rattle.cache_flush.specs.declared.kept.Kept.{Kept}
use Rattle.rollup_plan.specs.Picks.{lent}

module _ {X : Type 0} where
  -- what is found is a member that passes
  pub found_passes : (p : X → Bool) (xs : List X) (x : X) → find p xs ≡ Some x → Contains xs x × (p x ≡ true)
  found_passes p [] x found = absurd (cc)
  found_passes p (y ∷ ys) x found =
      elim (cases_Bool (p y)) [
        | inl passes ↦ let here = rw passes at found in let same : y ≡ x = cc in (subst (Contains (y ∷ ys)) same (in_first y ys), ap p (sym same) ∙ passes)
        | inr fails ↦ let later = found_passes p ys x (rw fails at found) in (in_rest y ys x later.0, later.1)
      ]

  -- what stands in a list with one more
  pub get_pushed : (xs : List X) (y : X) (i : ℕ) (z : X) → slice_get (xs ++ y ∷ []) i ≡ Some z → (slice_get xs i ≡ Some z) ⊎ ((i ≡ length xs) × (y ≡ z))
  get_pushed [] y zero z at = let same : y ≡ z = cc in inr (refl, same)
  get_pushed [] y (suc i) z at = absurd (cc)
  get_pushed (x ∷ xs) y zero z at = inl at
  get_pushed (x ∷ xs) y (suc i) z at =
      elim (get_pushed xs y i z at) [ inl before ↦ inl before | inr last ↦ inr (ap suc last.0, last.1) ]

  pub get_before : (xs : List X) (y : X) (i : ℕ) (z : X) → i < length xs → slice_get (xs ++ y ∷ []) i ≡ Some z → slice_get xs i ≡ Some z
  get_before xs y i z inside at =
      elim (get_pushed xs y i z at) [ inl before ↦ before | inr last ↦ absurd (omega (arith, last.0)) ]

and_none : (b : Bool) → false ≡ (b && false)
and_none true = refl
and_none false = refl

-- a number among those that a filter keeps
pub among-filter : (p : ℕ → Bool) (xs : List ℕ) (v : ℕ) → among (filter p xs) v ≡ (p v && among xs v)
among-filter p [] v = and_none (p v)
among-filter p (x ∷ xs) v =
    let rest = among-filter p xs v in
    elim (cases_eq x v) [
      | inl same ↦
          elim (cases_Bool (p x)) [
            | inl passes ↦ let there : p v ≡ true = ap p (sym same) ∙ passes in rw (passes, there, eq-eqb x v same) refl
            | inr fails ↦ let none : p v ≡ false = ap p (sym same) ∙ fails in rw (fails, none) (rest ∙ rw none refl)
          ]
      | inr other ↦
          elim (cases_Bool (p x)) [
            | inl passes ↦ rw (passes, ne_eqb x v other) rest
            | inr fails ↦ rw (fails, ne_eqb x v other) rest
          ]
    ]

all-filter : (q p : ℕ → Bool) (xs : List ℕ) → list_all q xs ≡ true → list_all q (filter p xs) ≡ true
all-filter q p [] all = refl
all-filter q p (x ∷ xs) all =
    let parts = and_parts (q x) (list_all q xs) all in
    let rest = all-filter q p xs parts.1 in
    elim (cases_Bool (p x)) [ inl passes ↦ rw passes (and_from (q x) (list_all q (filter p xs)) parts.0 rest) | inr fails ↦ rw fails rest ]

-- what a filter keeps of rising numbers rises
pub rise-filter : (p : ℕ → Bool) (xs : List ℕ) → rise xs ≡ true → rise (filter p xs) ≡ true
rise-filter p [] up = refl
rise-filter p (x ∷ xs) up =
    let parts = and_parts (list_all (nat_lt x) xs) (rise xs) up in
    let rest = rise-filter p xs parts.1 in
    elim (cases_Bool (p x)) [
      | inl passes ↦ rw passes (and_from (list_all (nat_lt x) (filter p xs)) (rise (filter p xs)) (all-filter (nat_lt x) p xs parts.0) rest)
      | inr fails ↦ rw fails rest
    ]

-- what holds of all lent loads holds of one
pub lent_at : (P : KeptOf → Type 0) (kept : List (Bor Kept)) (i : ℕ) (one : Bor Kept) → All P (lent kept) → i < length kept → one ≡ get_or kept i one → P (kept_of one.now)
lent_at P kept i one all inside here =
    let same : get_or (lent kept) i (kept_of one.now) ≡ kept_of (get_or kept i one).now = get_or-map (λ (lent_one : Bor Kept). kept_of lent_one.now) kept i one (kept_of one.now) inside in
    let count : i < length (lent kept) = rw length-map inside in
    let is : get_or (lent kept) i (kept_of one.now) ≡ kept_of one.now = same ∙ ap (λ (b : Bor Kept). kept_of b.now) (sym here) in
    subst P is (all i (kept_of one.now) count)

-- the lent loads up to the next
pub lent_next : (kept : List (Bor Kept)) (i : ℕ) (one : Bor Kept) → i < length kept → one ≡ get_or kept i one → take (i + 1) (lent kept) ≡ take i (lent kept) ++ kept_of one.now ∷ []
lent_next kept i one inside here =
    let count : i < length (lent kept) = rw length-map inside in
    let is : get_or (lent kept) i (kept_of one.now) ≡ kept_of one.now = get_or-map (λ (lent_one : Bor Kept). kept_of lent_one.now) kept i one (kept_of one.now) inside ∙ ap (λ (b : Bor Kept). kept_of b.now) (sym here) in
    take_more (lent kept) i (kept_of one.now) count ∙ ap (λ (last : KeptOf). take i (lent kept) ++ last ∷ []) is

-- a lent load is one of the lent
pub lent_member : (kept : List (Bor Kept)) (i : ℕ) (one : Bor Kept) → i < length kept → one ≡ get_or kept i one → Contains (lent kept) (kept_of one.now)
lent_member kept i one inside here = lent_at (Contains (lent kept)) kept i one (All-contains_itself (lent kept)) inside here

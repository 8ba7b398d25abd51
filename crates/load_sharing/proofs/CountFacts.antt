-- The count of a mask, among the entries of a map.
use Rattle.std.proofs.Common.{◌≡◌, ◌<◌, ℕ, List, [], ◌∷◌, Option, None, Some, Bool, true, false, true≢false, refl, sym, inl, inr, nat_eq, cond, if◌then◌else◌}
use Rattle.std.specs.Prelude.{Result, Ok, Err, IsOk, OnOk, nat_lt, is_some, IfSome}
use Rattle.std.proofs.lemmas.Bool.{cases_Bool, eqb-true, lt-ltb}
use Rattle.std.specs.Map.{lookup}
use Rattle.load_sharing.specs.Masks.{count_at}

pub on_ok : {A E P : Type 0} (r : Result A E) → IsOk r → OnOk r P → P
on_ok (Ok x) h p = p
on_ok (Err e) h p = absurd (true≢false (sym h))

-- the count that was found, and 0 where there is none
abbrev pub count_or_none : Option ℕ → ℕ
count_or_none None = 0
count_or_none (Some count) = count

pub count_found : (es : List (ℕ × ℕ)) (q : ℕ) → count_at es q ≡ count_or_none (lookup (nat_eq q) es)
count_found [] q = refl
count_found (e ∷ es) q =
    elim (cases_Bool (nat_eq q e.0)) [
      | inl same ↦ rw same refl
      | inr other ↦ rw other (count_found es q)
    ]

-- where each count that is found is more than 0, a mask is there exactly where its count is more than 0
pub is_there : (o : Option ℕ) → IfSome o (λ count. 0 < count) → is_some o ≡ nat_lt 0 (count_or_none o)
is_there None positive = refl
is_there (Some count) positive = sym (lt-ltb 0 count positive)

-- what is taken out does not depend on what was written there
pub taken_out : (here : Bool) (written other : Option ℕ) → cond here None (cond here written other) ≡ cond here None other
taken_out true written other = refl
taken_out false written other = refl

-- where the count of one mask is changed, and no other
pub counts_changed :
    (f : ℕ → ℕ) (es fs : List (ℕ × ℕ)) (mask : ℕ) (before after : Option ℕ) → lookup (nat_eq mask) es ≡ before → ((q : ℕ) → lookup (nat_eq q) fs ≡ cond (nat_eq mask q) after (lookup (nat_eq q) es))
    → count_or_none after ≡ f (count_or_none before) → (q : ℕ) → count_at fs q ≡ (if nat_eq mask q then f (count_at es q) else count_at es q)
counts_changed f es fs mask before after had now changed q =
    rw (count_found fs q, count_found es q, now q) (elim (cases_Bool (nat_eq mask q)) [
      | inl same ↦
          let there : lookup (nat_eq q) es ≡ before = rw (← eqb-true mask q same) had in
          rw (same, there) changed
      | inr other ↦ rw other refl
    ])

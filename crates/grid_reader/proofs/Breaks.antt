-- Texts with no tab and no end of a line.
use Rattle.std.proofs.Common.{◌≡◌, ◌∙◌, ◌<◌, ◌==◌, ℕ, zero, suc, Bool, true, false, cond, List, [], ◌∷◌, length, get_or, sym, refl, arith}
use Rattle.std.proofs.lemmas.Grind.{common_steps}
use Rattle.std.specs.List.{list_any}
use Rattle.std.proofs.lemmas.Bool.{or_from}
use Rattle.query_meaning.specs.Shown.{is_break, breaks}

-- where a filter keeps nothing, it does not keep the first
first_kept : (b : Bool) (x : ℕ) (xs : List ℕ) → cond b (x ∷ xs) xs ≡ [] → (b ≡ false) × (xs ≡ [])
first_kept true x xs e = absurd cc
first_kept false x xs e = (refl, e)

-- a text without breaks has no byte that is one
pub unbroken : (p : ℕ → Bool) → ((x : ℕ) → is_break x ≡ false → p x ≡ false) → (text : List ℕ) → breaks text ≡ [] → list_any p text ≡ false
unbroken p own [] e = refl
unbroken p own (x ∷ xs) e =
    let f = first_kept (is_break x) x (breaks xs) e in
    or_from (p x) (list_any p xs) (own x f.0) (unbroken p own xs f.1)

-- a tab is a break
tab_breaks : (x : ℕ) → is_break x ≡ false → (x == 9) ≡ false
tab_breaks x h = grind (arith, common_steps)

-- and so is a line feed
feed_breaks : (x : ℕ) → is_break x ≡ false → (x == 10) ≡ false
feed_breaks x h = grind (arith, common_steps)

-- it has no tab
pub no_tab : (text : List ℕ) → breaks text ≡ [] → list_any (λ b. b == 9) text ≡ false
no_tab text e = unbroken (λ b. b == 9) tab_breaks text e

-- and no line feed
pub no_feed : (text : List ℕ) → breaks text ≡ [] → list_any (λ b. b == 10) text ≡ false
no_feed text e = unbroken (λ b. b == 10) feed_breaks text e

-- a text with a break
pub broken : (text : List ℕ) (i d : ℕ) → i < length text → is_break (get_or text i d) ≡ true → breaks text ≡ [] → ⊥
broken [] i d within own e = absurd (omega (arith, within))
broken (x ∷ xs) zero d within own e =
    let f = first_kept (is_break x) x (breaks xs) e in
    let clash : true ≡ false = sym own ∙ f.0 in
    cc
broken (x ∷ xs) (suc i) d within own e =
    let f = first_kept (is_break x) x (breaks xs) e in
    broken xs i d (omega (arith, within)) own f.1

-- Which places from 0 on pass a test.
use Rattle.std.proofs.Common.{◌≡◌, ◌∙◌, ◌+◌, ◌<◌, ◌++◌, ◌||◌, ℕ, zero, suc, Bool, true, false, cond, List, [], ◌∷◌, sym, ap, refl, filter, length, get_or, arith, append-nil}
use Rattle.std.specs.List.{list_any, range_with_len}
use Rattle.std.proofs.lemmas.List.Elements.{filter-append}
use Rattle.std.proofs.lemmas.List.Folds.{list_any-append, list_any_at}
use Rattle.std.proofs.lemmas.List.FromFn.{get_or-range_with_len, length-range_with_len}
use Rattle.std.proofs.lemmas.Bool.{or_from}

-- one number more
range_more : (a n j : ℕ) → a + n ≡ j → range_with_len a (n + 1) ≡ range_with_len a n ++ j ∷ []
range_more a zero j is = ap (λ x. x ∷ []) (omega (arith, is))
range_more a (suc n) j is =
    let next : suc n + 1 ≡ suc (n + 1) = omega arith in
    ap (range_with_len a) next ∙ ap (λ xs. a ∷ xs) (range_more (a + 1) n j (omega (arith, is)))

-- a place that passes is one of them
pub any_found : (p : ℕ → Bool) (n i : ℕ) → i < n → p i ≡ true → true ≡ list_any p (range_with_len 0 n)
any_found p n i within own =
    sym (list_any_at p (range_with_len 0 n) i 0 (omega (arith, within, length-range_with_len 0 n)) (ap p (get_or-range_with_len 0 n i 0 within ∙ omega arith) ∙ own))

-- one that does not pass, after others that do not
pub none_more : (p : ℕ → Bool) (n : ℕ) → list_any p (range_with_len 0 n) ≡ false → p n ≡ false → list_any p (range_with_len 0 (n + 1)) ≡ false
none_more p n before own =
    ap (list_any p) (range_more 0 n n (omega arith)) ∙ list_any-append p (range_with_len 0 n) (n ∷ [])
    ∙ or_from (list_any p (range_with_len 0 n)) (p n || false) before (or_from (p n) false own refl)

-- one that passes, after those that do
pub kept_more : (p : ℕ → Bool) (n : ℕ) (before after : List ℕ) → before ≡ filter p (range_with_len 0 n) → after ≡ before ++ n ∷ [] → p n ≡ true → after ≡ filter p (range_with_len 0 (n + 1))
kept_more p n before after is more own =
    more ∙ ap (λ xs. xs ++ n ∷ []) is ∙ ap (λ b. filter p (range_with_len 0 n) ++ cond b (n ∷ []) []) (sym own)
    ∙ sym (filter-append p (range_with_len 0 n) (n ∷ [])) ∙ ap (filter p) (sym (range_more 0 n n (omega arith)))

-- one that does not, after those that do
pub dropped_more : (p : ℕ → Bool) (n : ℕ) (before after : List ℕ) → before ≡ filter p (range_with_len 0 n) → after ≡ before → p n ≡ false → after ≡ filter p (range_with_len 0 (n + 1))
dropped_more p n before after is same own =
    same ∙ is ∙ sym (append-nil (filter p (range_with_len 0 n))) ∙ ap (λ b. filter p (range_with_len 0 n) ++ cond b (n ∷ []) []) (sym own)
    ∙ sym (filter-append p (range_with_len 0 n) (n ∷ [])) ∙ ap (filter p) (sym (range_more 0 n n (omega arith)))

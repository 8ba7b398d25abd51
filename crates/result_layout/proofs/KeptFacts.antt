-- The first that passes a test, and texts that stand after one another.
use Rattle.std.proofs.Common.{◌≡◌, ◌∙◌, ◌+◌, ◌<◌, ◌≤◌, ◌++◌, ◌||◌, ℕ, Bool, true, false, cond, Some, None, List, [], ◌∷◌, sym, ap, refl, drop, flat_map, get_or, length, map, slice_get, take, take_all, arith, append_assoc}
use Rattle.std.specs.List.{list_any, position}
use Rattle.std.specs.Prelude.{nat_lt}
use Rattle.std.proofs.lemmas.Bool.{le-ltb, or_from}
use Rattle.std.proofs.lemmas.Grind.{flat_map-append}
use Rattle.std.proofs.lemmas.List.{append-nil, drop_more, length-take-le, map_more, take-append-drop, take_more}
use Rattle.std.proofs.lemmas.List.Folds.{list_any-append}
use Rattle.std.proofs.lemmas.Option.{get_or_from_slice_get, slice_get_within}
use Rattle.olap_meaning.proofs.Appearances.{none_at, position_at}

-- one that does not pass, after others that do not
pub none_more : {A : Type 0} (p : A → Bool) (xs : List A) (i : ℕ) (x : A) → slice_get xs i ≡ Some x → list_any p (take i xs) ≡ false → p x ≡ false → list_any p (take (i + 1) xs) ≡ false
none_more p xs i x found none own =
    let here = ap p (get_or_from_slice_get xs i x x found) ∙ own in
    ap (list_any p) (take_more xs i x (slice_get_within xs i x found)) ∙ list_any-append p (take i xs) (get_or xs i x ∷ [])
    ∙ or_from (list_any p (take i xs)) (p (get_or xs i x) || false) none (or_from (p (get_or xs i x)) false here refl)

-- the first that passes, after others that do not
pub first_here : {A : Type 0} (p : A → Bool) (xs : List A) (i : ℕ) (x : A) → slice_get xs i ≡ Some x → list_any p (take i xs) ≡ false → p x ≡ true → Some i ≡ position p xs
first_here p xs i x found none own =
    let within = slice_get_within xs i x found in
    let here = ap p (get_or_from_slice_get xs i x x found) ∙ own in
    let parts = ap (λ ys. take i xs ++ ys) (sym (drop_more xs i x within)) ∙ take-append-drop i xs in
    sym (ap (position p) (sym parts) ∙ position_at p (take i xs) (drop (i + 1) xs) (get_or xs i x) none here ∙ ap Some (length-take-le i xs (omega arith)))

-- none that passes
pub none_here : {A : Type 0} (p : A → Bool) (xs : List A) (i : ℕ) → length xs ≤ i → list_any p (take i xs) ≡ false → None ≡ position p xs
none_here p xs i past none =
    sym (ap (λ n. cond (nat_lt n (length xs)) (Some n) None) (none_at p xs (ap (list_any p) (sym (take_all i xs past)) ∙ none))
    ∙ ap (λ b. cond b (Some (length xs)) None) (le-ltb (length xs) (length xs) (omega arith)))

-- after a text and others: one more
pub others_more : {A : Type 0} (between : List ℕ) (f : A → List ℕ) (xs : List A) (i : ℕ) (x : A) (front before middle after : List ℕ) → i < length xs → x ≡ get_or xs i x → before ≡ front ++ flat_map (λ other. between ++ other) (map f (take i xs))
    → middle ≡ before ++ between → after ≡ middle ++ f x → after ≡ front ++ flat_map (λ other. between ++ other) (map f (take (i + 1) xs))
others_more between f xs i x front before middle after within at is parted more =
    let own = map f (take i xs) in
    let fold = λ (texts : List (List ℕ)). flat_map (λ other. between ++ other) texts in
    more ∙ ap (λ t. t ++ f x) parted ∙ append_assoc before between (f x) ∙ ap (λ t. t ++ (between ++ f x)) is ∙ append_assoc front (fold own) (between ++ f x)
    ∙ ap (λ t. front ++ (fold own ++ t)) (sym (append-nil (between ++ f x))) ∙ ap (λ y. front ++ (fold own ++ fold (f y ∷ []))) at
    ∙ ap (λ t. front ++ t) (sym (flat_map-append (λ other. between ++ other) own (f (get_or xs i x) ∷ [])))
    ∙ ap (λ texts. front ++ fold texts) (sym (map_more f xs i x within))

-- Each text once, by first appearance: one more text, and the number of a text.
use Rattle.std.proofs.Common.{◌≡◌, refl, sym, ◌∙◌, ap, ℕ, ◌+◌, List, [], ◌∷◌, ◌++◌, length, Bool, true, false, cond, not, ◌||◌, Some, None, bytes_eq, filter, position, nat_lt, is_some, arith}
use Rattle.std.specs.List.{list_any, position_or_len, find}
use Rattle.std.proofs.lemmas.Bool.{le-ltb, lt-ltb, or_parts}
use Rattle.std.proofs.lemmas.Map.Steps.{list_any_congr}
use Rattle.std.proofs.lemmas.List.Elements.{filter-append}
use Rattle.std.proofs.lemmas.List.{append-nil, append_assoc, length-append}
use Rattle.std.proofs.lemmas.Cmp.{nat_list_eq_equiv}
use Rattle.std.proofs.lemmas.Slice.Eq.{bytes_eq-Decides}
use Rattle.olap_meaning.specs.Catalog.{first_appearances}

any-filter : {A : Type 0} (p q : A → Bool) (xs : List A) → list_any p xs ≡ false → list_any p (filter q xs) ≡ false
any-filter p q [] h = refl
any-filter p q (x ∷ xs) h = by (q x) (any-filter p q xs (or_parts (p x) (list_any p xs) h).1)
  where
    by : (b : Bool) → list_any p (filter q xs) ≡ false → list_any p (cond b (x ∷ filter q xs) (filter q xs)) ≡ false
    by true rest = ap (λ b. b || list_any p (filter q xs)) (or_parts (p x) (list_any p xs) h).0 ∙ rest
    by false rest = rest

-- what is not among some texts is not among their first appearances
pub any-appearances : (p : List ℕ → Bool) (xs : List (List ℕ)) → list_any p xs ≡ false → list_any p (first_appearances xs) ≡ false
any-appearances p [] h = refl
any-appearances p (x ∷ xs) h = ap (λ b. b || list_any p (filter others (first_appearances xs))) (or_parts (p x) (list_any p xs) h).0 ∙ any-filter p others (first_appearances xs) (any-appearances p xs (or_parts (p x) (list_any p xs) h).1)
  where
    others : List ℕ → Bool
    others other = not (bytes_eq x other)

-- one more text adds itself where it is not among those before
pub appearances_push : (xs : List (List ℕ)) (t : List ℕ) → first_appearances (xs ++ t ∷ []) ≡ first_appearances xs ++ cond (list_any (bytes_eq t) xs) [] (t ∷ [])
appearances_push [] t = refl
appearances_push (x ∷ xs) t =
    ap (λ ys. x ∷ filter others ys) (appearances_push xs t)
    ∙ ap (λ ys. x ∷ ys) (filter-append others (first_appearances xs) (cond (list_any (bytes_eq t) xs) [] (t ∷ [])) ∙ ap (λ ys. filter others (first_appearances xs) ++ ys) (by (bytes_eq x t) (list_any (bytes_eq t) xs) refl))
    ∙ ap (λ b. x ∷ (filter others (first_appearances xs) ++ cond (b || list_any (bytes_eq t) xs) [] (t ∷ []))) (nat_list_eq_equiv.symm x t)
  where
    others : List ℕ → Bool
    others other = not (bytes_eq x other)

    by : (b any : Bool) → bytes_eq x t ≡ b → filter others (cond any [] (t ∷ [])) ≡ cond (b || any) [] (t ∷ [])
    by true true e = refl
    by true false e = ap (λ b. cond (not b) (t ∷ []) []) e
    by false true e = refl
    by false false e = ap (λ b. cond (not b) (t ∷ []) []) e

length_more : (xs : List (List ℕ)) (b : Bool) (t : List ℕ) → length (xs ++ cond b [] (t ∷ [])) ≡ length xs + cond (not b) 1 0
length_more [] true t = refl
length_more [] false t = refl
length_more (x ∷ xs) b t = let h = length_more xs b t in omega (arith, h)

-- and so their number
pub count_push : (xs : List (List ℕ)) (t : List ℕ) → length (first_appearances (xs ++ t ∷ [])) ≡ length (first_appearances xs) + cond (not (list_any (bytes_eq t) xs)) 1 0
count_push xs t = ap length (appearances_push xs t) ∙ length_more (first_appearances xs) (list_any (bytes_eq t) xs) t

-- more texts add at the end
pub more : (ys xs : List (List ℕ)) → (zs : List (List ℕ)) × (first_appearances (xs ++ ys) ≡ first_appearances xs ++ zs)
more [] xs = ([], ap first_appearances (append-nil xs) ∙ sym (append-nil (first_appearances xs)))
more (y ∷ ys) xs =
    let rest : (zs : List (List ℕ)) × (first_appearances ((xs ++ y ∷ []) ++ ys) ≡ first_appearances (xs ++ y ∷ []) ++ zs) = more ys (xs ++ y ∷ []) in (
      cond (list_any (bytes_eq y) xs) [] (y ∷ []) ++ rest.0,
      ap first_appearances (sym (append_assoc xs (y ∷ []) ys)) ∙ rest.1 ∙ ap (λ l. l ++ rest.0) (appearances_push xs y) ∙ append_assoc (first_appearances xs) (cond (list_any (bytes_eq y) xs) [] (y ∷ [])) rest.0,
    )

pub first_at : {A : Type 0} (p : A → Bool) (xs ys : List A) (y : A) → list_any p xs ≡ false → p y ≡ true → position_or_len p (xs ++ y ∷ ys) ≡ length xs
first_at p [] ys y none t = ap (λ b. cond (not b) (1 + position_or_len p ys) 0) t
first_at p (x ∷ xs) ys y none t =
    ap (λ b. cond (not b) (1 + position_or_len p (xs ++ y ∷ ys)) 0) (or_parts (p x) (list_any p xs) none).0
    ∙ ap (λ n. 1 + n) (first_at p xs ys y (or_parts (p x) (list_any p xs) none).1 t) ∙ omega arith

pub none_at : {A : Type 0} (p : A → Bool) (xs : List A) → list_any p xs ≡ false → position_or_len p xs ≡ length xs
none_at p [] none = refl
none_at p (x ∷ xs) none =
    ap (λ b. cond (not b) (1 + position_or_len p xs) 0) (or_parts (p x) (list_any p xs) none).0
    ∙ ap (λ n. 1 + n) (none_at p xs (or_parts (p x) (list_any p xs) none).1) ∙ omega arith

-- the position after those that fail
pub position_at : {A : Type 0} (p : A → Bool) (xs ys : List A) (y : A) → list_any p xs ≡ false → p y ≡ true → position p (xs ++ y ∷ ys) ≡ Some (length xs)
position_at p xs ys y none t =
    ap (λ n. cond (nat_lt n (length (xs ++ y ∷ ys))) (Some n) None) (first_at p xs ys y none t)
    ∙ ap (λ b. cond b (Some (length xs)) None) (lt-ltb (length xs) (length (xs ++ y ∷ ys)) (let l : length (xs ++ y ∷ ys) ≡ length xs + length (y ∷ ys) = length-append xs (y ∷ ys) in omega (arith, l)))

-- the number of a text that was not among those before
pub number_here : (xs ys : List (List ℕ)) (t text : List ℕ) → list_any (bytes_eq text) xs ≡ false → bytes_eq text t ≡ true → position (bytes_eq text) (first_appearances (xs ++ t ∷ ys)) ≡ Some (length (first_appearances xs))
number_here xs ys t text none same =
    ap (position (bytes_eq text)) (ap first_appearances (sym (append_assoc xs (t ∷ []) ys)) ∙ rest.1 ∙ ap (λ l. l ++ rest.0) pushed ∙ append_assoc (first_appearances xs) (t ∷ []) rest.0)
    ∙ position_at (bytes_eq text) (first_appearances xs) rest.0 t (any-appearances (bytes_eq text) xs none) same
  where
    rest : (zs : List (List ℕ)) × (first_appearances ((xs ++ t ∷ []) ++ ys) ≡ first_appearances (xs ++ t ∷ []) ++ zs)
    rest = more ys (xs ++ t ∷ [])

    pushed : first_appearances (xs ++ t ∷ []) ≡ first_appearances xs ++ t ∷ []
    pushed = appearances_push xs t ∙ ap (λ b. first_appearances xs ++ cond b [] (t ∷ [])) (sym (list_any_congr nat_list_eq_equiv text t xs same) ∙ none)

-- a text that is not among some has no number among them
pub number_none : (xs : List (List ℕ)) (text : List ℕ) → list_any (bytes_eq text) xs ≡ false → position (bytes_eq text) (first_appearances xs) ≡ None
number_none xs text none =
    ap (λ n. cond (nat_lt n (length (first_appearances xs))) (Some n) None) (none_at (bytes_eq text) (first_appearances xs) (any-appearances (bytes_eq text) xs none))
    ∙ ap (λ b. cond b (Some (length (first_appearances xs))) None) (le-ltb (length (first_appearances xs)) (length (first_appearances xs)) (omega arith))

-- leaving out what fails a test changes nothing of what passes it first
pub find-filter : {A : Type 0} (p q : A → Bool) (xs : List A) → ((y : A) → q y ≡ false → p y ≡ false) → find p (filter q xs) ≡ find p xs
find-filter p q [] h = refl
find-filter {A} p q (x ∷ xs) h = by (q x) refl (find-filter p q xs h)
  where
    by : (b : Bool) → q x ≡ b → find p (filter q xs) ≡ find p xs → find p (cond b (x ∷ filter q xs) (filter q xs)) ≡ cond (p x) (Some x) (find p xs)
    by true kept rest = ap (λ o. cond (p x) (Some x) o) rest
    by false left rest = rest ∙ sym (ap (λ b. cond b (Some x) (find p xs)) (h x left))

-- the first that passes a test is the same among the first appearances
pub find-appearances : (p : List ℕ → Bool) (xs : List (List ℕ)) → find p (first_appearances xs) ≡ find p xs
find-appearances p [] = refl
find-appearances p (x ∷ xs) = by (p x) refl (find-appearances p xs)
  where
    others : List ℕ → Bool
    others other = not (bytes_eq x other)

    same : p x ≡ false → (y : List ℕ) → others y ≡ false → p y ≡ false
    same fails y equal = ap p (sym ((bytes_eq-Decides x y).0 (known (bytes_eq x y) equal))) ∙ fails
      where
        known : (b : Bool) → not b ≡ false → b ≡ true
        known true e = refl
        known false e = absurd (cc e)

    by : (b : Bool) → p x ≡ b → find p (first_appearances xs) ≡ find p xs → cond (p x) (Some x) (find p (filter others (first_appearances xs))) ≡ cond (p x) (Some x) (find p xs)
    by true passes rest = ap (λ b. cond b (Some x) (find p (filter others (first_appearances xs)))) passes ∙ sym (ap (λ b. cond b (Some x) (find p xs)) passes)
    by false fails rest = ap (λ o. cond (p x) (Some x) o) (find-filter p others (first_appearances xs) (same fails) ∙ rest)

-- whether one passes is the same among the first appearances
pub any-same : (p : List ℕ → Bool) (xs : List (List ℕ)) → list_any p (first_appearances xs) ≡ list_any p xs
any-same p xs = any-found p (first_appearances xs) ∙ ap is_some (find-appearances p xs) ∙ sym (any-found p xs)
  where
    any-found : {A : Type 0} (q : A → Bool) (ys : List A) → list_any q ys ≡ is_some (find q ys)
    any-found q [] = refl
    any-found {A} q (y ∷ ys) = by-y (q y) (any-found q ys)
      where
        by-y : (b : Bool) → list_any q ys ≡ is_some (find q ys) → (b || list_any q ys) ≡ is_some (cond b (Some y) (find q ys))
        by-y true rest = refl
        by-y false rest = rest

-- Facts of tests, options and lists that proofs of several crates use, and that the standard library has not.
use Rattle.std.proofs.Common.{◌≡◌, ◌∙◌, ◌<◌, ◌≤◌, ◌+◌, ◌==◌, ◌||◌, ◌⊎◌, ℕ, zero, suc, Bool, true, false, not, List, [], ◌∷◌, ◌++◌, Option, None, Some, Result, Ok, Err, All, refl, sym, ap, subst, arith, add-one, inl, inr, cond, length, map, flat_map, filter, take, drop, drop-cons, get_or, slice_get, bytes_eq, option_map, position}
use Rattle.std.specs.Prelude.{Contains, OnErr}
use Rattle.std.specs.List.{AllZip, find, list_all, list_any, position_or_len}
use Rattle.std.specs.Cmp.Lexicographic.{bytes_decides}
use Rattle.std.proofs.lemmas.Bool.{and_from, and_parts, cases_Bool, lt-ltb, or_left, or_parts, or_right}
use Rattle.std.proofs.lemmas.Bool.Decides.{nat_tests}
use Rattle.std.proofs.lemmas.Cmp.{nat_list_eq_equiv}
use Rattle.std.proofs.lemmas.Grind.{common_steps}
use Rattle.std.proofs.lemmas.List.{get_or-map, length-map, map-append, take_more}
use Rattle.std.proofs.lemmas.List.Elements.{All-cons, All-head, All-nil, All-tail}
use Rattle.std.proofs.lemmas.List.Folds.{prefix_len-append}
use Rattle.std.proofs.lemmas.Option.{slice_get_cases}
use Rattle.olap_meaning.specs.Catalog.{first_appearances}
use Rattle.olap_meaning.proofs.Members.{in_first, in_rest}

-- ---- tests

pub below_differs : (a b : ℕ) → a < b → (a == b) ≡ false
below_differs a b h = grind (arith, nat_tests)

pub eq_turned : (a b : ℕ) → (a == b) ≡ (b == a)
eq_turned a b = grind (arith, nat_tests)

pub or_first : (a b : Bool) → (a || b) ≡ false → a ≡ false
or_first a b e = (or_parts a b e).0

pub or_second : (a b : Bool) → (a || b) ≡ false → b ≡ false
or_second a b e = (or_parts a b e).1

pub or_swap : (a b : Bool) → (a || (b || false)) ≡ (b || a)
or_swap true true = refl
or_swap true false = refl
or_swap false true = refl
or_swap false false = refl

pub same_bool : (a b : Bool) → (a ≡ true → b ≡ true) → (b ≡ true → a ≡ true) → a ≡ b
same_bool true b into back = sym (into refl)
same_bool false true into back = back refl
same_bool false false into back = refl

pub same_text : (x y : List ℕ) → bytes_eq x y ≡ true → x ≡ y
same_text x y h = (bytes_decides x y).0 h

pub text_self : (x : List ℕ) → bytes_eq x x ≡ true
text_self x = (bytes_decides x x).1 refl

pub text_turned : (x y : List ℕ) → bytes_eq x y ≡ bytes_eq y x
text_turned x y = nat_list_eq_equiv.symm x y

-- ---- options and results

pub some_or_none : {A : Type 0} (o : Option A) → (o ≡ None) ⊎ ((x : A) × (o ≡ Some x))
some_or_none None = inl refl
some_or_none (Some x) = inr (x, refl)

pub mapped_from : {A B : Type 0} (f : A → B) (o : Option A) (y : B) → option_map f o ≡ Some y → (x : A) × (o ≡ Some x) × (f x ≡ y)
mapped_from f None y h = absurd (cc)
mapped_from f (Some x) y h = (x, refl, cc)

pub option_map-map : {A B C : Type 0} (f : B → C) (g : A → B) (o : Option A) → option_map f (option_map g o) ≡ option_map (λ x. f (g x)) o
option_map-map f g None = refl
option_map-map f g (Some x) = refl

pub on_err : {A E P : Type 0} (r : Result A E) → P → OnErr r P
on_err (Ok x) p = tt
on_err (Err e) p = p

-- ---- an element at a place

pub item_there : {A : Type 0} (xs : List A) (i : ℕ) → i < length xs → (x : A) × (slice_get xs i ≡ Some x)
item_there [] i h = absurd (omega arith)
item_there (x ∷ xs) zero h = (x, refl)
item_there (x ∷ xs) (suc i) h = item_there xs i (omega arith)

pub missing : {A : Type 0} (xs : List A) (i : ℕ) → i < length xs → slice_get xs i ≡ None → ⊥
missing xs i within none =
    elim ((slice_get_cases xs i).1) [
      | inl here ↦ let e : Some here.0 ≡ None = sym here.2 ∙ none in cc e
      | inr past ↦ omega (arith, past.0, within)
    ]

pub contains_at : {A : Type 0} (xs : List A) (i : ℕ) (x : A) → slice_get xs i ≡ Some x → Contains xs x
contains_at [] i x at = absurd (cc)
contains_at (y ∷ ys) zero x at = let same : y ≡ x = cc in subst (Contains (y ∷ ys)) same (in_first y ys)
contains_at (y ∷ ys) (suc i) x at = in_rest y ys x (contains_at ys i x at)

pub holds_at : {A : Type 0} (P : A → Type 0) (xs : List A) (i : ℕ) (x : A) → All P xs → slice_get xs i ≡ Some x → P x
holds_at P [] i x all e = absurd (cc)
holds_at P (y ∷ ys) zero x all e = let same : y ≡ x = cc in subst P same (All-head P y ys all)
holds_at P (y ∷ ys) (suc i) x all e = holds_at P ys i x (All-tail P y ys all) e

pub passes_at : {A : Type 0} (p : A → Bool) (xs : List A) (i : ℕ) (x : A) → list_all p xs ≡ true → slice_get xs i ≡ Some x → p x ≡ true
passes_at p [] i x all h = absurd (cc)
passes_at p (y ∷ ys) zero x all h = let same : y ≡ x = cc in ap p (sym same) ∙ (and_parts _ _ all).0
passes_at p (y ∷ ys) (suc i) x all h = passes_at p ys i x (and_parts _ _ all).1 h

pub any_at : {A : Type 0} (p : A → Bool) (xs : List A) (i : ℕ) (x : A) → slice_get xs i ≡ Some x → p x ≡ true → list_any p xs ≡ true
any_at p [] i x at t = absurd (cc)
any_at p (y ∷ ys) zero x at t = let same : y ≡ x = cc in or_left _ _ (ap p same ∙ t)
any_at p (y ∷ ys) (suc i) x at t = or_right _ _ (any_at p ys i x at t)

-- ---- fronts and rests

pub take_whole : {A : Type 0} (xs : List A) → take (length xs) xs ≡ xs
take_whole [] = refl
take_whole (x ∷ xs) = ap (λ ys. x ∷ ys) (take_whole xs)

pub take_step : {A : Type 0} (xs : List A) (i : ℕ) (x : A) → i < length xs → x ≡ get_or xs i x → take (i + 1) xs ≡ take i xs ++ x ∷ []
take_step xs i x l at = take_more xs i x l ∙ ap (λ y. take i xs ++ y ∷ []) (sym at)

pub drop_step : {A : Type 0} (xs : List A) (i : ℕ) (x : A) → i < length xs → x ≡ get_or xs i x → drop i xs ≡ x ∷ drop (i + 1) xs
drop_step xs i x within at = rw add-one (drop-cons xs i x within ∙ ap (λ y. y ∷ drop (suc i) xs) (sym at))

pub drop_at : {A : Type 0} (xs : List A) (i : ℕ) (x : A) → slice_get xs i ≡ Some x → drop i xs ≡ x ∷ drop (suc i) xs
drop_at [] i x h = absurd (cc)
drop_at (y ∷ ys) zero x h = let same : y ≡ x = cc in ap (λ z. z ∷ ys) same
drop_at (y ∷ ys) (suc i) x h = drop_at ys i x h

-- ---- tests of each element

pub all_weaker : {A : Type 0} (p q : A → Bool) (xs : List A) → ((x : A) → p x ≡ true → q x ≡ true) → list_all p xs ≡ true → list_all q xs ≡ true
all_weaker p q [] more all = refl
all_weaker p q (x ∷ xs) more all = and_from _ _ (more x (and_parts _ _ all).0) (all_weaker p q xs more (and_parts _ _ all).1)

pub all_push : {A : Type 0} (p : A → Bool) (xs : List A) (x : A) → list_all p xs ≡ true → p x ≡ true → list_all p (xs ++ x ∷ []) ≡ true
all_push p [] x all h = and_from _ _ h refl
all_push p (y ∷ ys) x all h = and_from _ _ (and_parts _ _ all).0 (all_push p ys x (and_parts _ _ all).1 h)

pub all_filter : {A : Type 0} (p q : A → Bool) (xs : List A) → list_all p xs ≡ true → list_all p (filter q xs) ≡ true
all_filter p q [] all = refl
all_filter p q (x ∷ xs) all =
    let parts = and_parts (p x) (list_all p xs) all in
    elim (cases_Bool (q x)) [
      | inl kept ↦ rw kept (and_from (p x) (list_all p (filter q xs)) parts.0 (all_filter p q xs parts.1))
      | inr out ↦ rw out (all_filter p q xs parts.1)
    ]

pub all_of_map : {A B : Type 0} (P : B → Type 0) (f : A → B) (xs : List A) → All P (map f xs) → All (λ x. P (f x)) xs
all_of_map P f xs all k d below =
    let lt : k < length (map f xs) = rw length-map below in
    let one = all k (f d) lt in
    rw (get_or-map f xs k d (f d) below) at one

pub any_map : {A B : Type 0} (p : B → Bool) (f : A → B) (xs : List A) → list_any p (map f xs) ≡ list_any (λ x. p (f x)) xs
any_map p f [] = refl
any_map p f (x ∷ xs) = ap (λ b. p (f x) || b) (any_map p f xs)

pub none_found : {A : Type 0} (p : A → Bool) (xs : List A) → find p xs ≡ None → All (λ x. p x ≡ false) xs
none_found p [] found = All-nil (λ x. p x ≡ false)
none_found p (y ∷ ys) found =
    elim (cases_Bool (p y)) [
      | inl passes ↦ let here = rw passes at found in absurd (cc)
      | inr fails ↦ All-cons (λ x. p x ≡ false) y ys fails (none_found p ys (rw fails at found))
    ]

-- ---- the place of the first that passes

pub placed : {A : Type 0} (p : A → Bool) (xs : List A) → list_any p xs ≡ true → position_or_len p xs < length xs
placed p [] any = absurd (cc any)
placed {A} p (x ∷ xs) any = by (p x) any (placed p xs)
  where
    by : (b : Bool) → (b || list_any p xs) ≡ true → (list_any p xs ≡ true → position_or_len p xs < length xs) → cond (not b) (1 + position_or_len p xs) 0 < length (x ∷ xs)
    by true e rest = omega arith
    by false e rest = let h = rest e in omega arith

pub position_there : {A : Type 0} (p : A → Bool) (xs : List A) → list_any p xs ≡ true → (i : ℕ) × (position p xs ≡ Some i)
position_there p xs any = (position_or_len p xs, ap (λ b. cond b (Some (position_or_len p xs)) None) (lt-ltb (position_or_len p xs) (length xs) (placed p xs any)))

pub place_stays : {A : Type 0} (p : A → Bool) (xs ys : List A) → position_or_len p xs < length xs → position_or_len p (xs ++ ys) ≡ position_or_len p xs
place_stays p xs ys h = grind (arith, common_steps, prefix_len-append)

-- ---- lists made of lists

pub map-flat_map : {A B C : Type 0} (f : B → C) (g : A → List B) (xs : List A) → map f (flat_map g xs) ≡ flat_map (λ x. map f (g x)) xs
map-flat_map f g [] = refl
map-flat_map f g (x ∷ xs) = map-append f (g x) (flat_map g xs) ∙ ap (λ ys. map f (g x) ++ ys) (map-flat_map f g xs)

pub flat_map_agree : {A B : Type 0} (f g : A → List B) → ((x : A) → f x ≡ g x) → (xs : List A) → flat_map f xs ≡ flat_map g xs
flat_map_agree f g agree [] = refl
flat_map_agree f g agree (x ∷ xs) = rw (agree x, flat_map_agree f g agree xs) refl

pub filter-map : {A B : Type 0} (p : B → Bool) (f : A → B) (xs : List A) → filter p (map f xs) ≡ map f (filter (λ x. p (f x)) xs)
filter-map p f [] = refl
filter-map p f (x ∷ xs) =
    let rest = filter-map p f xs in
    elim (cases_Bool (p (f x))) [ inl passes ↦ rw (passes, rest) refl | inr fails ↦ rw (fails, rest) refl ]

pub filter_turned : {A : Type 0} (p q : A → Bool) (xs : List A) → filter p (filter q xs) ≡ filter q (filter p xs)
filter_turned p q [] = refl
filter_turned p q (x ∷ xs) =
    let rest = filter_turned p q xs in
    elim (cases_Bool (p x)) [
      | inl passes ↦ elim (cases_Bool (q x)) [ inl also ↦ simp (passes, also, rest) | inr fails ↦ simp (passes, fails, rest) ]
      | inr fails ↦ elim (cases_Bool (q x)) [ inl passes ↦ simp (fails, passes, rest) | inr also ↦ simp (fails, also, rest) ]
    ]

pub filter_le : {A : Type 0} (p : A → Bool) (xs : List A) → length (filter p xs) ≤ length xs
filter_le p [] = omega arith
filter_le {A} p (x ∷ xs) = by (p x) (filter_le p xs)
  where
    by : (b : Bool) → length (filter p xs) ≤ length xs → length (cond b (x ∷ filter p xs) (filter p xs)) ≤ suc (length xs)
    by true h = omega arith
    by false h = omega arith

pub appearances_le : (xs : List (List ℕ)) → length (first_appearances xs) ≤ length xs
appearances_le [] = omega arith
appearances_le (x ∷ xs) = let h = appearances_le xs in let k = filter_le (λ other. not (bytes_eq x other)) (first_appearances xs) in omega arith

-- ---- lists side by side

pub zip_push : {A B : Type 0} (R : A → B → Type 0) (xs : List A) (ys : List B) (x : A) (y : B) → AllZip R xs ys → R x y → AllZip R (xs ++ x ∷ []) (ys ++ y ∷ [])
zip_push R [] [] x y all one = (one, tt)
zip_push R [] (z ∷ zs) x y all one = absurd all
zip_push R (w ∷ ws) [] x y all one = absurd all
zip_push R (w ∷ ws) (z ∷ zs) x y all one = (all.0, zip_push R ws zs x y all.1 one)

pub find-map : {A B : Type 0} (t : B → Bool) (f : A → B) (xs : List A) → find t (map f xs) ≡ option_map f (find (λ x. t (f x)) xs)
find-map t f [] = refl
find-map {A} {B} t f (x ∷ xs) = by (t (f x)) (find-map t f xs)
  where
    by : (b : Bool) → find t (map f xs) ≡ option_map f (find (λ y. t (f y)) xs) → cond b (Some (f x)) (find t (map f xs)) ≡ option_map f (cond b (Some x) (find (λ y. t (f y)) xs))
    by true rest = refl
    by false rest = rest

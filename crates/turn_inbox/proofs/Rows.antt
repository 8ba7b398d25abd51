-- Seats are dealt one number at a time, and taken back in any order.
use Rattle.std.proofs.Common.{◌≡◌, ◌⊎◌, ℕ, zero, suc, ◌+◌, ◌<◌, ◌≤◌, List, [], ◌∷◌, ◌++◌, map, length, get_or, refl, sym, ap, ◌∙◌, subst, inl, inr, ⊎_elim, arith}
use Rattle.std.proofs.lemmas.List.{map_push}
use mathlib.Core.Logic.{dite}
use native.Mathlib.Decide.{ℕ_discrete}
use Rattle.turn_inbox.specs.Entries.{Among, by, count_from}
use Rattle.turn_inbox.specs.Rule.{up_from, rest_of}

module _ {A : Type 0} where
  pub among_push : (x : A) (xs : List A) (y : A) → Among x (xs ++ y ∷ []) → Among x xs ⊎ (x ≡ y)
  among_push x [] y a = ⊎_elim (λ (e : x ≡ y). inr e) (λ z. absurd z) a
  among_push x (z ∷ xs) y a = ⊎_elim (λ (e : x ≡ z). inl (inl e)) (λ (t : Among x (xs ++ y ∷ [])). ⊎_elim (λ (h : Among x xs). inl (inr h)) (λ (e : x ≡ y). inr e) (among_push x xs y t)) a

  pub among_left : (x : A) (xs ys : List A) → Among x xs → Among x (xs ++ ys)
  among_left x [] ys a = absurd a
  among_left x (y ∷ xs) ys a = ⊎_elim (λ (e : x ≡ y). inl e) (λ (t : Among x xs). inr (among_left x xs ys t)) a

  pub among_right : (x : A) (xs ys : List A) → Among x ys → Among x (xs ++ ys)
  among_right x [] ys a = a
  among_right x (y ∷ xs) ys a = inr (among_right x xs ys a)

  -- what a place had seen or was told of, it is told of after a join
  pub told_still : (x : A) (seen next other : A) (told told' : List A) → told' ≡ seen ∷ other ∷ told → Among x (seen ∷ told) → Among x (next ∷ told')
  told_still x seen next other told told' is a = inr (subst (Among x) (sym is) (⊎_elim (λ (e : x ≡ seen). inl e) (λ (t : Among x told). inr (inr t)) a))

  -- a fact of each stays true when one more comes that has it
  pub each_push : (P : A → Type 0) (xs : List A) (y : A) → ((x : A) → Among x xs → P x) → P y → (x : A) → Among x (xs ++ y ∷ []) → P x
  each_push P xs y all one x a = ⊎_elim (λ (h : Among x xs). all x h) (λ (e : x ≡ y). subst P (sym e) one) (among_push x xs y a)

pub count_push : (k n : ℕ) → count_from k (suc n) ≡ count_from k n ++ (k + n) ∷ []
count_push k zero = let e : k ≡ k + 0 = omega arith in ap (λ (m : ℕ). m ∷ []) e
count_push k (suc n) = let e : suc k + n ≡ k + suc n = omega arith in ap (λ (l : List ℕ). k ∷ l) (count_push (suc k) n ∙ ap (λ (m : ℕ). count_from (suc k) n ++ m ∷ []) e)

pub numbered_push : {A : Type 0} (f : A → ℕ) (items : List A) (y : A) (n m : ℕ) → map f items ≡ count_from 1 n → f y ≡ m → n + 1 ≡ m → map f (items ++ y ∷ []) ≡ count_from 1 m
numbered_push f items y n m all one next =
    let e : f y ≡ 1 + n = omega (arith, one, next) in
    let z : suc n ≡ m = omega (arith, next) in
    map_push f items y ∙ (ap (λ (l : List ℕ). l ++ f y ∷ []) all ∙ (ap (λ (k : ℕ). count_from 1 n ++ k ∷ []) e ∙ (sym (count_push 1 n) ∙ ap (count_from 1) z)))

module _ {E : Type 0} (seat_of : E → ℕ) (xs : List E) where
  above : (k j n : ℕ) (es : List E) → k < j → Among (k, es) (up_from seat_of xs j n) → ⊥
  above k j zero es lo a = a
  above k j (suc n) es lo a = ⊎_elim (λ (e : (k, es) ≡ (j, by seat_of j xs)). let same : k ≡ j = ap (λ q. q.0) e in absurd (omega arith)) (λ (t : Among (k, es) (up_from seat_of xs (suc j) n)). above k (suc j) n es (omega arith) t) a

  pub distinct_from : (k n : ℕ) (es : List E) → Among (k, es) (up_from seat_of xs (suc k) n) → ⊥
  distinct_from k n es a = above k (suc k) n es (omega arith) a

  pub next_mine : (mine : List (ℕ × List E)) (k n : ℕ) → mine ≡ up_from seat_of xs k (suc n) → rest_of mine ≡ up_from seat_of xs (k + 1) n
  next_mine mine k n is = let e : suc k ≡ k + 1 = omega arith in ap rest_of is ∙ ap (λ (j : ℕ). up_from seat_of xs j n) e

  pub longer_mine : (mine : List (ℕ × List E)) (k n m : ℕ) → mine ≡ up_from seat_of xs k n → n ≡ suc m → mine ≡ up_from seat_of xs k (suc m)
  longer_mine mine k n m is e = is ∙ ap (up_from seat_of xs k) e

pub each_none : {A : Type 0} (P : A → Type 0) (xs : List A) → length xs ≡ 0 → (x : A) → Among x xs → P x
each_none P [] e x a = absurd a
each_none P (y ∷ ys) e x a = absurd (omega arith)

pub numbered_none : {A : Type 0} (f : A → ℕ) (xs : List A) (n : ℕ) → length xs ≡ 0 → n ≡ 0 → map f xs ≡ count_from 1 n
numbered_none f [] n e z = ap (count_from 1) (sym z)
numbered_none f (y ∷ ys) n e z = absurd (omega arith)

-- a list that was parted into its last element and the others
pub parted : {A : Type 0} (items rest : List A) (y : A) → items ≡ rest ++ y ∷ [] → (x : A) → Among x items → Among x rest ⊎ (x ≡ y)
parted items rest y is x a = among_push x rest y (subst (Among x) is a)

pub was_last : {A : Type 0} (items rest : List A) (y : A) → items ≡ rest ++ y ∷ [] → Among y items
was_last items rest y is = subst (Among y) (sym is) (among_right y rest (y ∷ []) (inl refl))

pub was_before : {A : Type 0} (items rest : List A) (y : A) → items ≡ rest ++ y ∷ [] → (x : A) → Among x rest → Among x items
was_before items rest y is x a = subst (Among x) (sym is) (among_left x rest (y ∷ []) a)

pub none_among : {A : Type 0} (xs : List A) → length xs ≡ 0 → (x : A) → Among x xs → ⊥
none_among xs e = each_none (λ _. ⊥) xs e

pub own_among : {A : Type 0} (xs : List A) (x : A) → xs ≡ x ∷ [] → Among x xs
own_among xs x is = subst (Among x) (sym is) (inl refl)

pub some_among : {A : Type 0} (xs : List A) (x : A) → Among x xs → 1 ≤ length xs
some_among [] x a = absurd a
some_among (y ∷ ys) x a = omega arith

-- a row with the numbers from 1 on has each of them
numbered_from : {A : Type 0} (f : A → ℕ) (items : List A) (a n : ℕ) → map f items ≡ count_from a n → (k : ℕ) → a ≤ k → k < a + n → (s : A) × Among s items × (f s ≡ k)
numbered_from f [] a zero is k lo hi = absurd (omega arith)
numbered_from f [] a (suc n) is k lo hi = let e : 0 ≡ suc (length (count_from (suc a) n)) = ap length is in absurd (omega arith)
numbered_from f (x ∷ xs) a zero is k lo hi = let e : suc (length (map f xs)) ≡ 0 = ap length is in absurd (omega arith)
numbered_from f (x ∷ xs) a (suc n) is k lo hi = dite (ℕ_discrete k a)
    (λ e. (x, inl refl, ap (λ l. get_or l 0 0) is ∙ sym e))
    (λ ne. let r = numbered_from f xs (suc a) n (ap rest_of is) k (omega arith) (omega arith) in (r.0, inr r.1, r.2))

pub numbered_all : {A : Type 0} (f : A → ℕ) (items : List A) (n : ℕ) → map f items ≡ count_from 1 n → (k : ℕ) → 1 ≤ k → k ≤ n → (s : A) × Among s items × (f s ≡ k)
numbered_all f items n is k lo hi = numbered_from f items 1 n is k lo (omega arith)

pub count_length : (k n : ℕ) → length (count_from k n) ≡ n
count_length k zero = refl
count_length k (suc n) = ap suc (count_length (suc k) n)

map_length : {A : Type 0} (f : A → ℕ) (items : List A) → length (map f items) ≡ length items
map_length f [] = refl
map_length f (x ∷ xs) = ap suc (map_length f xs)

pub numbered_length : {A : Type 0} (f : A → ℕ) (items : List A) (n : ℕ) → map f items ≡ count_from 1 n → length items ≡ n
numbered_length f items n is = sym (map_length f items) ∙ (ap length is ∙ count_length 1 n)

-- two seats that were put into a row are all of two
pub two_of : {A : Type 0} (items mid row : List A) (one two : A) (number : A → ℕ) (n : ℕ) → items ≡ mid ++ two ∷ [] → mid ≡ row ++ one ∷ [] → number one ≡ 1 → number two ≡ 2 → n ≡ 2 → (k : ℕ) → 1 ≤ k → k ≤ n → (s : A) × Among s items × (number s ≡ k)
two_of items mid row one two number n p q a b c k lo hi = dite (ℕ_discrete k 1)
    (λ e. (one, was_before items mid two p one (was_last mid row one q), a ∙ sym e))
    (λ ne. let e : 2 ≡ k = omega arith in (two, was_last items mid two p, b ∙ e))

-- Beginnings of one list, and the entries of one seat in them.
use Rattle.std.proofs.Common.{◌≡◌, ◌≢◌, ◌⊎◌, ℕ, ◌+◌, ◌<◌, ◌≤◌, ◌==◌, leb, List, [], ◌∷◌, ◌++◌, length, Bool, true, false, refl, ap, sym, subst, ne_eqb, cond, ◌∙◌, inl, inr, ⊎_elim, arith, append_assoc, length-append}
use Rattle.std.proofs.lemmas.Bool.{leb-true, leb-false}
use Rattle.std.proofs.lemmas.List.{append-nil, nil_from_length}
use Rattle.std.proofs.lemmas.List.Elements.{filter-append}
use mathlib.Core.List.{IsPrefix}
use Rattle.turn_inbox.specs.Entries.{by, AllBy, AllUpTo}
use Rattle.turn_inbox.specs.Rule.{longer}

module _ {A : Type 0} where
  pub prefix_self : (xs : List A) → IsPrefix xs xs
  prefix_self xs = ([], append-nil xs)

  pub prefix_trans : (xs ys zs : List A) → IsPrefix xs ys → IsPrefix ys zs → IsPrefix xs zs
  prefix_trans xs ys zs p q = (p.0 ++ q.0, sym (append_assoc xs p.0 q.0) ∙ (ap (λ w. w ++ q.0) p.1 ∙ q.1))

  -- a beginning that is as long as the list is the list
  whole_prefix : (xs h : List A) → IsPrefix xs h → length h ≤ length xs → xs ≡ h
  whole_prefix xs h p long =
      let n : length xs + length p.0 ≡ length h = sym (length-append xs p.0) ∙ ap length p.1 in
      let none : p.0 ≡ [] = nil_from_length p.0 (omega arith) in
      sym (append-nil xs) ∙ (ap (λ w. xs ++ w) (sym none) ∙ p.1)

  longer_by : (P : List A → Type 0) (xs ys : List A) → (length xs ≤ length ys → P ys) → (length ys < length xs → P xs) → P (longer xs ys)
  longer_by P xs ys second first = case (leb (length xs) (length ys)) refl
    where
      case : (b : Bool) → leb (length xs) (length ys) ≡ b → P (cond b ys xs)
      case true is = second (leb-true (length xs) (length ys) is)
      case false is = first (leb-false (length xs) (length ys) is)

  -- the longer of two lists is one of them
  pub longer_one : (xs ys : List A) → (longer xs ys ≡ xs) ⊎ (longer xs ys ≡ ys)
  longer_one xs ys = longer_by (λ l. (l ≡ xs) ⊎ (l ≡ ys)) xs ys (λ _. inr refl) (λ _. inl refl)

  pub longer_prefix : (xs ys h : List A) → IsPrefix xs h → IsPrefix ys h → IsPrefix (longer xs ys) h
  longer_prefix xs ys h p q = longer_by (λ l. IsPrefix l h) xs ys (λ _. q) (λ _. p)

  -- of two beginnings of a list, one of which is the whole list, the longer is the whole list
  pub longer_first : (xs ys h : List A) → xs ≡ h → IsPrefix ys h → longer xs ys ≡ h
  longer_first xs ys h is q = longer_by (λ l. l ≡ h) xs ys (λ long. whole_prefix ys h q (let n : length xs ≡ length h = ap length is in omega arith)) (λ _. is)

  pub longer_second : (xs ys h : List A) → IsPrefix xs h → ys ≡ h → longer xs ys ≡ h
  longer_second xs ys h p is = longer_by (λ l. l ≡ h) xs ys (λ _. is)
      (λ long. let n : length xs + length p.0 ≡ length h = sym (length-append xs p.0) ∙ ap length p.1 in let m : length ys ≡ length h = ap length is in absurd (omega arith))

module _ {E : Type 0} (seat_of : E → ℕ) (k : ℕ) where
  by_keep : (e : E) (xs : List E) (b : Bool) → (seat_of e == k) ≡ b → b ≡ false → by seat_of k (e ∷ xs) ≡ by seat_of k xs
  by_keep e xs b is off = ap (λ (c : Bool). cond c (e ∷ by seat_of k xs) (by seat_of k xs)) (is ∙ off)

  -- the entries of one seat have none of another
  pub by_others : (number : ℕ) (xs : List E) → 1 ≤ k → k ≢ number → AllBy seat_of number xs → by seat_of k xs ≡ []
  by_others number [] some other all = refl
  by_others number (e ∷ xs) some other all =
      let apart : seat_of e ≢ k = ⊎_elim (λ (h : seat_of e ≡ number) (x : seat_of e ≡ k). absurd (other (sym x ∙ h))) (λ (h : seat_of e ≡ 0) (x : seat_of e ≡ k). absurd (omega arith)) all.0 in
      by_keep e xs (seat_of e == k) refl (ne_eqb (seat_of e) k apart) ∙ by_others number xs some other all.1

  pub by_grown : (number : ℕ) (xs new : List E) → 1 ≤ k → k ≢ number → AllBy seat_of number new → by seat_of k (xs ++ new) ≡ by seat_of k xs
  by_grown number xs new some other all = filter-append _ xs new ∙ (ap (λ w. by seat_of k xs ++ w) (by_others number new some other all) ∙ append-nil (by seat_of k xs))

module _ {E : Type 0} (seat_of : E → ℕ) (n : ℕ) where
  -- entries of nobody
  pub upto_nobody : (xs : List E) → AllBy seat_of 0 xs → AllUpTo seat_of n xs
  upto_nobody [] all = tt
  upto_nobody (e ∷ xs) all = (⊎_elim (λ (h : seat_of e ≡ 0). omega arith) (λ (h : seat_of e ≡ 0). omega arith) all.0, upto_nobody xs all.1)

  upto_by : (k : ℕ) (new : List E) → k ≤ n → AllBy seat_of k new → AllUpTo seat_of n new
  upto_by k [] few all = tt
  upto_by k (e ∷ new) few all = (⊎_elim (λ (h : seat_of e ≡ k). omega arith) (λ (h : seat_of e ≡ 0). omega arith) all.0, upto_by k new few all.1)

  pub upto_grown : (k : ℕ) (xs new : List E) → k ≤ n → AllBy seat_of k new → AllUpTo seat_of n xs → AllUpTo seat_of n (xs ++ new)
  upto_grown k [] new few all known = upto_by k new few all
  upto_grown k (e ∷ xs) new few all known = (known.0, upto_grown k xs new few all known.1)

pub upto_same : {E : Type 0} (seat_of : E → ℕ) (n m : ℕ) (xs ys : List E) → n ≡ m → xs ≡ ys → AllUpTo seat_of n xs → AllUpTo seat_of m ys
upto_same seat_of n m xs ys e f all = subst (λ (k : ℕ). AllUpTo seat_of k ys) e (subst (AllUpTo seat_of n) f all)

-- What each of some things means, in order, or the first refusal.
use Rattle.std.proofs.Common.{◌≡◌, ◌∙◌, ◌<◌, ◌+◌, ◌++◌, ℕ, suc, List, [], ◌∷◌, Result, Ok, Err, refl, sym, ap, length, drop, take, get_or, drop-cons}
use Rattle.std.proofs.lemmas.List.{take-append-drop, take_more}
use Rattle.olap_meaning.specs.Results.{◌>>=◌}

-- what each of some means, in order
abbrev pub each : {A B E : Type 0} → (A → Result B E) → List A → Result (List B) E
each f [] = Ok []
each f (x ∷ xs) = f x >>= (λ y. each f xs >>= (λ ys. Ok (y ∷ ys)))

again : {B E : Type 0} (r : Result (List B) E) → r ≡ r >>= (λ ys. Ok ys)
again (Ok ys) = refl
again (Err e) = refl

module _ {A B E : Type 0} (f : A → Result B E) where
  apart : (r : Result B E) (one other : Result (List B) E)
      → r >>= (λ y. (one >>= (λ xs. other >>= (λ ys. Ok (xs ++ ys)))) >>= (λ ys. Ok (y ∷ ys))) ≡ (r >>= (λ y. one >>= (λ ys. Ok (y ∷ ys)))) >>= (λ xs. other >>= (λ ys. Ok (xs ++ ys)))
  apart (Err e) one other = refl
  apart (Ok y) (Err e) other = refl
  apart (Ok y) (Ok xs) (Err e) = refl
  apart (Ok y) (Ok xs) (Ok ys) = refl

  each_append : (xs ys : List A) → each f (xs ++ ys) ≡ each f xs >>= (λ front. each f ys >>= (λ rest. Ok (front ++ rest)))
  each_append [] ys = again (each f ys)
  each_append (x ∷ xs) ys =
      ap (λ r. f x >>= (λ y. r >>= (λ all. Ok (y ∷ all)))) (each_append xs ys)
      ∙ apart (f x) (each f xs) (each f ys)

  -- one more, and what it means
  pub each_more : (xs : List A) (i : ℕ) (x : A) (front : List B) (y : B) → i < length xs → x ≡ get_or xs i x → each f (take i xs) ≡ Ok front → f x ≡ Ok y → each f (take (i + 1) xs) ≡ Ok (front ++ y ∷ [])
  each_more xs i x front y within is before one =
      ap (each f) (take_more xs i x within ∙ ap (λ z. take i xs ++ z ∷ []) (sym is))
      ∙ each_append (take i xs) (x ∷ [])
      ∙ ap (λ r. r >>= (λ all. each f (x ∷ []) >>= (λ rest. Ok (all ++ rest)))) before
      ∙ ap (λ r. (r >>= (λ z. Ok (z ∷ []))) >>= (λ rest. Ok (front ++ rest))) one

  -- the first that is refused refuses all
  pub each_fails : (xs : List A) (i : ℕ) (x : A) (front : List B) (e : E) → i < length xs → x ≡ get_or xs i x → each f (take i xs) ≡ Ok front → f x ≡ Err e → each f xs ≡ Err e
  each_fails xs i x front e within is before one =
      ap (each f) (sym (take-append-drop i xs))
      ∙ each_append (take i xs) (drop i xs)
      ∙ ap (λ r. r >>= (λ all. each f (drop i xs) >>= (λ rest. Ok (all ++ rest)))) before
      ∙ ap (λ zs. each f zs >>= (λ rest. Ok (front ++ rest))) (drop-cons xs i x within ∙ ap (λ z. z ∷ drop (suc i) xs) (sym is))
      ∙ ap (λ r. (r >>= (λ z. each f (drop (suc i) xs) >>= (λ zs. Ok (z ∷ zs)))) >>= (λ rest. Ok (front ++ rest))) one

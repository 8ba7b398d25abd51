-- Tests, and lists of things that pass them.
use Rattle.std.proofs.Common.{◌≡◌, ◌∙◌, Bool, true, false, ◌&&◌, ◌||◌, List, [], ◌∷◌, All, refl, sym, ap, flat_map}
use Rattle.std.proofs.Math.Bool.{and-false, or-false}
use Rattle.std.proofs.lemmas.Bool.{and_from, le-leb, leb-true, lt-ltb, ltb-true}
use Rattle.std.specs.List.{list_all, list_any}
use Rattle.std.proofs.lemmas.List.Elements.{All-cons, All-head, All-nil, All-tail}
use Rattle.std.proofs.lemmas.List.Folds.{list_all-append, list_any-append}

pub and_swap : (a b c d : Bool) → ((a && b) && (c && d)) ≡ ((a && c) && (b && d))
and_swap false b c d = refl
and_swap true true c d = refl
and_swap true false true d = refl
and_swap true false false d = refl

pub and_or : (a b c : Bool) → ((a && b) || (a && c)) ≡ (a && (b || c))
and_or true b c = refl
and_or false b c = refl

pub or_and : (a b c : Bool) → ((a && c) || (b && c)) ≡ ((a || b) && c)
or_and false b c = refl
or_and true b true = refl
or_and true b false = and-false b

module _ {X : Type 0} where
  -- two tests of one answer each
  pub any_agree : (p q : X → Bool) (xs : List X) → All (λ x. p x ≡ q x) xs → list_any p xs ≡ list_any q xs
  any_agree p q [] same = refl
  any_agree p q (x ∷ xs) same =
      ap (λ b. b || list_any p xs) (All-head (λ x. p x ≡ q x) x xs same)
      ∙ ap (λ b. q x || b) (any_agree p q xs (All-tail (λ x. p x ≡ q x) x xs same))

  pub all_agree : (p q : X → Bool) (xs : List X) → All (λ x. p x ≡ q x) xs → list_all p xs ≡ list_all q xs
  all_agree p q [] same = refl
  all_agree p q (x ∷ xs) same =
      ap (λ b. b && list_all p xs) (All-head (λ x. p x ≡ q x) x xs same)
      ∙ ap (λ b. q x && b) (all_agree p q xs (All-tail (λ x. p x ≡ q x) x xs same))

  -- what holds of everything holds of each
  pub everywhere : (P : X → Type 0) → ((x : X) → P x) → (xs : List X) → All P xs
  everywhere P all [] = All-nil P
  everywhere P all (x ∷ xs) = All-cons P x xs (all x) (everywhere P all xs)

  none_any : (xs : List X) → list_any (λ x. false) xs ≡ false
  none_any [] = refl
  none_any (x ∷ xs) = none_any xs

  pub true_all : (xs : List X) → list_all (λ x. true) xs ≡ true
  true_all [] = refl
  true_all (x ∷ xs) = true_all xs

  -- a test beside one of some
  pub spread_any : (k : Bool) (p : X → Bool) (xs : List X) → (k && list_any p xs) ≡ list_any (λ x. k && p x) xs
  spread_any true p xs = refl
  spread_any false p xs = sym (none_any xs)

  -- a test beside all of some
  pub spread_all : (k : Bool) (p : X → Bool) (x : X) (xs : List X) → (k && list_all p (x ∷ xs)) ≡ list_all (λ x. k && p x) (x ∷ xs)
  spread_all true p x xs = refl
  spread_all false p x xs = refl

module _ {X Y : Type 0} where
  pub any_flat_map : (p : Y → Bool) (f : X → List Y) (xs : List X) → list_any p (flat_map f xs) ≡ list_any (λ x. list_any p (f x)) xs
  any_flat_map p f [] = refl
  any_flat_map p f (x ∷ xs) = list_any-append p (f x) (flat_map f xs) ∙ ap (λ b. list_any p (f x) || b) (any_flat_map p f xs)

  pub all_flat_map : (p : Y → Bool) (f : X → List Y) (xs : List X) → All (λ x. list_all p (f x) ≡ true) xs → list_all p (flat_map f xs) ≡ true
  all_flat_map p f [] all = refl
  all_flat_map p f (x ∷ xs) all =
      list_all-append p (f x) (flat_map f xs)
      ∙ and_from _ _ (All-head (λ x. list_all p (f x) ≡ true) x xs all) (all_flat_map p f xs (All-tail (λ x. list_all p (f x) ≡ true) x xs all))

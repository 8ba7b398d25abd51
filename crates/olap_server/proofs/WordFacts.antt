-- Words two by two.
use Rattle.std.proofs.Common.{◌≡◌, ◌<◌, ◌+◌, ◌*◌, ◌/◌, ◌%◌, ◌∙◌, ◌++◌, ℕ, suc, true, List, [], ◌∷◌, Option, Some, None, map, length, drop, get_or, nat_eq, is_some, option_map, IsSome, refl, sym, ap, arith, append_assoc, append-nil}
use Rattle.std.proofs.lemmas.Bool.{eqb-true}
use Rattle.std.proofs.lemmas.List.{drop_more, drop_all}
use Rattle.command_words.specs.Commands.{pairs_of}

some_mapped : {A B : Type 0} (f : A → B) (o : Option A) → is_some o ≡ is_some (option_map f o)
some_mapped f None = refl
some_mapped f (Some x) = refl

-- words stand two by two where their number is even
pub even_pairs : {A : Type 0} (f : A → List ℕ) (xs : List A) → nat_eq (length xs % 2) 0 ≡ is_some (pairs_of (map f xs))
even_pairs f [] = refl
even_pairs f (x ∷ []) = refl
even_pairs f (x ∷ y ∷ xs) =
    let same : suc (suc (length xs)) % 2 ≡ length xs % 2 = omega arith in
    rw same (even_pairs f xs ∙ some_mapped (λ pairs. (f x, f y) ∷ pairs) (pairs_of (map f xs)))

-- some pairs were read, and the words from here on are the others
abbrev pub AreRead : {A : Type 0} → (A → List ℕ) → List A → List (List ℕ × List ℕ) → ℕ → Type 0
AreRead f xs pairs i = pairs_of (map f xs) ≡ option_map (λ rest. pairs ++ rest) (pairs_of (map f (drop (2 * i) xs)))

mapped_twice : (front : List (List ℕ × List ℕ)) (pair : List ℕ × List ℕ) (o : Option (List (List ℕ × List ℕ)))
    → option_map (λ rest. front ++ rest) (option_map (λ rest. pair ∷ rest) o) ≡ option_map (λ rest. (front ++ pair ∷ []) ++ rest) o
mapped_twice front pair None = refl
mapped_twice front pair (Some rest) = ap Some (sym (append_assoc front (pair ∷ []) rest))

two_from : {A : Type 0} (xs : List A) (k : ℕ) (a b : A) → k + 1 < length xs → a ≡ get_or xs k a → b ≡ get_or xs (k + 1) b → drop k xs ≡ a ∷ b ∷ drop (suc (suc k)) xs
two_from xs k a b h is_a is_b =
    let after : k + 1 + 1 ≡ suc (suc k) = omega arith in
    let second : drop (k + 1) xs ≡ b ∷ drop (suc (suc k)) xs = drop_more xs (k + 1) b h ∙ rw (← is_b, after) refl in
    drop_more xs k a (omega arith) ∙ rw (← is_a, second) refl

pub read_more : {A : Type 0} (f : A → List ℕ) (xs : List A) (pairs : List (List ℕ × List ℕ)) (i : ℕ) (a b : A) → 2 * i + 1 < length xs → a ≡ get_or xs (2 * i) a → b ≡ get_or xs (2 * i + 1) b
    → AreRead f xs pairs i → AreRead f xs (pairs ++ (f a, f b) ∷ []) (i + 1)
read_more f xs pairs i a b h is_a is_b so_far =
    let two = two_from xs (2 * i) a b h is_a is_b in
    let next : suc (suc (2 * i)) ≡ 2 * (i + 1) = omega arith in
    so_far ∙ rw (two, ← next) (mapped_twice pairs (f a, f b) (pairs_of (map f (drop (suc (suc (2 * i))) xs))))

pub all_read : {A : Type 0} (f : A → List ℕ) (xs : List A) (pairs : List (List ℕ × List ℕ)) (n : ℕ) → n ≡ length xs / 2 → IsSome (pairs_of (map f xs)) → AreRead f xs pairs n → pairs_of (map f xs) ≡ Some pairs
all_read f xs pairs n at even so_far =
    let two : nat_eq (length xs % 2) 0 ≡ true = even_pairs f xs ∙ even in
    let none_left : length xs % 2 ≡ 0 = eqb-true (length xs % 2) 0 two in
    let whole : 2 * n ≡ length xs = omega arith in
    so_far ∙ rw (whole, drop_all (length xs) xs (omega arith)) (ap Some (append-nil pairs))

-- Words in capital letters, and where the first byte of a kind stands.
use Rattle.std.proofs.Common.{inl, inr, ◌⊎◌, ◌+◌, ◌≡◌, ◌≢◌, ◌∙◌, ◌<◌, ◌≤◌, ℕ, zero, suc, Bool, true, false, List, [], ◌∷◌, Some, None, refl, sym, ap, arith, bytes_eq, cond, get_or, length, map, nat_lt, position}
use Rattle.std.specs.List.{position_or_len}
use Rattle.std.proofs.lemmas.Bool.{and_from, eq-eqb, false_from_ne_true, ltb-false}
use Rattle.std.proofs.lemmas.Slice.Eq.{bytes_eq-Decides}
use Rattle.std.specs.Str.{is_utf8, IsUtf8, IsCharBoundary}
use Rattle.std.proofs.lemmas.Str.{IsCharBoundary-after_ascii, IsUtf8-from_is_utf8, is_utf8-from_IsUtf8}

-- two texts of one length are equal, where each byte of one is what a function makes of the other's
pub mapped_eq : (f : ℕ → ℕ) (text word : List ℕ) → length text ≡ length word → ((j : ℕ) → j < length text → f (get_or text j 0) ≡ get_or word j 0) → bytes_eq (map f text) word ≡ true
mapped_eq f [] [] long each = refl
mapped_eq f [] (w ∷ word) long each = absurd (omega (arith, long))
mapped_eq f (t ∷ text) [] long each = absurd (omega (arith, long))
mapped_eq f (t ∷ text) (w ∷ word) long each =
    and_from _ _ (eq-eqb (f t) w (each 0 (omega arith))) (mapped_eq f text word (omega (arith, long)) (λ j l. each (suc j) (omega (arith, l))))

get_mapped : (f : ℕ → ℕ) (text : List ℕ) (j : ℕ) → j < length text → get_or (map f text) j 0 ≡ f (get_or text j 0)
get_mapped f [] j l = absurd (omega (arith, l))
get_mapped f (t ∷ text) zero l = refl
get_mapped f (t ∷ text) (suc j) l = get_mapped f text j (omega (arith, l))

long_mapped : (f : ℕ → ℕ) (text : List ℕ) → length (map f text) ≡ length text
long_mapped f [] = refl
long_mapped f (t ∷ text) = ap suc (long_mapped f text)

-- two texts differ, where a byte does
pub mapped_ne : (f : ℕ → ℕ) (text word : List ℕ) (j : ℕ) → j < length text → f (get_or text j 0) ≢ get_or word j 0 → bytes_eq (map f text) word ≡ false
mapped_ne f text word j l other = false_from_ne_true _ (λ same. other (sym (get_mapped f text j l) ∙ ap (λ xs. get_or xs j 0) ((bytes_eq-Decides (map f text) word).0 same)))

-- two texts differ, where their lengths do
pub mapped_longer : (f : ℕ → ℕ) (text word : List ℕ) → length text ≢ length word → bytes_eq (map f text) word ≡ false
mapped_longer f text word other = false_from_ne_true _ (λ same. other (sym (long_mapped f text) ∙ ap length ((bytes_eq-Decides (map f text) word).0 same)))

pub position_within : (p : ℕ → Bool) (xs : List ℕ) → position_or_len p xs ≤ length xs
position_within p [] = omega arith
position_within p (x ∷ xs) = by (p x) refl (position_within p xs)
  where
    by : (b : Bool) → p x ≡ b → position_or_len p xs ≤ length xs → position_or_len p (x ∷ xs) ≤ length (x ∷ xs)
    by true at h = rw at (omega arith)
    by false at h = rw at (omega (arith, h))

-- the place of the first byte of a kind, or the text's length
pub found_place : (p : ℕ → Bool) (xs : List ℕ) (i : ℕ) → Some i ≡ position p xs → i ≡ position_or_len p xs
found_place p xs i at = by (nat_lt (position_or_len p xs) (length xs)) at
  where
    by : (b : Bool) → Some i ≡ cond b (Some (position_or_len p xs)) None → i ≡ position_or_len p xs
    by true e = cc e
    by false e = absurd (cc e)

pub no_place : (p : ℕ → Bool) (xs : List ℕ) → None ≡ position p xs → length xs ≡ position_or_len p xs
no_place p xs at = by (nat_lt (position_or_len p xs) (length xs)) refl at
  where
    by : (b : Bool) → nat_lt (position_or_len p xs) (length xs) ≡ b → None ≡ cond b (Some (position_or_len p xs)) None → length xs ≡ position_or_len p xs
    by true at e = absurd (cc e)
    by false at e = let most = position_within p xs in let least = ltb-false _ _ at in omega (arith, most, least)

-- a text's end, and what follows an ASCII character, is where a character begins
pub boundary : (line : List ℕ) (n : ℕ) → IsUtf8 line → n ≤ length line → (n ≡ length line) ⊎ ((i : ℕ) × (n ≡ i + 1) × (i < length line) × (get_or line i 0 < 128)) → IsCharBoundary line n
boundary line n utf8 within (inl end) = (within, λ less. absurd (omega (arith, less, end)))
boundary line n utf8 within (inr (i, next, l, ascii)) = rw next (IsCharBoundary-after_ascii line i utf8 l ascii)

pub text_yes : (bytes : List ℕ) → IsUtf8 bytes → is_utf8 bytes ≡ true
text_yes bytes h = is_utf8-from_IsUtf8 bytes h

pub text_no : (bytes : List ℕ) → ¬ (IsUtf8 bytes) → is_utf8 bytes ≡ false
text_no bytes h = false_from_ne_true (is_utf8 bytes) (λ holds. h (IsUtf8-from_is_utf8 bytes holds))

-- Parting what was joined.
use Rattle.std.proofs.Common.{◌≡◌, ◌∙◌, ◌++◌, ◌==◌, ℕ, Bool, true, false, cond, length, ◌≤◌, ◌<◌, List, [], ◌∷◌, sym, ap, refl, All, arith, flat_map, append_assoc}
use Rattle.std.proofs.lemmas.Bool.{eq-eqb, or_parts}
use Rattle.std.specs.List.{list_any, join_with_byte, onto_first}
use Rattle.std.proofs.lemmas.List.{append-nil}
use Rattle.std.proofs.lemmas.List.Splits.{slice_split_none, slice_split_at}
use Rattle.std.proofs.lemmas.List.Elements.{All-nil, All-cons}
use Rattle.olap_meaning.specs.Texts.{line}
use Rattle.grid_reader.specs.Lines.{parted}

-- no text of these has the byte
abbrev pub AreWithout : ℕ → List (List ℕ) → Type 0
AreWithout byte [] = Unit {0}
AreWithout byte (part ∷ parts) = (list_any (λ b. b == byte) part ≡ false) × AreWithout byte parts

-- each byte of a text that lacks one is another
none_of : (byte : ℕ) (part : List ℕ) → list_any (λ b. b == byte) part ≡ false → All (λ b. (b == byte) ≡ false) part
none_of byte [] h = All-nil (λ b. (b == byte) ≡ false)
none_of byte (x ∷ xs) h =
    let both = or_parts (x == byte) (list_any (λ b. b == byte) xs) h in
    All-cons (λ b. (b == byte) ≡ false) x xs both.0 (none_of byte xs both.1)

-- parts that were joined by a byte that none of them has
pub parted_joined : (byte : ℕ) (part : List ℕ) (parts : List (List ℕ)) → AreWithout byte (part ∷ parts) → parted byte (join_with_byte byte (part ∷ parts)) ≡ part ∷ parts
parted_joined byte part [] own = slice_split_none (λ b. b == byte) part (none_of byte part own.0)
parted_joined byte part (next ∷ parts) own =
    slice_split_at (λ b. b == byte) part byte (join_with_byte byte (next ∷ parts)) (none_of byte part own.0) (eq-eqb byte byte refl) ∙ ap (λ ps. part ∷ ps) (parted_joined byte next parts own.1)

-- lines, and nothing after the last
pub parted_lines : (lines : List (List ℕ)) → AreWithout 10 lines → parted 10 (flat_map line lines) ≡ lines ++ [] ∷ []
parted_lines [] own = refl
parted_lines (l ∷ lines) own =
    ap (parted 10) (append_assoc l (10 ∷ []) (flat_map line lines)) ∙ slice_split_at (λ b. b == 10) l 10 (flat_map line lines) (none_of 10 l own.0) refl ∙ ap (λ ps. l ∷ ps) (parted_lines lines own.1)

-- lines in a row are joined by line feeds, with nothing after the last
pub lines_joined : (lines : List (List ℕ)) → join_with_byte 10 (lines ++ [] ∷ []) ≡ flat_map line lines
lines_joined [] = refl
lines_joined (l ∷ []) = sym (append-nil (l ++ 10 ∷ []))
lines_joined (l ∷ next ∷ lines) = ap (λ t. l ++ 10 ∷ t) (lines_joined (next ∷ lines)) ∙ sym (append_assoc l (10 ∷ []) (flat_map line (next ∷ lines)))

-- two rows of texts without the byte, joined
pub without_join : (byte : ℕ) (xs ys : List (List ℕ)) → AreWithout byte xs → AreWithout byte ys → AreWithout byte (xs ++ ys)
without_join byte [] ys a b = b
without_join byte (x ∷ xs) ys a b = (a.0, without_join byte xs ys a.1 b)

-- a byte more makes no fewer parts
no_fewer : (b : Bool) (x : ℕ) (parts : List (List ℕ)) → length parts ≤ length (cond b ([] ∷ parts) (onto_first x parts))
no_fewer true x parts = omega arith
no_fewer false x [] = omega arith
no_fewer false x (part ∷ parts) = omega arith

-- a line makes one part more
one_more : (text rest : List ℕ) → length (parted 10 rest) < length (parted 10 (line text ++ rest))
one_more [] rest = omega arith
one_more (x ∷ xs) rest =
    let more = one_more xs rest in
    let fewer = no_fewer (x == 10) x (parted 10 (line xs ++ rest)) in
    omega (arith, more, fewer)

-- there are no more lines than parts
pub lines_count : (lines : List (List ℕ)) → length lines ≤ length (parted 10 (flat_map line lines))
lines_count [] = omega arith
lines_count (l ∷ lines) = omega (arith, one_more l (flat_map line lines), lines_count lines)

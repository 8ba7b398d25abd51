-- White, and a dot with white around it.
use Rattle.std.proofs.Common.{◌≡◌, ℕ, ◌+◌, ◌<◌, List, [], ◌∷◌, ◌++◌, inl, inr, refl, sym, ap, ◌∙◌, arith, drop, append_assoc, Bool, true, false}
use Rattle.std.specs.Prelude.{◌&&◌}
use Rattle.std.specs.List.{list_all}
use Rattle.std.specs.Str.{IsUtf8}
use Rattle.std.proofs.lemmas.List.Folds.{list_all-append}
use Rattle.query_meaning.specs.Tokens.{is_white}
use Rattle.mdx_reader.specs.PathTexts.{BeginsDot}
use Rattle.mdx_reader.specs.PathSteps.{IsByteAt, BeginsOtherwise, IsWhiteAt, BeginsNoWhite, IsWhiteTo, IsBehindWhite, IsBehindDot, BeginsNoDot}
use Rattle.mdx_reader.proofs.TextPlaces.{behind_byte}

begins_with : (text others : List ℕ) (byte : ℕ) → is_white byte ≡ false → text ≡ byte ∷ others → BeginsNoWhite text
begins_with text others byte h e b bs f = let k : b ≡ byte = cc in ap is_white k ∙ h

-- one white byte more
one_more : (text : List ℕ) (from at byte : ℕ) → IsUtf8 text → byte < 128 → is_white byte ≡ true → IsWhiteTo text from at → IsByteAt text at byte → IsWhiteTo text from (at + 1)
one_more text from at byte u low w h b = record {
  forward = omega (arith, h.forward);
  boundary = behind_byte text at byte u low b;
  white = h.white ++ byte ∷ [];
  all_white = list_all-append is_white h.white (byte ∷ []) ∙ ap (λ x. x && list_all is_white (byte ∷ [])) h.all_white ∙ ap (λ x. x && true) w;
  parts = h.parts ∙ ap (λ x. h.white ++ x) b.parts ∙ sym (append_assoc h.white (byte ∷ []) (drop (at + 1) text));
}

pub white_more : (text : List ℕ) (from at : ℕ) → IsUtf8 text → IsWhiteTo text from at → IsWhiteAt text at → IsWhiteTo text from (at + 1)
white_more text from at u h (inl b) = one_more text from at 32 u (omega arith) refl h b
white_more text from at u h (inr b) = one_more text from at 9 u (omega arith) refl h b

-- the first byte that is not white is the same
first_white : (c : ℕ) (a : List ℕ) → list_all is_white (c ∷ a) ≡ true → is_white c ≡ true
first_white c a h = first (is_white c) (list_all is_white a) h
  where
    first : (p q : Bool) → (p && q) ≡ true → p ≡ true
    first true q e = refl
    first false q e = e

other_white : (c : ℕ) (a : List ℕ) → list_all is_white (c ∷ a) ≡ true → list_all is_white a ≡ true
other_white c a h = other (is_white c) (list_all is_white a) h
  where
    other : (p q : Bool) → (p && q) ≡ true → q ≡ true
    other true q e = e
    other false q e = cc

pub white_same : (a b x y : List ℕ) → list_all is_white a ≡ true → list_all is_white b ≡ true → BeginsNoWhite x → BeginsNoWhite y → a ++ x ≡ b ++ y → x ≡ y
white_same [] [] x y p q m n e = e
white_same [] (c ∷ b) x y p q m n e = (let k = first_white c b q in let j = m c (b ++ y) e in cc)
white_same (c ∷ a) [] x y p q m n e = (let k = first_white c a p in let j = n c (a ++ x) (sym e) in cc)
white_same (c ∷ a) (d ∷ b) x y p q m n e = white_same a b x y (other_white c a p) (other_white d b q) m n cc

-- a dot, and what is before and after it
dotted : {text rest : List ℕ} (h : BeginsDot text rest) → text ≡ h.before ++ 46 ∷ (h.behind ++ rest)
dotted {text} {rest} h = h.parts ∙ append_assoc h.before (46 ∷ h.behind) rest

-- what follows a dot and the white around it is one
pub dot_same : (text r s : List ℕ) → BeginsNoWhite r → BeginsNoWhite s → BeginsDot text r → BeginsDot text s → r ≡ s
dot_same text r s m n h k =
    let x = 46 ∷ (h.behind ++ r) in
    let y = 46 ∷ (k.behind ++ s) in
    let e : x ≡ y = white_same h.before k.before x y h.white_before k.white_before (begins_with x (h.behind ++ r) 46 refl refl) (begins_with y (k.behind ++ s) 46 refl refl) (sym (dotted h) ∙ dotted k) in
    white_same h.behind k.behind r s h.white_behind k.white_behind m n cc

pub no_dot : (text : List ℕ) (from dot : ℕ) → IsBehindWhite text from dot → BeginsOtherwise 46 (drop dot text) → BeginsNoDot (drop from text)
no_dot text from dot w o rest h =
    let y = 46 ∷ (h.behind ++ rest) in
    o (h.behind ++ rest) (white_same w.white.white h.before (drop dot text) y w.white.all_white h.white_before w.ends (begins_with y (h.behind ++ rest) 46 refl refl) (sym w.white.parts ∙ dotted h))

pub behind_dot : (text : List ℕ) (from dot place : ℕ) → IsBehindWhite text from dot → IsByteAt text dot 46 → IsBehindWhite text (dot + 1) place → IsBehindDot text from place
behind_dot text from dot place w b v = record {
  forward = omega (arith, w.white.forward, v.white.forward);
  boundary = v.white.boundary;
  begins = record {
    before = w.white.white;
    behind = v.white.white;
    white_before = w.white.all_white;
    white_behind = v.white.all_white;
    parts = w.white.parts ∙ ap (λ x. w.white.white ++ x) (b.parts ∙ ap (λ x. 46 ∷ x) v.white.parts) ∙ sym (append_assoc w.white.white (46 ∷ v.white.white) (drop place text));
  };
  ends = v.ends;
}

-- a text that begins with "[" does not begin with white
pub open_no_white : (text others : List ℕ) → text ≡ 91 ∷ others → BeginsNoWhite text
open_no_white text others e = begins_with text others 91 refl e

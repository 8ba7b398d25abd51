-- Bytes and characters at a place of a text.
use Rattle.std.proofs.Common.{◌≡◌, ℕ, ◌+◌, ◌<◌, List, [], ◌∷◌, ◌++◌, sym, ap, ◌∙◌, arith, length, drop, get_or, Option, Some, None}
use Rattle.std.specs.Prelude.{encode_utf8, MatchOption}
use Rattle.std.specs.Str.{IsCharBoundary, IsUtf8}
use Rattle.std.proofs.lemmas.List.{drop_more}
use Rattle.std.proofs.lemmas.Str.{drop_past_char, IsUtf8-drop, IsCharBoundary-past_char, IsCharBoundary-after_ascii}
use Rattle.mdx_reader.specs.PathSteps.{IsByteAt, IsCharAt}

pub byte_is : (text : List ℕ) (at byte : ℕ) → IsByteAt text at byte → get_or text at 0 ≡ byte
byte_is text at byte h = let k = drop_more text at 0 h.within in let e = h.parts in cc

-- a text may be cut after a byte of ASCII
pub behind_byte : (text : List ℕ) (at byte : ℕ) → IsUtf8 text → byte < 128 → IsByteAt text at byte → IsCharBoundary text (at + 1)
behind_byte text at byte u low h = IsCharBoundary-after_ascii text at u h.within (omega (arith, byte_is text at byte h))

-- the character that was read at a place
pub char_here : (E : Type 0) (found : Option ℕ) (text bytes behind : List ℕ) (at : ℕ) → IsUtf8 text → IsCharBoundary text at → bytes ≡ drop at text → MatchOption found ((length bytes ≡ 0) × E) (λ c. bytes ≡ encode_utf8 c ++ behind) → MatchOption found (drop at text ≡ []) (IsCharAt text at)
char_here E None text [] behind at u b e h = sym e
char_here E None text (x ∷ bytes) behind at u b e h = absurd (omega (arith, h.0))
char_here E (Some c) text bytes behind at u b e h =
    let f : drop at text ≡ encode_utf8 c ++ behind = sym e ∙ h in
    record {
      boundary = IsCharBoundary-past_char text behind at c b.0 (IsUtf8-drop text at u b) f;
      parts = f ∙ ap (λ x. encode_utf8 c ++ x) (sym (drop_past_char text behind at c f));
    }

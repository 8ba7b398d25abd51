-- The tokens of a text, and where each begins. A text is the list of its characters.
use Rattle.std.specs.Prelude.{◌≡◌, ◌≢◌, ◌==◌, ◌||◌, ◌++◌, ◌+◌, ℕ, Bool, true, false, List, [], ◌∷◌, codes, encode_utf8_all, flat_map, if◌then◌else◌, length, map}
use Rattle.std.specs.Char.{len_utf8, to_ascii_uppercase, is_ascii_alphanumeric}
use Rattle.query_meaning.specs.declared.token.Class.{Class}
use Rattle.query_meaning.specs.declared.token.Class.TheVariants as class_is
use Rattle.query_meaning.specs.declared.token.Token.{Token}
use Rattle.query_meaning.specs.declared.token.Token.TheVariants as token

-- white: a space or a tab
abbrev pub is_white : ℕ → Bool
is_white c = (c == 32) || (c == 9)

-- a sign: one of , . : ( ) { } * +
abbrev pub is_sign : ℕ → Bool
is_sign c =
    (c == 44) || (c == 46) || (c == 58) || (c == 40) || (c == 41) || (c == 123) || (c == 125)
    || (c == 42) || (c == 43)

-- what a character begins: white, a word (a letter or digit of ASCII), a sign, a name (its opening bracket), or nothing
unfoldable pub class : ℕ → Class
class c =
    if is_white c then class_is.White
    else if is_ascii_alphanumeric c then class_is.Letter
    else if is_sign c then class_is.Sign
    else if c == 91 then class_is.Open
    else class_is.Other

-- letters and digits of ASCII
abbrev pub AreLetters : List ℕ → Type 0
AreLetters [] = Unit {0}
AreLetters (c ∷ cs) = (class c ≡ class_is.Letter) × AreLetters cs

-- a text with its ASCII letters as capital letters
abbrev pub in_capitals : List ℕ → List ℕ
in_capitals = map to_ascii_uppercase

-- a name as it stands between its brackets: "]" is written as "]]". A "]" is one byte and no part of a longer character,
-- so the same holds of characters and of bytes.
abbrev pub escaped : List ℕ → List ℕ
escaped = flat_map (λ c. if c == 93 then codes "]]" else c ∷ [])

-- a name in its brackets, as characters or as bytes
abbrev pub bracketed : List ℕ → List ℕ
bracketed name = codes "[" ++ escaped name ++ codes "]"

-- how many bytes some characters take
abbrev pub size : List ℕ → ℕ
size cs = length (encode_utf8_all cs)

-- a token, and the byte at which it begins
pub data Placed : Type 0 where
  At : (at : ℕ) (kind : Token) → Placed

-- Spells after_word at tokens text: the text, which begins at the byte `at`, spells these tokens, in this order.
-- `after_word` says whether a word ends just before it.
pub data Spells : Bool → ℕ → List Placed → List ℕ → Type 0 where
  -- nothing is left
  ended : {after : Bool} {at : ℕ} → Spells after at [] []
  -- white may stand before each token and at the end
  white : {after : Bool} {at c : ℕ} {tokens : List Placed} {text : List ℕ}
      → class c ≡ class_is.White → Spells false (at + len_utf8 c) tokens text
      → Spells after at tokens (c ∷ text)
  -- a sign
  sign : {after : Bool} {at c : ℕ} {tokens : List Placed} {text : List ℕ}
      → class c ≡ class_is.Sign → Spells false (at + len_utf8 c) tokens text
      → Spells after at (At at (token.Sign c) ∷ tokens) (c ∷ text)
  -- a word of letters and digits, which are of either case; none begins where another ends
  word : {at c : ℕ} {tokens : List Placed} {text : List ℕ} (more rest : List ℕ)
      → class c ≡ class_is.Letter → AreLetters more → text ≡ more ++ rest
      → Spells true (at + len_utf8 c + size more) tokens rest
      → Spells false at (At at (token.Word (in_capitals (c ∷ more))) ∷ tokens) (c ∷ text)
  -- a name of one or more characters, in its brackets. No "]" comes after them, since no token begins with one.
  name : {after : Bool} {at c : ℕ} {tokens : List Placed} {text : List ℕ} (more rest : List ℕ)
      → class c ≡ class_is.Open → encode_utf8_all more ≢ [] → text ≡ escaped more ++ 93 ∷ rest
      → Spells false (at + len_utf8 c + size (escaped more) + 1) tokens rest
      → Spells after at (At at (token.Name (encode_utf8_all more)) ∷ tokens) (c ∷ text)

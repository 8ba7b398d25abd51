-- The steps of a reader of paths: a character, white, a dot and a name at a place of a text. A text is the list of its
-- bytes.
use Rattle.std.specs.Prelude.{◌≡◌, ◌≢◌, ◌⊎◌, ◌++◌, ◌+◌, ◌-◌, ◌<◌, ◌≤◌, ℕ, suc, true, false, List, [], ◌∷◌, drop, length, take, encode_utf8}
use Rattle.std.specs.Char.{len_utf8}
use Rattle.std.specs.List.{list_all}
use Rattle.std.specs.Str.{IsCharBoundary, IsUtf8}
use Rattle.query_meaning.specs.Tokens.{is_white}
use Rattle.mdx_reader.specs.declared.path.Found.{Found}
use Rattle.mdx_reader.specs.declared.path.Found.TheVariants.{Name, Stops}
use Rattle.mdx_reader.specs.PathTexts.{BeginsName, BeginsDot}

-- this byte stands at a place
pub record IsByteAt (text : List ℕ) (at byte : ℕ) : Type 0 where
  pub within : at < length text
  pub parts : drop at text ≡ byte ∷ drop (at + 1) text

-- the text does not begin with this byte
abbrev pub BeginsOtherwise : ℕ → List ℕ → Type 0
BeginsOtherwise byte text = (others : List ℕ) → text ≢ byte ∷ others

-- a space or a tab stands at a place
abbrev pub IsWhiteAt : List ℕ → ℕ → Type 0
IsWhiteAt text at = IsByteAt text at 32 ⊎ IsByteAt text at 9

-- the text does not begin with white
abbrev pub BeginsNoWhite : List ℕ → Type 0
BeginsNoWhite text = (byte : ℕ) (others : List ℕ) → text ≡ byte ∷ others → is_white byte ≡ false

-- the character at a place
pub record IsCharAt (text : List ℕ) (at c : ℕ) : Type 0 where
  pub boundary : IsCharBoundary text (at + len_utf8 c)
  pub parts : drop at text ≡ encode_utf8 c ++ drop (at + len_utf8 c) text

-- white, from the byte `from` to the byte `place`
pub record IsWhiteTo (text : List ℕ) (from place : ℕ) : Type 0 where
  pub forward : from ≤ place
  pub boundary : IsCharBoundary text place
  pub white : List ℕ
  pub all_white : list_all is_white white ≡ true
  pub parts : drop from text ≡ white ++ drop place text

-- all the white at the byte `from`, and the byte after it
pub record IsBehindWhite (text : List ℕ) (from place : ℕ) : Type 0 where
  pub white : IsWhiteTo text from place
  pub ends : BeginsNoWhite (drop place text)

-- a dot at the byte `from` with all the white around it, and the byte after them
pub record IsBehindDot (text : List ℕ) (from place : ℕ) : Type 0 where
  pub forward : from < place
  pub boundary : IsCharBoundary text place
  pub begins : BeginsDot (drop from text) (drop place text)
  pub ends : BeginsNoWhite (drop place text)

-- no dot begins the text, with white before it
abbrev pub BeginsNoDot : List ℕ → Type 0
BeginsNoDot text = (rest : List ℕ) → ¬ BeginsDot text rest

-- a name at the byte `from`, and the byte after it
pub record IsNameAt (text : List ℕ) (from : ℕ) (name : List ℕ) (place : ℕ) : Type 0 where
  pub forward : from < place
  pub boundary : IsCharBoundary text place
  pub begins : BeginsName name (drop from text) (drop place text)

-- no name begins at the byte `from`, and `byte` ends the longest front, from there on, with which a name begins
pub record NameStops (text : List ℕ) (from byte : ℕ) : Type 0 where
  pub forward : from ≤ byte
  pub within : byte ≤ length text
  pub none : (name rest : List ℕ) → ¬ BeginsName name (drop from text) rest
  pub goes_on : (more : List ℕ) × (name : List ℕ)
      × (IsUtf8 (take (byte - from) (drop from text) ++ more)
      × BeginsName name (take (byte - from) (drop from text) ++ more) [])
  pub no_further : byte < length text → (more name rest : List ℕ)
      → ¬ BeginsName name (take (suc byte - from) (drop from text) ++ more) rest

-- the name, or the byte at which it stops
abbrev pub ReadsName : List ℕ → ℕ → Found → Type 0
ReadsName text from (Name name place) = IsNameAt text from name place
ReadsName text from (Stops byte) = NameStops text from byte

-- a dot with white around it and a name at the byte `from`, and the byte after them
pub record IsNextAt (text : List ℕ) (from : ℕ) (name : List ℕ) (place : ℕ) : Type 0 where
  pub forward : from < place
  pub boundary : IsCharBoundary text place
  pub next : List ℕ
  pub dot : BeginsDot (drop from text) next
  pub begins : BeginsName name next (drop place text)

-- no dot with white around it and a name begin the text
abbrev pub BeginsNoNext : List ℕ → Type 0
BeginsNoNext text =
    (next name rest : List ℕ) → BeginsDot text next → ¬ BeginsName name next rest

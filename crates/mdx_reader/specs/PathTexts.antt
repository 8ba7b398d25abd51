-- Paths at a place of a text. A text is the list of its bytes.
use Rattle.std.specs.Prelude.{◌≡◌, ◌≢◌, ◌++◌, ◌-◌, ◌<◌, ◌≤◌, ℕ, suc, true, List, [], ◌∷◌, Result, Ok, Err, drop, length, take}
use Rattle.std.specs.List.{list_all}
use Rattle.std.specs.Str.{IsCharBoundary, IsUtf8}
use Rattle.query_meaning.specs.Tokens.{bracketed, is_white}
use Rattle.mdx_reader.specs.declared.path.PathFault.{PathFault}
use Rattle.mdx_reader.specs.declared.path.PathFault.TheVariants.{Stop, OutOfMemory}

-- the text begins with this name in its brackets, and `rest` follows it; no "]" follows, since "]]" stands for one "]"
-- of a name
pub record BeginsName (name text rest : List ℕ) : Type 0 where
  pub some : name ≢ []
  pub parts : text ≡ bracketed name ++ rest
  pub ends : (others : List ℕ) → rest ≢ 93 ∷ others

-- the text begins with a dot, with white before and after it, and `rest` follows
pub record BeginsDot (text rest : List ℕ) : Type 0 where
  pub before : List ℕ
  pub behind : List ℕ
  pub white_before : list_all is_white before ≡ true
  pub white_behind : list_all is_white behind ≡ true
  pub parts : text ≡ before ++ 46 ∷ behind ++ rest

-- BeginsPath path text rest: the text begins with this path, and `rest` follows it
pub data BeginsPath : List (List ℕ) → List ℕ → List ℕ → Type 0 where
  -- one name
  one : {name text rest : List ℕ} → BeginsName name text rest → BeginsPath (name ∷ []) text rest
  -- or a name, a dot and a path
  more : {name text rest : List ℕ} {names : List (List ℕ)} (behind next : List ℕ)
      → BeginsName name text behind → BeginsDot behind next → BeginsPath names next rest
      → BeginsPath (name ∷ names) text rest

-- the longest path that begins at the byte `from`, and the byte after it, where the text may be cut
pub record IsPathAt (text : List ℕ) (from : ℕ) (path : List (List ℕ)) (place : ℕ) : Type 0 where
  pub forward : from < place
  pub boundary : IsCharBoundary text place
  pub begins : BeginsPath path (drop from text) (drop place text)
  pub longest : (other : List (List ℕ)) (rest : List ℕ) → BeginsPath other (drop from text) rest
      → length (drop place text) ≤ length rest

-- no path begins at the byte `from`, and `byte` ends the longest front, from there on, with which a path begins
pub record PathStops (text : List ℕ) (from byte : ℕ) : Type 0 where
  pub forward : from ≤ byte
  pub within : byte ≤ length text
  pub none : (path : List (List ℕ)) (rest : List ℕ) → ¬ BeginsPath path (drop from text) rest
  pub goes_on : (more : List ℕ) × (path : List (List ℕ))
      × (IsUtf8 (take (byte - from) (drop from text) ++ more)
      × BeginsPath path (take (byte - from) (drop from text) ++ more) [])
  pub no_further : byte < length text → (more : List ℕ) (path : List (List ℕ)) (rest : List ℕ)
      → ¬ BeginsPath path (take (suc byte - from) (drop from text) ++ more) rest

-- the longest path and the byte after it; or the byte at which its first name stops; or a want of memory
abbrev pub ReadsPath : List ℕ → ℕ → Result (List (List ℕ) × ℕ) PathFault → Type 0
ReadsPath text from (Ok found) = IsPathAt text from found.0 found.1
ReadsPath text from (Err (Stop byte)) = PathStops text from byte
ReadsPath text from (Err OutOfMemory) = Unit {0}

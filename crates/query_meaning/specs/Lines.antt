-- What an input begins with: a line, or none.
use Rattle.std.specs.Prelude.{ℕ, ◌≡◌, ◌≢◌, ◌++◌, ◌<◌, ◌≤◌, List, [], ◌∷◌, All, length}

-- the longest line, in bytes before its LF
abbrev pub line_limit : ℕ
line_limit = 65536

-- no LF is among these bytes
abbrev pub HasNoLf : List ℕ → Type 0
HasNoLf bytes = All (λ b. b ≢ 10) bytes

-- IsBeforeLf line between: what stands between a line and its LF
pub data IsBeforeLf : List ℕ → List ℕ → Type 0 where
  -- a CR
  cr : {line : List ℕ} → IsBeforeLf line (13 ∷ [])
  -- or nothing, where the line does not end with a CR
  nothing_between : {line : List ℕ} → ((front : List ℕ) → line ≢ front ++ 13 ∷ [])
      → IsBeforeLf line []

-- what an input begins with: nothing, a line and the bytes after it, or too many bytes without an LF
pub data Front : Type 0 where
  Nothing : Front
  FirstLine : List ℕ → List ℕ → Front
  TooMany : Front

-- Begins bytes front: what these bytes begin with, where no others come after them
pub data Begins : List ℕ → Front → Type 0 where
  -- with nothing, where there are none
  no_byte : Begins [] Nothing
  -- with a line that an LF ends; a CR just before the LF is no part of it, but counts for its length
  ended : {bytes : List ℕ} (line between rest : List ℕ) → IsBeforeLf line between
      → HasNoLf (line ++ between) → length (line ++ between) ≤ line_limit
      → bytes ≡ (line ++ between) ++ 10 ∷ rest → Begins bytes (FirstLine line rest)
  -- with a last line, which no LF ends
  last : {line : List ℕ} → line ≢ [] → HasNoLf line → length line ≤ line_limit
      → Begins line (FirstLine line [])
  -- with more bytes than a line may have, and no LF among them
  too_many : {bytes : List ℕ} (front rest : List ℕ) → HasNoLf front → line_limit < length front
      → bytes ≡ front ++ rest → Begins bytes TooMany

-- no bytes begin with two things
abbrev pub BeginningsAreOne : Type 0
BeginningsAreOne =
    (bytes : List ℕ) (one other : Front) → Begins bytes one → Begins bytes other → one ≡ other

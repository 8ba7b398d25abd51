-- Forms of text. A text is the list of its bytes; a form speaks of its characters.
-- `R at cs q` says: where the characters cs come from the byte `at` on, the whole means q.
use Rattle.std.specs.Prelude.{◌≡◌, ◌⊎◌, ◌↔◌, ◌<◌, ◌≤◌, ℕ, suc, ◌+◌, List, [], ◌∷◌, ◌++◌, length, take, Option, Some, None, Result, Ok, Err}
use Rattle.std.specs.Char.{len_utf8}
use Rattle.std.specs.Str.{IsUtf8, IsAscii, chars}
use Rattle.text_forms.specs.declared.ReadFault.{ReadFault}
use Rattle.text_forms.specs.declared.ReadFault.TheVariants as fault

-- some text of ASCII characters, the closing text, goes on from here to a whole
pub record GoesOn {Q : Type 0} (R : List ℕ → Q → Type 0) : Type 0 where
  pub closing : List ℕ
  pub whole : Q
  pub ascii : IsAscii closing
  pub goes : R closing whole

-- two characters may begin with the same byte: they are one, or both are beyond ASCII
abbrev pub BeginAlike : ℕ → ℕ → Type 0
BeginAlike c d = (c ≡ d) ⊎ ((128 ≤ c) × (128 ≤ d))

-- the character is taken: what may come from it on is the character, and then what may come after it
abbrev pub Takes : {Q : Type 0} → (ℕ → List ℕ → Q → Type 0) → (ℕ → List ℕ → Q → Type 0) → ℕ → ℕ
    → Type 0
Takes {Q} R R' at c = (cs : List ℕ) (q : Q) → R at (c ∷ cs) q ↔ R' (at + len_utf8 c) cs q

-- the character is refused for its first byte: nothing that comes begins with it
abbrev pub Refuses : {Q : Type 0} → (ℕ → List ℕ → Q → Type 0) → ℕ → ℕ → Type 0
Refuses {Q} R at c = (d : ℕ) (cs : List ℕ) (q : Q) → BeginAlike c d → ¬ R at (d ∷ cs) q

-- the state after a character, or a refusal
abbrev pub Steps : {S Q : Type 0} → (S → ℕ → List ℕ → Q → Type 0) → S → ℕ → ℕ → Option S → Type 0
Steps rest old at c (Some new) = Takes (rest old) (rest new) at c
Steps rest old at c None = Refuses (rest old) at c

-- nothing more may come, and the whole then means this and nothing else; or something must come
abbrev pub Finishes : {A Q : Type 0} → (List A → Q → Type 0) → Option Q → Type 0
Finishes {A} {Q} R (Some q) = R [] q × ((p : Q) → R [] p → p ≡ q)
Finishes {A} {Q} R None = (q : Q) → ¬ R [] q

-- the text is of the form, and means q
pub record Writes {Q : Type 0} (R : ℕ → List ℕ → Q → Type 0) (text : List ℕ) (q : Q) : Type 0 where
  pub utf8 : IsUtf8 text
  pub means : R 0 (chars text) q

-- the text has none of the meanings that `W` gives to texts, and `byte` ends its longest front with which a text begins
-- that has one
pub record StopsAt {Q : Type 0} (W : List ℕ → Q → Type 0) (text : List ℕ) (byte : ℕ)
    : Type 0 where
  pub within : byte ≤ length text
  pub none : (q : Q) → ¬ W text q
  pub goes_on : (more : List ℕ) × (q : Q) × W (take byte text ++ more) q
  pub no_further : byte < length text
      → (more : List ℕ) (q : Q) → ¬ W (take (suc byte) text ++ more) q

-- what the text means, which is its one meaning; or the byte at which it stops; or, where `Lacks` allows it, a want of
-- memory
abbrev pub Answers : {V Q : Type 0} → (V → Q) → (ℕ → List ℕ → Q → Type 0) → Type 0 → List ℕ
    → Result V ReadFault → Type 0
Answers {V} {Q} meaning R Lacks text (Ok value) =
    Writes R text (meaning value) × ((q : Q) → Writes R text q → q ≡ meaning value)
Answers meaning R Lacks text (Err (fault.StopsAt byte)) = StopsAt (Writes R) text byte
Answers meaning R Lacks text (Err fault.OutOfMemory) = Lacks

-- the characters `front` were read: what completes them is what may still come
abbrev pub IsSoFar : {Q : Type 0} → (ℕ → List ℕ → Q → Type 0) → List ℕ → (List ℕ → Q → Type 0)
    → Type 0
IsSoFar {Q} R front R' = (cs : List ℕ) (q : Q) → R 0 (front ++ cs) q ↔ R' cs q

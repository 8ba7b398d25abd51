-- Where a reader stands within or between tokens, and what may still come there.
use Rattle.std.specs.Prelude.{◌≡◌, ◌↔◌, ℕ, ◌+◌, Bool, true, false, List, ◌∷◌, ◌++◌, Option, Some, None}
use Rattle.std.specs.Char.{len_utf8}
use Rattle.text_forms.specs.Forms.{BeginAlike, Finishes}
use Rattle.text_forms.specs.Names as names
use Rattle.query_meaning.specs.Tokens.{size}
use Rattle.query_meaning.specs.declared.token.Token.{Token}
use Rattle.query_meaning.specs.declared.token.Token.TheVariants as token
use Rattle.text_forms.specs.declared.mode.Mode.{Mode}
use Rattle.text_forms.specs.declared.mode.Mode.TheVariants.{Between, InWord, InName, Closing}
use Rattle.query_meaning.specs.Tokens.{Placed, At, AreLetters, in_capitals, Spells}
use Rattle.text_forms.specs.Grammars.{WantsWord, WantsName}

-- in a word that began at the byte `from`, after these letters
pub record WithinWord (from : ℕ) (letters : List ℕ) (at : ℕ) (ts : List Placed) (cs : List ℕ)
    : Type 0 where
  pub more : List ℕ
  pub rest : List ℕ
  pub others : List Placed
  pub word : AreLetters more
  pub parts : cs ≡ more ++ rest
  pub first : ts ≡ At from (token.Word (letters ++ in_capitals more)) ∷ others
  pub goes : Spells true (at + size more) others rest

-- a token that began at the byte `from` ended here
abbrev pub Ended : Bool → ℕ → Token → ℕ → List Placed → List ℕ → Type 0
Ended after from kind at ts cs =
    (others : List Placed) × (ts ≡ At from kind ∷ others) × Spells after at others cs

-- after a name that began at the byte `from`
abbrev pub Named : ℕ → List Placed → ℕ → List ℕ → List ℕ → Type 0
Named from ts at name cs = Ended false from (token.Name name) at ts cs

-- the tokens that the characters spell from here
abbrev pub Continues : Mode → ℕ → List Placed → List ℕ → Type 0
Continues (Between after) at ts cs = Spells after at ts cs
Continues (InWord from letters) at ts cs = WithinWord from letters at ts cs
Continues (InName from name) at ts cs = names.InName name (Named from ts) at cs
Continues (Closing from name) at ts cs = names.Closing name (Named from ts) at cs

-- the characters may still come from here, and the whole then means q
pub record Left {Q : Type 0} (R : List Placed → Q → Type 0) (mode : Mode) (at : ℕ) (cs : List ℕ)
    (q : Q) : Type 0 where
  pub tokens : List Placed
  pub spelled : Continues mode at tokens cs
  pub rest : R tokens q

-- the characters are a text of the grammar, and mean q
abbrev pub Reads : {Q : Type 0} → (List Placed → Q → Type 0) → ℕ → List ℕ → Q → Type 0
Reads R at cs q = Left R (Between false) at cs q

-- the token that has begun may come
abbrev pub MayCome : {Q : Type 0} → (List Placed → Q → Type 0) → Mode → Type 0
MayCome R (Between after) = Unit {0}
MayCome R (InWord from letters) = WantsWord R letters true
MayCome R (InName from name) = WantsName R true
MayCome R (Closing from name) = WantsName R true

-- the place at which the token began that has begun
abbrev pub IsPlaced : (ℕ → Type 0) → Mode → Type 0
IsPlaced places (Between after) = Unit {0}
IsPlaced places (InWord from letters) = places from
IsPlaced places (InName from name) = places from
IsPlaced places (Closing from name) = places from

-- a character was read: what may come with it is what may come from the new state; or nothing may come that begins as
-- it does
abbrev pub Stepped : {S Q : Type 0} → (S → List Placed → Q → Type 0) → (List Placed → Q → Type 0)
    → Mode → ℕ → ℕ → Option (S × Mode) → Type 0
Stepped {S} {Q} rest R mode at c (Some next) =
    (cs : List ℕ) (q : Q) → Left R mode at (c ∷ cs) q
    ↔ Left (rest next.0) next.1 (at + len_utf8 c) cs q
Stepped {S} {Q} rest R mode at c None =
    (d : ℕ) (cs : List ℕ) (q : Q) → BeginAlike c d → ¬ Left R mode at (d ∷ cs) q

-- the text ends here: its meaning and no other, or it has none
abbrev pub FinishesAt : {Q : Type 0} → (List Placed → Q → Type 0) → Mode → Option Q → Type 0
FinishesAt R mode found = (at : ℕ) → Finishes (Left R mode at) found

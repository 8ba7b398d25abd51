-- What a grammar over tokens says of itself. `R ts q` says that the tokens ts may still come, and that the whole then
-- means q.
use Rattle.std.specs.Prelude.{◌≡◌, ◌≢◌, ◌↔◌, ℕ, ◌++◌, Bool, true, false, List, [], ◌∷◌, map, Option, Some, None}
use Rattle.std.specs.Str.{IsAscii}
use Rattle.query_meaning.specs.declared.token.Class.TheVariants as class_is
use Rattle.query_meaning.specs.declared.token.Token.{Token}
use Rattle.query_meaning.specs.declared.token.Token.TheVariants as token
use Rattle.query_meaning.specs.Tokens.{class, Placed, At, AreLetters, in_capitals}

abbrev pub kind_of : Placed → Token
kind_of (At at kind) = kind

-- tokens without their places
abbrev pub kinds : List Placed → List Token
kinds = map kind_of

-- what a closing text can spell, in ASCII
abbrev pub IsKind : Token → Type 0
IsKind (token.Name name) = (name ≢ []) × IsAscii name
IsKind (token.Word letters) = (letters ≢ []) × AreLetters letters × (in_capitals letters ≡ letters)
IsKind (token.Sign c) = class c ≡ class_is.Sign

abbrev pub AreKinds : List Token → Type 0
AreKinds [] = Unit {0}
AreKinds (k ∷ ks) = IsKind k × AreKinds ks

-- some whole ends in these tokens, wherever they stand
abbrev pub Finds : {Q : Type 0} → (List Placed → Q → Type 0) → List Token → Type 0
Finds {Q} R ks = (ts : List Placed) → kinds ts ≡ ks → (q : Q) × R ts q

-- these tokens complete a whole, and a closing text can spell them
abbrev pub Completes : {Q : Type 0} → (List Placed → Q → Type 0) → List Token → Type 0
Completes R ks = AreKinds ks × Finds R ks

-- a whole can still come of it
abbrev pub IsViable : {Q : Type 0} → (List Placed → Q → Type 0) → Type 0
IsViable R = (ks : List Token) × Completes R ks

-- the token is taken: what may come from it on is the token, and then what may come after it; or it is refused: nothing
-- begins with it
abbrev pub Took : {S Q : Type 0} → (S → List Placed → Q → Type 0) → (List Placed → Q → Type 0)
    → Placed → Option S → Type 0
Took {S} {Q} rest R t (Some next) = (ts : List Placed) (q : Q) → R (t ∷ ts) q ↔ rest next ts q
Took {S} {Q} rest R t None = (ts : List Placed) (q : Q) → ¬ R (t ∷ ts) q

-- a word that begins so may come, or none may
abbrev pub WantsWord : {Q : Type 0} → (List Placed → Q → Type 0) → List ℕ → Bool → Type 0
WantsWord R front true =
    (more : List ℕ) × (ks : List Token) × Completes R (token.Word (front ++ more) ∷ ks)
WantsWord {Q} R front false =
    (more : List ℕ) (at : ℕ) (ts : List Placed) (q : Q)
    → ¬ R (At at (token.Word (front ++ more)) ∷ ts) q

-- any name may come, or none may
abbrev pub WantsName : {Q : Type 0} → (List Placed → Q → Type 0) → Bool → Type 0
WantsName R true =
    (name : List ℕ) → name ≢ [] → (ks : List Token) × AreKinds ks × Finds R (token.Name name ∷ ks)
WantsName {Q} R false =
    (name : List ℕ) (at : ℕ) (ts : List Placed) (q : Q) → ¬ R (At at (token.Name name) ∷ ts) q

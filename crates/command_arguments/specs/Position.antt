-- The argument that is a position.
use Rattle.std.specs.Prelude.{◌≡◌, ◌⊎◌, ◌≤◌, ◌<◌, ◌+◌, ◌*◌, ◌-◌, ◌^◌, ℕ, zero, suc, List, [], ◌∷◌}
use Rattle.text_forms.specs.White.{White, End}
use Rattle.command_arguments.specs.declared.position.PositionReader.{PositionReader}
use Rattle.command_arguments.specs.declared.position.PositionReader.TheVariants.{Before, Digits, Behind}

-- an ASCII digit
abbrev pub IsDigit : ℕ → Type 0
IsDigit c = (48 ≤ c) × (c ≤ 57)

-- at most `left` digits, which after the digits of `front` write `number`, and then what `Then` says
abbrev pub MoreDigits : ℕ → ℕ → ℕ → (List ℕ → Type 0) → List ℕ → Type 0
MoreDigits front left number Then [] = (number ≡ front) × Then []
MoreDigits front zero number Then (c ∷ cs) = (number ≡ front) × Then (c ∷ cs)
MoreDigits front (suc left) number Then (c ∷ cs) =
    (IsDigit c × MoreDigits (front * 10 + (c - 48)) left number Then cs)
    ⊎ ((number ≡ front) × Then (c ∷ cs))

-- 1 to 19 digits, which write `number`, and then what `Then` says
abbrev pub Number : ℕ → (List ℕ → Type 0) → List ℕ → Type 0
Number number Then [] = ⊥
Number number Then (c ∷ cs) = IsDigit c × MoreDigits (c - 48) 18 number Then cs

-- position = 1 to 19 digits, with white around them
abbrev pub IsPosition : ℕ → List ℕ → ℕ → Type 0
IsPosition at cs number = White (Number number (White End)) cs

-- what may still come
abbrev pub rest_of : PositionReader → ℕ → List ℕ → ℕ → Type 0
rest_of Before at cs q = IsPosition at cs q
rest_of (Digits number left) at cs q = MoreDigits number left q (White End) cs
rest_of (Behind number) at cs q = (q ≡ number) × White End cs

-- the digits that were read are 19 without those that are left
abbrev pub fits : PositionReader → Type 0
fits Before = Unit {0}
fits (Digits number left) = (left ≤ 18) × (number < 10 ^ (19 - left))
fits (Behind number) = Unit {0}

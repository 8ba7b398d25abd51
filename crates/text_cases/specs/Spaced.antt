-- The text of a formatter that puts a space after each digit.
use Rattle.std.specs.Prelude.{ℕ, ◌++◌, ◌∷◌, [], ◌&&◌, List, encode_utf8, nat_le, if◌then◌else◌}

-- a character, and a space after it where it is an ASCII digit
abbrev pub spaced : ℕ → List ℕ
spaced c = if nat_le 48 c && nat_le c 57 then encode_utf8 c ++ 32 ∷ [] else encode_utf8 c

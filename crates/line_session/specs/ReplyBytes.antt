-- The bytes of a reply.
use Rattle.std.specs.Prelude.{ℕ, ◌++◌, List, codes}
use Rattle.std.specs.Fmt.{decimal}
use Rattle.std.specs.List.{fold}
use Rattle.line_session.specs.declared.reply.Bytes.{Bytes}
use Rattle.line_session.specs.declared.reply.Bytes.TheVariants.{Fixed, Short, Made}

-- the bytes of a reply, wherever they stand
abbrev pub bytes_in : Bytes → List ℕ
bytes_in (Fixed text) = text.now
bytes_in (Short text) = text.bytes
bytes_in (Made text) = text

-- a label and numbers in decimal, with a space before each
abbrev pub numbered : List ℕ → List ℕ → List ℕ
numbered label numbers = fold (λ text number. text ++ codes " " ++ decimal number) label numbers

-- What holds at each turn of `is_word`.
use Rattle.std.proofs.Common.{◌≡◌, ◌<◌, ℕ, get_or}
use Rattle.std.specs.Char.{to_ascii_uppercase}
use Rattle.input_lines.proofs.argument.is_word.Given as goal

abbrev pub invariant-loop-i : goal.invariant-loop-i
invariant-loop-i l = (j : ℕ) → j < l.i → to_ascii_uppercase (get_or l.text j 0) ≡ get_or l.word j 0

-- The words up to here are not odd.
use Rattle.std.proofs.Common.{◌≡◌, drop, map, string_bytes}
use Rattle.std.specs.List.{list_any}
use Rattle.command_words.specs.OddWords.{is_odd}
use Rattle.command_words.proofs.odd_words.has_odd_word.Given as goal

abbrev pub invariant-loop-word : goal.invariant-loop-word
invariant-loop-word l =
    list_any is_odd (map string_bytes (drop l.word-index l.words)) ≡ list_any is_odd (map string_bytes l.words)

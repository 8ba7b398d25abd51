-- Words of which one is odd are no command line.
use Rattle.std.proofs.Common.{◌∙◌, map, inr, refl, sym, string_bytes}
use Rattle.command_words.specs.Shapes.{known_option}
use Rattle.command_words.proofs.WordByWord.{odd-line}
use Rattle.command_words.proofs.options.read_options.Goals as goal

pub returns-then-has_odd_word-clause-err : goal.returns-then-has_odd_word-clause-err
returns-then-has_odd_word-clause-err c =
    inr (refl, odd-line (map known_option c.args.known.now) (map string_bytes c.args.words.now) (sym c.has_odd_word.ensures ∙ c.if-has_odd_word.true))

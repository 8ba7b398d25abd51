-- With one more option the command has those up to it.
use Rattle.std.proofs.Common.{arith}
use Rattle.std.proofs.lemmas.List.{take_more}
use Rattle.command_words.proofs.ClapFacts.{one-more}
use Rattle.command_words.proofs.options.options_command.Goals as goal

pub loop-option-preserved : goal.loop-option-preserved
loop-option-preserved c =
    one-more c.args.name.now c.args.known.now c.loop-option.option-index _ _ _ c.in_ok-command.ensures c.loop-option.invariant
    (take_more c.args.known.now c.loop-option.option-index _ (omega arith))

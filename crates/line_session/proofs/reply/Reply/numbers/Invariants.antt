-- What holds at each turn of `numbers`: the text is the label and the numbers so far, and has room for those that are left.
use Rattle.std.proofs.Common.{◌≡◌, ◌≤◌, ◌+◌, ◌*◌, length, take}
use Rattle.line_session.specs.ReplyBytes.{numbered}
use Rattle.line_session.proofs.reply.Reply.numbers.Given as goal

abbrev pub invariant-loop-number : goal.invariant-loop-number
invariant-loop-number l = record {
  told : l.text.bytes ≡ numbered l.label (take l.number-index l.numbers);
  short : length l.text.bytes ≤ 19 + 21 * l.number-index;
}

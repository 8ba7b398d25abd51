-- What holds at each turn of `find`, and what falls at each of them.
use Rattle.std.proofs.Common.{◌≡◌, ◌≤◌, ◌-◌, ◌+◌, [], length}
use Rattle.input_lines.specs.Reader.{HoldsSame, IsAtEnd, NeedsNothing, line_length}
use Rattle.input_lines.proofs.Hearing.{SoFar}
use Rattle.input_lines.proofs.reader.LineReader.find.Given as goal

abbrev pub invariant-loop-found : goal.invariant-loop-found
invariant-loop-found g l = record {
  looked : l.looked ≤ line_length l.self.held;
  line : l.self.line ≡ [];
  same : HoldsSame (g.K.Link.left l.fn.link) (g.K.Link.left l.link) l.fn.self l.self;
  unasked : NeedsNothing l.fn.self → (l.self ≡ l.fn.self) × (l.link ≡ l.fn.link);
  so_far : SoFar (g.K.Link.talk l.fn.link) (g.K.Link.talk l.link) l.fn.self l.self;
  end : IsAtEnd l.fn.self.ended (g.K.Link.left l.fn.link) → IsAtEnd l.self.ended (g.K.Link.left l.link);
}

abbrev pub decreases-loop-found : goal.decreases-loop-found
decreases-loop-found g l = 65538 - (length l.self.held + length l.self.beyond)

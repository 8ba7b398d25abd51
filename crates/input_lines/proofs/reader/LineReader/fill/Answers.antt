-- That `fill` ensures `received`.
use Rattle.std.proofs.Common.{ap, ◌∙◌, arith}
use Rattle.input_lines.specs.Reader.{Reading}
use Rattle.input_lines.proofs.Taking.{HasReceived-read, HasReceived-view}
use Rattle.input_lines.proofs.reader.LineReader.fill.Goals as goal

pub returns-clause-received : goal.returns-clause-received
returns-clause-received g c =
    HasReceived-view _ _ _ _ _ _ _ _ c.self.view_is
    (HasReceived-read _ _ _ _ _ c.read_behind.new.bytes.items c.make_room.result.0 c.make_room.result.1 c.in_ok-n.n c.min-lines.result c.make_room.ensures.order (omega (arith, c.in_ok-n.ensures.within)) c.in_ok-n.ensures.few c.min-lines.ensures (c.read_behind.ensures.kept ∙ c.make_room.ensures.same) (ap (λ (r : Reading). r.line) c.self.view_is ∙ c.requires.line) c.in_ok-n.ensures.taken c.in_ok-n.ensures.gave)

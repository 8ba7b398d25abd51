-- That `give_line` ensures `held`.
use Rattle.std.proofs.Common.{ap, ◌∙◌, drop, ◌+◌}
use Rattle.input_lines.specs.Reader.{Reading}
use Rattle.input_lines.proofs.Taking.{slice_range-drop}
use Rattle.input_lines.proofs.reader.LineReader.give_line.Goals as goal

pub returns-clause-held : goal.returns-clause-held
returns-clause-held c =
    slice_range-drop c.self.inside.bytes.items c.self.inside.start c.self.inside.end (c.args.size + 1) ∙ ap (λ (r : Reading). drop (c.args.size + 1) r.held) c.self.view_is

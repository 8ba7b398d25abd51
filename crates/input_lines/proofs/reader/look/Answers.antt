-- That `look` ensures what it says.
use Rattle.std.proofs.Common.{arith}
use Rattle.std.specs.Prelude.{not}
use Rattle.std.proofs.lemmas.List.Sums.{prefix_len-le-length}
use Rattle.input_lines.specs.Reader.{is_lf}
use Rattle.input_lines.proofs.reader.look.Goals as goal

pub returns-else-before-held : goal.returns-else-before-held
returns-else-before-held c =
    let within = prefix_len-le-length (λ x. not (is_lf x)) c.args.held.now in
    (omega arith, omega arith)

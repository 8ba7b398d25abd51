-- That `read_form` reads the grid of a text.
use Rattle.std.proofs.Common.{◌≡◌, ◌∙◌, ◌<◌, ◌^◌, length, ap, sym, subst, arith}
use Rattle.std.proofs.lemmas.List.{length-map}
use Rattle.query_meaning.specs.GridForm.{IsOfGrid}
use Rattle.grid_reader.specs.Lines.{AreGridLines, parted}
use Rattle.grid_reader.specs.Reading.{ReadsAs}
use Rattle.grid_reader.proofs.Lists.{bytes_of}
use Rattle.grid_reader.proofs.GridFacts.{form_read, ok_then}
use Rattle.grid_reader.proofs.grid.read_form.Goals as goal

pub returns : goal.returns
returns c =
    let is : bytes_of c.as_slice.result.now ≡ parted 10 c.args.bytes.now = ap bytes_of c.as_slice.ensures.value ∙ c.in_ok-lines.ensures in
    let count : length c.as_slice.result.now ≡ length (parted 10 c.args.bytes.now) = sym (length-map c.as_slice.result.now (λ t. t.now)) ∙ ap length is in
    let small : length (parted 10 c.args.bytes.now) < 2 ^ 64 = omega (arith, count, c.as_slice.type_inv.0) in
    ok_then c.read_lines.result (ReadsAs AreGridLines (bytes_of c.as_slice.result.now)) (ReadsAs IsOfGrid c.args.bytes.now) c.read_lines.ensures
    (λ r own. form_read c.args.bytes.now r small (subst (λ t. ReadsAs AreGridLines t r) is own))

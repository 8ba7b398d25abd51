-- That `before_lf` ensures what it says and stays within its numbers.
use Rattle.std.proofs.Common.{rules, ◌≤◌, length, arith}
use Rattle.std.specs.Prelude.{not}
use Rattle.std.proofs.lemmas.List.Sums.{prefix_len-le-length}
use Rattle.std.proofs.lemmas.Slice.{between_to_end}
use Rattle.input_lines.specs.Reader.{is_lf}
use Rattle.input_lines.proofs.LineLemmas.{line_length-found, line_length-none}
use Rattle.input_lines.proofs.reader.before_lf.Goals as goal

pub slice_bounds-memchr-count : goal.slice_bounds-memchr-count
slice_bounds-memchr-count c = omega (arith, c.requires, prefix_len-le-length (λ x. not (is_lf x)) c.args.held.now)

pub slice_bounds-memchr-start : goal.slice_bounds-memchr-start
slice_bounds-memchr-start c =
    let within : c.args.looked ≤ length c.args.held.now = omega (arith, c.requires, prefix_len-le-length (λ x. not (is_lf x)) c.args.held.now) in
    search rules

pub returns-in-Some : goal.returns-in-Some
returns-in-Some c = line_length-found _ _ c.args.looked c.in-Some.more (between_to_end c.args.held.now c.args.looked (length c.args.held.now) (omega arith)) c.requires c.in-Some.ensures

pub returns-in-None : goal.returns-in-None
returns-in-None c = line_length-none _ _ c.args.looked (between_to_end c.args.held.now c.args.looked (length c.args.held.now) (omega arith)) c.requires c.in-None.ensures

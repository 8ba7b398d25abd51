-- That `read_values` reads the values that texts show.
use Rattle.std.proofs.Common.{get_or}
use Rattle.grid_reader.specs.Lines.{IsShown}
use Rattle.grid_reader.proofs.Lists.{bytes_of, past, at_start, turn, stops, ends, read_none}
use Rattle.grid_reader.proofs.RowFacts.{shown_read}
use Rattle.grid_reader.proofs.rows.read_values.Goals as goal

pub loop-text-init : goal.loop-text-init
loop-text-init c = rw c.new-values.ensures (at_start IsShown (bytes_of c.args.texts.now))

pub returns-then-has_break : goal.returns-then-has_break
returns-then-has_break c =
    stops IsShown c.args.texts.now c.loop-text.text-index c.loop-text.values c.loop-text.invariant c.loop-text-test.true (λ value h. c.if-has_break.ensures h.1.0)

pub returns-in-None : goal.returns-in-None
returns-in-None c =
    stops IsShown c.args.texts.now c.loop-text.text-index c.loop-text.values c.loop-text.invariant c.loop-text-test.true (read_none IsShown (get_or c.args.texts.now c.loop-text.text-index past).now c.in_ok-read_value.field-0 (shown_read (get_or c.args.texts.now c.loop-text.text-index past).now c.in_ok-read_value.field-0 c.if-has_break.ensures c.in_ok-read_value.ensures) c.in-None.is)

pub loop-text-preserved : goal.loop-text-preserved
loop-text-preserved c =
    rw c.in_ok-push-in-Some.ensures.ok (turn IsShown c.args.texts.now c.loop-text.text-index c.loop-text.values c.in_ok-read_value.field-0 c.in-Some.value c.loop-text.invariant c.loop-text-test.true (shown_read (get_or c.args.texts.now c.loop-text.text-index past).now c.in_ok-read_value.field-0 c.if-has_break.ensures c.in_ok-read_value.ensures) c.in-Some.is)

pub returns : goal.returns
returns c = ends IsShown c.args.texts.now c.loop-text.text-index c.loop-text.values c.loop-text.invariant c.loop-text-test.false

use Rattle.std.proofs.Common.{◌≡◌, ◌∙◌, true, false, length, take, sym}
use Rattle.std.specs.Prelude.{Contains}
use Rattle.cache_flush.specs.Loads.{kept_of}
use Rattle.olap_meaning.specs.Rolled.{header_columns, is_any}
use Rattle.rollup_plan.specs.Picks.{is_open, is_whole, lent}
use Rattle.rollup_plan.proofs.ListFacts.{lent_at, lent_member, lent_next}
use Rattle.rollup_plan.proofs.PickFacts.{closed_step, open_step, not_any}
use Rattle.rollup_plan.proofs.parts.add_load.Goals as goal

pub allowed_in-requires-clause-own : goal.allowed_in-requires-clause-own
allowed_in-requires-clause-own c =
    rw c.header-header.ensures.value (lent_at (λ one. Contains (header_columns one.body.header) c.args.split) c.args.kept.now c.args.next c.index-kept-next.result c.requires.having c.requires.inside c.index-kept-next.is)

pub returns-in_ok-add_values : goal.returns-in_ok-add_values
returns-in_ok-add_values c =
    let size = length c.args.marks.now in
    let cell = c.args.cell.now in
    let split = c.args.split in
    let loads = lent c.args.kept.now in
    let one = kept_of c.index-kept-next.result.now in
    let header = c.header-header.ensures.value in
    let opened : is_open cell split one ≡ true = rw header at (sym c.is_open_but.ensures ∙ c.if-is_open_but.true) in
    let partial = lent_at (λ one. is_whole size cell split one ≡ false) c.args.kept.now c.args.next c.index-kept-next.result c.requires.partial c.requires.inside c.index-kept-next.is in
    let some : is_any c.allowed_in.result.now ≡ false = not_any size cell split one c.allowed_in.result.now partial opened (rw header at c.allowed_in.ensures.open_in) in
    rw (lent_next c.args.kept.now c.args.next c.index-kept-next.result c.requires.inside c.index-kept-next.is)
    (open_step size cell split loads (take c.args.next loads) c.args.parts.now c.args.marks.now c.requires.so_far one c.allowed_in.result.now
    (lent_member c.args.kept.now c.args.next c.index-kept-next.result c.requires.inside c.index-kept-next.is) opened some c.allowed_in.ensures.set c.header-header.ensures.well_formed (rw header at c.allowed_in.ensures.allows)
    c.add_values.new.parts c.add_values.new.marks c.in_ok-add_values.ensures.parts c.add_values.auto.marks c.in_ok-add_values.ensures.marks)

pub returns-else-is_open_but : goal.returns-else-is_open_but
returns-else-is_open_but c =
    let loads = lent c.args.kept.now in
    let one = kept_of c.index-kept-next.result.now in
    let closed : is_open c.args.cell.now c.args.split one ≡ false = rw c.header-header.ensures.value at (sym c.is_open_but.ensures ∙ c.if-is_open_but.false) in
    rw (lent_next c.args.kept.now c.args.next c.index-kept-next.result c.requires.inside c.index-kept-next.is)
    (closed_step (length c.args.marks.now) c.args.cell.now c.args.split loads (take c.args.next loads) c.args.parts.now c.args.marks.now c.requires.so_far one closed)

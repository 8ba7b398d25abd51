-- That `check_each` ensures `err`, may call `add` and keeps what holds at each turn.
use Rattle.std.proofs.Common.{◌∙◌, ◌+◌, ◌++◌, ◌∷◌, [], ℕ, ℤ, List, Option, None, length, length-append, map, sym, ap, arith, inr}
use Rattle.std.proofs.lemmas.List.{length-map}
use Rattle.std.proofs.lemmas.Result.{err_from_is_err_and}
use Rattle.olap_meaning.specs.declared.TheConstants.{ROW_LIMIT}
use Rattle.segment_body.specs.BodyOf.{BodyOf}
use Rattle.agg_tables.specs.Files.{records_fault}
use Rattle.fact_reader.specs.BodyRows.{values_in}
use Rattle.agg_tables.proofs.CheckFacts.{first_told, if_err, next_number, no_fault, records_step, row_allowed, values_more}
use Rattle.agg_tables.proofs.RightFacts.{more_seen, none_seen, room_for}
use Rattle.agg_tables.proofs.checker.Checker.check_each.Goals as goal

pub returns-in_err-check_row-clause-err : goal.returns-in_err-check_row-clause-err
returns-in_err-check_row-clause-err c =
    let v = c.args.self.now in
    let p = err_from_is_err_and c.from_residual-in_err-check_row.result c.from_residual-in_err-check_row.ensures.1 in
    let number = next_number c.loop-n.seen c.loop-n.count (c.from-n.result + 1) c.loop-n.invariant.counted (ap (λ (k : ℕ). k + 1) c.from-n.ensures) in
    let step = records_step v.file.catalog v.file.declared v.file.header v.rows (values_in c.loop-n.seen) c.loop-n.rows c.next.new.self c.next.new.row (c.from-n.result + 1) _ c.loop-n.invariant.rest (c.in_ok-next.ensures.taken c.if-branch.true) number in
    rw (p.1, p.2) (first_told _ _ _ _ step c.in_err-check_row.ensures.err)

pub add-requires-clause-allowed : goal.add-requires-clause-allowed
add-requires-clause-allowed c =
    let v = c.args.self.now in
    rw c.as_slice.ensures.value (row_allowed v.file.catalog v.file.declared c.loop-n.seen c.check_row.new.values.items c.loop-n.invariant.columns c.in_ok-check_row.ensures.each)

-- what was seen has room: with one more there are no more than groups
pub add-requires-clause-room : goal.add-requires-clause-room
add-requires-clause-room c =
    let v = c.args.self.now in
    let seen = c.loop-n.seen in
    let room = room_for v.file.catalog v.file.declared v.file.header v.rows (c.from-n.result + 1) ROW_LIMIT (values_in seen) c.next.new.row c.loop-n.invariant.seen c.in_ok-check_row.ensures.sound
    (rw (sym c.groups-groups.ensures.count) c.groups-groups.ensures.limit) in
    let rows = length-map seen.rows (λ (row : List ℕ × Option ℤ). row.0) in
    omega (arith, room, rows)

pub loop-n-init : goal.loop-n-init
loop-n-init c =
    let v = c.args.self.now in
    let none = ap (λ (b : List (List ℕ × Option ℤ)). map (λ (row : List ℕ × Option ℤ). row.0) b) c.requires.none in
    record {
      rest = ap (λ (vs : List (List ℕ)). records_fault v.file.catalog v.file.declared v.file.header v.rows vs c.args.rows.now) none;
      counted = sym (ap length c.requires.none);
      seen = rw c.requires.none (none_seen v.file.catalog v.file.declared v.file.header v.rows);
      within = omega arith;
      columns = c.requires.columns;
    }

pub loop-n-preserved : goal.loop-n-preserved
loop-n-preserved c =
    let v = c.args.self.now in
    let number = next_number c.loop-n.seen c.loop-n.count (c.from-n.result + 1) c.loop-n.invariant.counted (ap (λ (k : ℕ). k + 1) c.from-n.ensures) in
    let step = records_step v.file.catalog v.file.declared v.file.header v.rows (values_in c.loop-n.seen) c.loop-n.rows c.next.new.self c.next.new.row (c.from-n.result + 1) _ c.loop-n.invariant.rest (c.in_ok-next.ensures.taken c.if-branch.true) number in
    let values = c.as_slice.ensures.value ∙ c.in_ok-check_row.ensures.values in
    let more = values_more c.loop-n.seen c.add.new.self c.as_slice.result.now c.in_ok-add.ensures.ok in
    let seen = more ∙ ap (λ (vs : List ℕ). values_in c.loop-n.seen ++ vs ∷ []) values in
    let rows = ap (λ (b : BodyOf). length b.rows) c.in_ok-add.ensures.ok in
    let longer = length-append c.loop-n.seen.rows ((c.as_slice.result.now, None) ∷ []) in
    let room = room_for v.file.catalog v.file.declared v.file.header v.rows (c.from-n.result + 1) ROW_LIMIT (values_in c.loop-n.seen) c.next.new.row c.loop-n.invariant.seen c.in_ok-check_row.ensures.sound
    (rw (sym c.groups-groups.ensures.count) c.groups-groups.ensures.limit) in
    let counted = length-map c.loop-n.seen.rows (λ (row : List ℕ × Option ℤ). row.0) in
    record {
      rest = ap (λ (vs : List (List ℕ)). records_fault v.file.catalog v.file.declared v.file.header v.rows vs c.next.new.self) seen ∙ no_fault _ _ _ step c.in_ok-check_row.ensures.sound;
      counted = omega (arith, rows, longer, c.loop-n.invariant.counted);
      seen = rw seen (more_seen v.file.catalog v.file.declared v.file.header v.rows (c.from-n.result + 1) (values_in c.loop-n.seen) c.next.new.row c.loop-n.invariant.seen c.in_ok-check_row.ensures.sound);
      within = omega (arith, room, counted, c.loop-n.invariant.counted);
      columns = ap (λ (b : BodyOf). b.header.columns) c.in_ok-add.ensures.ok ∙ c.loop-n.invariant.columns;
    }

pub returns-clause-err : goal.returns-clause-err
returns-clause-err c =
    let v = c.args.self.now in
    let end = c.in_ok-next.ensures.end c.if-branch.false in
    let whole = rw end at c.loop-n.invariant.rest in
    let stored = c.from.ensures ∙ c.loop-n.invariant.counted ∙ sym (length-map c.loop-n.seen.rows (λ (row : List ℕ × Option ℤ). row.0)) in
    let err = rw (stored, c.groups-groups.ensures.count) at c.check_missing.ensures.err in
    if_err c.check_missing.result _ _ (λ e is. inr (sym whole ∙ is)) err

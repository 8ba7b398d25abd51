-- That `place_among` ensures what it says and keeps what holds at each turn.
use Rattle.std.proofs.Common.{◌∙◌, sym, arith}
use Rattle.fact_reader.proofs.FactPlaces.{place_here, counted_next, unseen_next, place_none}
use Rattle.fact_reader.proofs.places.place_among.Goals as goal
use Rattle.fact_reader.proofs.places.place_among.Goals.{then-not-seen, else-not-seen}

pub returns-then-eq : goal.returns-then-eq
returns-then-eq c =
    let same = rw (c.as_str.ensures, ← c.index-measures-i.is) at (sym c.eq.ensures ∙ c.if-eq.true) in
    place_here c.args.measures.now c.loop-i.i c.index-measures-i.result c.args.column.now c.loop-i.place c.loop-i-test.true c.index-measures-i.is same c.loop-i.invariant.counted c.loop-i.invariant.unseen

pub loop-i-preserved : goal.loop-i-preserved
loop-i-preserved c =
    let other = rw (c.as_str.ensures, ← c.index-measures-i.is) at (sym c.eq.ensures ∙ c.if-eq.false) in
    let told = rw (c.as_str-in-loop-i.ensures, ← c.index-measures-i-in-loop-i.is) at c.names_column-seen.ensures in
    let unseen = unseen_next c.args.measures.now c.loop-i.i c.index-measures-i.result c.args.column.now c.loop-i-test.true c.index-measures-i.is other c.loop-i.invariant.unseen in
    let counted = counted_next c.args.measures.now c.loop-i.i c.index-measures-i-in-loop-i.result c.loop-i.place c.names_column-seen.result c.loop-i-test.true c.index-measures-i-in-loop-i.is told c.loop-i.invariant.counted in
    elim c.if-not-seen.branch [
      | then-not-seen w ↦ let e = rw w.if-not-seen.true at counted in record { counted = omega (arith, e, w.place-is); unseen = unseen; within = omega arith }
      | else-not-seen w ↦ let e = rw w.if-not-seen.false at counted in record { counted = omega (arith, e, w.place-is); unseen = unseen; within = omega arith }
    ]

pub returns : goal.returns
returns c = place_none c.args.measures.now c.loop-i.i c.args.column.now c.loop-i-test.false c.loop-i.invariant.unseen

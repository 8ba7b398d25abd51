-- That the nodes of one member more are listed, and their count of children fits.
use Rattle.std.proofs.Common.{◌+◌, ap, get_or, arith, ◌∙◌}
use Rattle.std.proofs.lemmas.List.{get_or_default}
use Rattle.olap_meaning.specs.declared.schema.TheConstants.{RECORD_LIMIT}
use Rattle.member_trees.specs.declared.rows.Placed.{Placed}
use Rattle.member_trees.proofs.LoopFacts.{row_fits, row_listed, row_counted}
use Rattle.member_trees.proofs.rows.row.Goals as goal

abbrev blank : Placed
blank = record {
  parent = 0;
  number = 0;
  value = 0;
}

pub overflow_cast-first : goal.overflow_cast-first
overflow_cast-first c =
    let i = c.loop-one.one-index in
    let placed = c.args.placed.now in
    let x = get_or placed i blank in
    let h = row_fits c.args.children.now placed i RECORD_LIMIT x c.index-children-one.result c.loop-one-test.true (get_or_default placed i x blank c.loop-one-test.true) (c.requires.known i blank c.loop-one-test.true) c.index-children-one.is c.requires.few in
    record { fits = omega (arith, h, c.len.ensures) }

pub overflow_add-first : goal.overflow_add-first
overflow_add-first c =
    let i = c.loop-one.one-index in
    let placed = c.args.placed.now in
    let x = get_or placed i blank in
    let h = row_fits c.args.children.now placed i RECORD_LIMIT x c.index-children-one.result c.loop-one-test.true (get_or_default placed i x blank c.loop-one-test.true) (c.requires.known i blank c.loop-one-test.true) c.index-children-one.is c.requires.few in
    record { fits = omega (arith, h, c.len.ensures, c.loop-one.invariant.counted) }

pub loop-one-preserved : goal.loop-one-preserved
loop-one-preserved c =
    let i = c.loop-one.one-index in
    let placed = c.args.placed.now in
    let lists = c.args.children.now in
    let first = c.loop-one.first in
    let x = get_or placed i blank in
    let at = get_or_default placed i x blank c.loop-one-test.true in
    record {
      listed = row_listed lists placed i first x c.loop-one.row.items c.push.new.self.items c.loop-one-test.true at c.loop-one.invariant.listed c.loop-one.invariant.counted c.in_ok-push.ensures.items;
      counted = ap (λ n. first + n) c.len.ensures ∙ row_counted lists placed i first x c.index-children-one.result c.loop-one-test.true at (c.requires.known i blank c.loop-one-test.true) c.index-children-one.is c.loop-one.invariant.counted;
    }

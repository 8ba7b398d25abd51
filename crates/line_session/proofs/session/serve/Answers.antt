-- A turn more goes on with the session, or ends it.
use Rattle.std.proofs.Common.{◌∙◌, arith}
use Rattle.line_session.proofs.Conversing.{turn_fewer}
use Rattle.line_session.proofs.Rows.{on_and_on}
use Rattle.line_session.proofs.Serving.{from_begin, turn_ends_both, turn_goes_on_both}
use Rattle.line_session.proofs.session.serve.Goals as goal

pub returns-in-Some-clause-served : goal.returns-in-Some-clause-served
returns-in-Some-clause-served g c = λ other.
    from_begin _ c.args.most c.in-Some.end _ _ _ _ _ _ _ _ _ _ c.in-Ok.reader c.in-Ok.ensures
    (c.loop-end.invariant.served c.in-Some.end (g.P.Desk.seen c.take_turn-turn.new.desk) (g.D.Depot.answers c.take_turn-turn.new.depot) (g.K.Link.talk c.take_turn-turn.new.link) c.take_turn-turn.new.steps other
    (turn_ends_both _ c.loop-end.reader c.take_turn-turn.new.reader _ _ _ _ _ _ _ _ _ c.in-Some.end _ _ c.loop-end.invariant.at_end (rw c.loop-end.invariant.files at c.in-Some.ensures.turn)))

pub returns-in-Some-clause-at_least : goal.returns-in-Some-clause-at_least
returns-in-Some-clause-at_least g c = let read = c.in-Some.ensures.turn.3 in omega (arith, read, c.loop-end.invariant.at_least)

pub loop-end-smaller : goal.loop-end-smaller
loop-end-smaller g c = turn_fewer _ c.loop-end.reader c.take_turn-turn.new.reader _ _ _ _ _ _ _ _ _ _ _ c.in_default-turn.ensures.turn

pub loop-end-preserved : goal.loop-end-preserved
loop-end-preserved g c =
    let read = c.in_default-turn.ensures.turn.3 in
    record {
      served = λ end after answers talk steps other rest. c.loop-end.invariant.served end after answers talk steps other
          (turn_goes_on_both _ c.loop-end.reader c.take_turn-turn.new.reader _ (g.P.Desk.seen c.take_turn-turn.new.desk) after _ _ talk _ (g.D.Depot.answers c.take_turn-turn.new.depot) answers _ _ _ end _ _ steps other c.loop-end.invariant.at_end (rw c.loop-end.invariant.files at c.in_default-turn.ensures.turn) rest);
      grown = on_and_on _ _ _ c.loop-end.invariant.grown c.take_turn-turn.ensures.grown;
      legal = c.seen_is_legal-in-loop-end.ensures.legal;
      at_end = c.take_turn-turn.ensures.end c.loop-end.invariant.at_end;
      files = c.take_turn-turn.ensures.files ∙ c.loop-end.invariant.files;
      at_least = omega (arith, read, c.loop-end.invariant.at_least);
    }

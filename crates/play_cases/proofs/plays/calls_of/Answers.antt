-- A call that may be made, after others that may.
use Rattle.std.proofs.Common.{All, List, [], ◌∷◌, subst, sym}
use Rattle.std.proofs.lemmas.List.Elements.{All-append, All-cons, All-nil}
use Rattle.manager_calls.specs.Runs.{MayCall}
use Rattle.manager_calls.specs.declared.calls.Call.{Call}
use Rattle.play_cases.proofs.plays.calls_of.Goals as goal

pub loop-line-preserved : goal.loop-line-preserved
loop-line-preserved g c =
    let one = All-cons (MayCall c.args.catalog.now) c.in_ok-call.call [] c.in_ok-call.ensures (All-nil (MayCall c.args.catalog.now)) in
    subst (λ (calls : List Call). All (MayCall c.args.catalog.now) calls) (sym c.in-Ok.ensures.ok) (All-append (MayCall c.args.catalog.now) c.loop-line.calls (c.in_ok-call.call ∷ []) c.loop-line.invariant one)

-- That `evicted_after` keeps what holds at each turn.
use Rattle.std.proofs.Common.{◌∙◌, ◌≤◌, ◌<◌, ◌+◌, ◌++◌, List, Option, ℕ, ap, arith, length, sym}
use Rattle.std.specs.Prelude.{option_to_list}
use Rattle.std.specs.Option.{option_and_then}
use Rattle.olap_meaning.specs.History.{Entry, entry_at}
use Rattle.manager_calls.specs.Runs.{evicted_load}
use Rattle.manager_calls.proofs.Looking.{evicted_next}
use Rattle.manager_calls.proofs.looks.evicted_after.Goals as goal

pub loop-place-preserved : goal.loop-place-preserved
loop-place-preserved c =
    let from : c.args.position ≤ c.loop-place.place = omega (arith, c.loop-place.auto.place) in
    let within : c.loop-place.place < length c.args.history.now.entries = omega (arith, c.loop-place-test.true, c.len-place-end.ensures) in
    c.and_evicted-evicted.ensures
    ∙ ap (λ (o : Option Entry). c.loop-place.evicted.items ++ option_to_list (option_and_then evicted_load o)) c.entry.ensures
    ∙ ap (λ (xs : List ℕ). xs ++ option_to_list (option_and_then evicted_load (entry_at c.args.history.now.entries (c.loop-place.place + 1)))) c.loop-place.invariant
    ∙ sym (evicted_next c.args.history.now.entries c.args.position c.loop-place.place from within)

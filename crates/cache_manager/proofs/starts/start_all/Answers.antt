-- Each load may be started: its Start is legal, and its number is new.
use Rattle.std.proofs.Common.{◌∙◌, length}
use Rattle.std.proofs.lemmas.Iterator.Adapters.{YieldsList-from_vec}
use Rattle.std.proofs.lemmas.Iterator.Consumers.{YieldsList-so_far, YieldsList-turn}
use Rattle.history_core.specs.Entries.{entry_of}
use Rattle.load_sharing.specs.Flights.{numbers_of}
use Rattle.cache_manager.proofs.Starting.{next_legal, next_new, numbers_started}
use Rattle.cache_manager.proofs.starts.start_all.Goals as goal

pub push-requires-clause-legal : goal.push-requires-clause-legal
push-requires-clause-legal c =
    let given = c.into_iter-planned-iterator.ensures.into_iter_gives in
    let yields = YieldsList-from_vec {s = c.into_iter-planned-iterator.result} c.args.plans.items given.0 (given.1 ∙ c.args.plans.ok.0) in
    let turn = YieldsList-turn yields c.loop-planned.yielded c.loop-planned.planned-iterator c.loop-planned.yielded_by c.next.result c.next.new.self c.in-Some.planned c.in-Some.is c.next.ensures.steps in
    rw (c.loop-planned.invariant.setting, c.loop-planned.invariant.entries)
    (next_legal c.args.history.now.setting c.args.history.now.entries (λ planned. entry_of planned.start) c.args.plans.items c.loop-planned.yielded c.in-Some.planned c.requires.legal (YieldsList-so_far yields c.loop-planned.yielded c.loop-planned.planned-iterator c.loop-planned.yielded_by) turn.0 turn.1)

pub start-requires-clause-another : goal.start-requires-clause-another
start-requires-clause-another c =
    let given = c.into_iter-planned-iterator.ensures.into_iter_gives in
    let yields = YieldsList-from_vec {s = c.into_iter-planned-iterator.result} c.args.plans.items given.0 (given.1 ∙ c.args.plans.ok.0) in
    let turn = YieldsList-turn yields c.loop-planned.yielded c.loop-planned.planned-iterator c.loop-planned.yielded_by c.next.result c.next.new.self c.in-Some.planned c.in-Some.is c.next.ensures.steps in
    rw (c.loop-planned.invariant.flights, numbers_started c.args.place c.args.flights.now.flights c.loop-planned.yielded)
    (next_new (numbers_of c.args.flights.now.flights) (λ planned. planned.flight.load) c.args.plans.items c.loop-planned.yielded c.in-Some.planned c.requires.flights_new (YieldsList-so_far yields c.loop-planned.yielded c.loop-planned.planned-iterator c.loop-planned.yielded_by) turn.0 turn.1)

pub start-requires-clause-header : goal.start-requires-clause-header
start-requires-clause-header c =
    let given = c.into_iter-planned-iterator.ensures.into_iter_gives in
    let yields = YieldsList-from_vec {s = c.into_iter-planned-iterator.result} c.args.plans.items given.0 (given.1 ∙ c.args.plans.ok.0) in
    let turn = YieldsList-turn yields c.loop-planned.yielded c.loop-planned.planned-iterator c.loop-planned.yielded_by c.next.result c.next.new.self c.in-Some.planned c.in-Some.is c.next.ensures.steps in
    rw turn.1 (c.requires.formed (length c.loop-planned.yielded) c.in-Some.planned turn.0)

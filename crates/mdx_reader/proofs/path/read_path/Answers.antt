-- That `read_path` ensures what it says and keeps what holds at each turn.
use Rattle.std.proofs.Common.{drop, subst}
use Rattle.std.proofs.lemmas.Option.{MatchOption-at_some, MatchOption-at_none}
use Rattle.mdx_reader.specs.PathSteps.{ReadsName, IsNextAt, BeginsNoNext}
use Rattle.mdx_reader.proofs.PathReading.{path_one, path_more, path_ends, path_stops}
use Rattle.mdx_reader.proofs.path.read_path.Goals as goal

pub returns-in-Stops : goal.returns-in-Stops
returns-in-Stops c = path_stops c.args.text.now c.args.from c.in-Stops.byte (subst (ReadsName c.args.text.now c.args.from) c.in-Stops.is c.in_ok-name.ensures)

pub loop-path-init : goal.loop-path-init
loop-path-init c = path_one c.args.text.now c.args.from c.in-Name.place c.in-Name.name c.push.new.self (subst (ReadsName c.args.text.now c.args.from) c.in-Name.is c.in_ok-name.ensures) (cc (c.new-path.ensures, c.in_ok-push.ensures.ok))

pub loop-path-preserved : goal.loop-path-preserved
loop-path-preserved c =
    let text = c.args.text.now in
    let l = c.loop-path in
    let next = MatchOption-at_some (BeginsNoNext (drop l.place text)) (λ next. IsNextAt text l.place next.0 next.1) (c.in-Some.name, c.in-Some.end) c.in-Some.is c.in_ok-name-2.ensures in
    path_more text c.args.from l.place c.in-Some.end c.in-Some.name l.path c.push-in-Some.new.self l.invariant next c.in_ok-push-2.ensures.ok

pub returns : goal.returns
returns c =
    let text = c.args.text.now in
    let l = c.loop-path in
    path_ends text c.args.from l.place l.path l.invariant (MatchOption-at_none (BeginsNoNext (drop l.place text)) (λ next. IsNextAt text l.place next.0 next.1) c.in_default.is c.in_ok-name-2.ensures)

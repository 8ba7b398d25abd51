-- The records tell how many regions after a place touch a header; a u64 can count them.
use Rattle.std.proofs.Common.{◌∙◌, sym, arith, drop}
use Rattle.std.proofs.lemmas.List.{length-drop}
use Rattle.std.proofs.lemmas.List.Sums.{count_by-le-length}
use Rattle.olap_meaning.specs.Covering.{region_touches}
use Rattle.cache_flush.proofs.shut.Shut.count.Goals as goal

pub count-requires : goal.count-requires
count-requires c =
    let (many, are, within, ready) = c.self.invariant in
    let told = are (λ region. region_touches region c.args.header.now) c.args.place in
    let few = count_by-le-length (λ region. region_touches region c.args.header.now) (drop c.args.place c.self.inside.flushed.items) in
    let long = length-drop c.args.place c.self.inside.flushed.items in
    omega (arith, many, told, few, long)

pub returns : goal.returns
returns c =
    rw (← c.self.view_is) (c.count.ensures ∙ sym (c.self.invariant.1 (λ region. region_touches region c.args.header.now) c.args.place))

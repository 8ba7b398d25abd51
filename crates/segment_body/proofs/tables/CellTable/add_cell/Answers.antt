-- That `add_cell` ensures what it says.
use Rattle.std.proofs.Common.{◌∙◌, ap, length, sym, map}
use Rattle.segment_body.proofs.TableFacts.{different_more, keyed_more, refilled, refilled_long, values_counted}
use Rattle.segment_body.proofs.tables.CellTable.add_cell.Goals as goal

pub invariant_of-self-in_err-push : goal.invariant_of-self-in_err-push
invariant_of-self-in_err-push c =
    let key = c.deref.ensures.value ∙ refilled c.self.inside.key c.read_values.new.key (ap length c.read_values.ensures ∙ values_counted c.args.at.now ∙ ap length (rw (← c.self.view_is) at c.requires.own) ∙ sym c.self.invariant.value_each) ∙ c.read_values.ensures in
    let merged = rw (key, c.requires.empty) at c.in_ok-place.ensures.ok in
    record {
      different = different_more c.self.inside.groups c.add_tally.new.self c.in_ok-place.place (map (λ pair. pair.1) c.args.at.now) c.args.aggregator c.self.invariant.different merged;
      place_each = c.self.invariant.place_each;
      value_each = refilled_long c.self.inside.key c.read_values.new.key ∙ c.self.invariant.value_each;
    }

pub invariant_of-self-2 : goal.invariant_of-self-2
invariant_of-self-2 c =
    let key = c.deref.ensures.value ∙ refilled c.self.inside.key c.read_values.new.key (ap length c.read_values.ensures ∙ values_counted c.args.at.now ∙ ap length (rw (← c.self.view_is) at c.requires.own) ∙ sym c.self.invariant.value_each) ∙ c.read_values.ensures in
    let merged = rw (key, c.requires.empty) at c.in_ok-place.ensures.ok in
    record {
      different = different_more c.self.inside.groups c.add_tally.new.self c.in_ok-place.place (map (λ pair. pair.1) c.args.at.now) c.args.aggregator c.self.invariant.different merged;
      place_each = c.self.invariant.place_each;
      value_each = refilled_long c.self.inside.key c.read_values.new.key ∙ c.self.invariant.value_each;
    }

pub returns-clause-cell : goal.returns-clause-cell
returns-clause-cell c cells cell at keyed =
    let own = rw (← c.self.view_is) at c.requires.own in
    let key = c.deref.ensures.value ∙ refilled c.self.inside.key c.read_values.new.key (ap length c.read_values.ensures ∙ values_counted c.args.at.now ∙ ap length own ∙ sym c.self.invariant.value_each) ∙ c.read_values.ensures in
    let merged = rw (key, c.requires.empty, ← at) at c.in_ok-place.ensures.ok in
    rw c.in_ok-push.ensures.items
    (keyed_more c.args.aggregator c.self.inside.columns cells cell c.self.inside.groups c.add_tally.new.self c.self.inside.at.items c.in_ok-place.place (rw (← c.self.view_is) at keyed) (rw (← at) at own) merged)

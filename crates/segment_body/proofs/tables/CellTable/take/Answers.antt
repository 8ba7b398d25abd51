-- That `take` ensures what it says.
use Rattle.std.proofs.Common.{◌∙◌, ◌<◌, ap, arith, length, refl, sym}
use Rattle.std.specs.Prelude.{option_copied}
use Rattle.segment_body.specs.Tables.{are_taken, passes}
use Rattle.segment_body.proofs.TableFacts.{grown_different, places_counted, refilled, refilled_long}
use Rattle.segment_body.proofs.tables.CellTable.take.Goals as goal

pub take_groups-requires-clause-inside : goal.take_groups-requires-clause-inside
take_groups-requires-clause-inside c =
    let found = rw c.as_slice.ensures at c.find_places.ensures in
    let places = c.deref.ensures.value ∙ refilled c.self.inside.places c.find_places.new.places (ap length found ∙ places_counted c.args.columns.now c.self.inside.columns ∙ sym c.self.invariant.place_each) ∙ found in
    let some : 0 < length c.self.inside.groups = omega (arith, c.len.ensures, c.if-len-eq0.false) in
    rw (places) ((rw (← c.self.view_is) at c.requires.inside) some)

pub take_groups-requires-clause-room : goal.take_groups-requires-clause-room
take_groups-requires-clause-room c =
    let found = rw c.as_slice.ensures at c.find_places.ensures in
    let places = c.deref.ensures.value ∙ refilled c.self.inside.places c.find_places.new.places (ap length found ∙ places_counted c.args.columns.now c.self.inside.columns ∙ sym c.self.invariant.place_each) ∙ found in
    rw (places) (rw (← c.self.view_is) at c.requires.room)

pub invariant_of-self : goal.invariant_of-self
invariant_of-self c = record {
  different = rw c.take_groups.ensures (grown_different (are_taken c.deref.result.now (passes c.args.columns.now c.args.column (option_copied c.args.own))) c.args.groups.now c.self.inside.groups c.self.invariant.different);
  place_each = refilled_long c.self.inside.places c.find_places.new.places ∙ c.self.invariant.place_each;
  value_each = refilled_long c.self.inside.key c.take_groups.new.key ∙ c.self.invariant.value_each;
}

pub returns : goal.returns
returns c =
    let found = rw c.as_slice.ensures at c.find_places.ensures in
    let places = c.deref.ensures.value ∙ refilled c.self.inside.places c.find_places.new.places (ap length found ∙ places_counted c.args.columns.now c.self.inside.columns ∙ sym c.self.invariant.place_each) ∙ found in
    rw (← c.self.view_is, c.take_groups.ensures, places) refl

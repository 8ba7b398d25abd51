-- Key by key, the leaf that is found is the one that the record's field means, or the fault is the definition's.
use Rattle.std.proofs.Common.{◌≡◌, ◌∙◌, ◌++◌, ap, sym, arith, length, map, Some, None, append_assoc, ◌<◌}
use Rattle.std.proofs.lemmas.List.{append-nil}
use Rattle.olap_catalog.proofs.WalkFacts.{drop_past}
use Rattle.olap_meaning.specs.Catalog.{find_leaf}
use Rattle.olap_meaning.specs.Records.{column_place, field_in}
use Rattle.fact_rows.specs.declared.fault.BatchFault.TheVariants.{UnknownKey}
use Rattle.fact_rows.specs.BatchFiles.{HasDimensions, key_fault, leaves_in}
use Rattle.fact_rows.specs.Bound.{AreKeysPlaced, key_pair}
use Rattle.csv_records.proofs.PlaceFacts.{csv_parts, field_there, place_within, same_at}
use Rattle.fact_rows.proofs.RowFacts.{each_leaf, keys_from, row_fits, told_or_not}
use Rattle.fact_rows.proofs.bound.BoundCube.read_leaves.Goals as goal

pub text-requires-clause-within : goal.text-requires-clause-within
text-requires-clause-within c =
    let header = c.args.self.now.header in
    let key = c.key-item.result in
    let placed : AreKeysPlaced header c.as_slice-key-items.result.now = rw (c.as_slice-key-items.ensures.value, ← ap (λ b. b.header) c.self.view_is) c.self.invariant.keys_placed in
    let found = same_at (λ k. column_place k.name header) (λ k. Some k.place) c.as_slice-key-items.result.now placed c.loop-key.key-index key c.loop-key-test.true c.key-item.is in
    let within = place_within key.name header key.place found in
    let width = (csv_parts header c.args.row.now c.requires).0 in
    omega arith

pub returns-in_default-clause-err : goal.returns-in_default-clause-err
returns-in_default-clause-err c =
    let header = c.args.self.now.header in
    let catalog = c.args.self.now.catalog in
    let key = c.key-item.result in
    let placed : AreKeysPlaced header c.as_slice-key-items.result.now = rw (c.as_slice-key-items.ensures.value, ← ap (λ b. b.header) c.self.view_is) c.self.invariant.keys_placed in
    let found = same_at (λ k. column_place k.name header) (λ k. Some k.place) c.as_slice-key-items.result.now placed c.loop-key.key-index key c.loop-key-test.true c.key-item.is in
    let field = field_there header c.args.row.now key.name c.text.result.now key.place found c.text.ensures in
    let means : find_leaf catalog key.dimension (field_in header key.name c.args.row.now) ≡ None =
    rw field (ap (λ b. find_leaf b.catalog key.dimension c.text.result.now) (sym c.self.view_is) ∙ sym c.find_leaf.ensures.found ∙ c.in_default.is) in
    let step = keys_from catalog header c.args.n c.args.row.now c.as_slice-key-items.result.now c.loop-key.key-index key None c.loop-key-test.true c.key-item.is means in
    told_or_not c.unknown_key.result (UnknownKey c.args.n key.name) _ (sym c.loop-key.invariant.rest_faults ∙ step.0) c.unknown_key.ensures

pub loop-key-preserved : goal.loop-key-preserved
loop-key-preserved c =
    let header = c.args.self.now.header in
    let catalog = c.args.self.now.catalog in
    let key = c.key-item.result in
    let placed : AreKeysPlaced header c.as_slice-key-items.result.now = rw (c.as_slice-key-items.ensures.value, ← ap (λ b. b.header) c.self.view_is) c.self.invariant.keys_placed in
    let found = same_at (λ k. column_place k.name header) (λ k. Some k.place) c.as_slice-key-items.result.now placed c.loop-key.key-index key c.loop-key-test.true c.key-item.is in
    let field = field_there header c.args.row.now key.name c.text.result.now key.place found c.text.ensures in
    let means : find_leaf catalog key.dimension (field_in header key.name c.args.row.now) ≡ Some c.in-Some.leaf =
    rw field (ap (λ b. find_leaf b.catalog key.dimension c.text.result.now) (sym c.self.view_is) ∙ sym c.find_leaf.ensures.found ∙ c.in-Some.is) in
    let step = keys_from catalog header c.args.n c.args.row.now c.as_slice-key-items.result.now c.loop-key.key-index key (Some c.in-Some.leaf) c.loop-key-test.true c.key-item.is means in
    record {
      rest_faults = sym step.0 ∙ c.loop-key.invariant.rest_faults;
      rest_leaves = rw (c.in_ok-push.ensures.items, append_assoc) (ap (λ rest. c.loop-key.leaves.items ++ rest) (sym step.1) ∙ c.loop-key.invariant.rest_leaves);
    }

pub returns-clause-each : goal.returns-clause-each
returns-clause-each c =
    let v = c.args.self.now in
    let paired : HasDimensions v.catalog v.cube = rw (← c.self.view_is) c.self.invariant.paired in
    let sound = sym c.loop-key.invariant.rest_faults ∙ ap (λ rest. key_fault v.catalog v.header c.args.n c.args.row.now (map key_pair rest)) (drop_past c.as_slice-key-items.result.now c.loop-key.key-index c.loop-key-test.false) in
    let read = sym c.loop-key.invariant.rest_leaves ∙ ap (λ rest. c.loop-key.leaves.items ++ leaves_in v.catalog v.header c.args.row.now (map key_pair rest)) (drop_past c.as_slice-key-items.result.now c.loop-key.key-index c.loop-key-test.false) ∙ append-nil c.loop-key.leaves.items in
    ap length (sym read) ∙ each_leaf v.catalog v.cube v.header c.args.n c.args.row.now paired sound

pub returns-clause-fit : goal.returns-clause-fit
returns-clause-fit c =
    let v = c.args.self.now in
    let paired : HasDimensions v.catalog v.cube = rw (← c.self.view_is) c.self.invariant.paired in
    let known : v.cube < length v.catalog.cubes = rw (← c.self.view_is) c.self.invariant.known in
    let sound = sym c.loop-key.invariant.rest_faults ∙ ap (λ rest. key_fault v.catalog v.header c.args.n c.args.row.now (map key_pair rest)) (drop_past c.as_slice-key-items.result.now c.loop-key.key-index c.loop-key-test.false) in
    row_fits v.catalog v.cube v.header c.args.n c.args.row.now known paired sound

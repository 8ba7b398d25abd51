-- That `leaf_value` ensures what it says and may call `value_at`.
use Rattle.std.proofs.Common.{◌∙◌, [], nat_lt, ap, length, option_and_then, slice_get, arith}
use Rattle.std.proofs.lemmas.Bool.{and_parts, ltb-true}
use Rattle.olap_catalog.specs.Columns.{column_leaves}
use Rattle.olap_catalog.specs.Tables.{over}
use Rattle.catalog_tables.specs.Tables.{number_of}
use Rattle.olap_catalog.proofs.ValueFacts.{column_known, leaf_is, leaves_are}
use Rattle.olap_catalog.proofs.leaves.leaf_value.Goals as goal

pub field_of-requires-clause-known : goal.field_of-requires-clause-known
field_of-requires-clause-known c =
    ltb-true c.args.column (length c.args.columns.now) (and_parts (nat_lt c.args.column (length c.args.columns.now)) (nat_lt c.args.leaf (column_leaves (over c.args.schema.now c.args.tables.now c.args.columns.now) c.args.column)) c.requires.there).0

pub value_at-requires : goal.value_at-requires
value_at-requires c =
    let leaves = column_leaves (over c.args.schema.now c.args.tables.now c.args.columns.now) c.args.column in
    let there = and_parts (nat_lt c.args.column (length c.args.columns.now)) (nat_lt c.args.leaf leaves) c.requires.there in
    let known = column_known c.args.tables.now c.args.columns.now c.args.column c.requires.tables.even c.requires.tables.columned (ltb-true c.args.column (length c.args.columns.now) there.0) in
    let count = leaves_are c.args.schema.now c.args.tables.now c.args.columns.now [] [] c.args.column known c.requires.tables.paired in
    let shown = ap length c.field_of.ensures in
    let within = ltb-true c.args.leaf leaves there.1 in
    omega (arith, within, count, shown)

pub returns : goal.returns
returns c =
    let leaves = column_leaves (over c.args.schema.now c.args.tables.now c.args.columns.now) c.args.column in
    let there = and_parts (nat_lt c.args.column (length c.args.columns.now)) (nat_lt c.args.leaf leaves) c.requires.there in
    let known = column_known c.args.tables.now c.args.columns.now c.args.column c.requires.tables.even c.requires.tables.columned (ltb-true c.args.column (length c.args.columns.now) there.0) in
    c.value_at.ensures ∙ ap (λ ts. option_and_then (number_of ts) (slice_get ts c.args.leaf)) c.field_of.ensures
    ∙ leaf_is c.args.schema.now c.args.tables.now c.args.columns.now [] [] c.args.column c.args.leaf known c.requires.tables.paired

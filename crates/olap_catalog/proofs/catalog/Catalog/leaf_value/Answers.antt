-- That `leaf_value` ensures what it says and may call `value_at`.
use Rattle.std.proofs.Common.{◌∙◌, ◌<◌, ap, sym, length, option_and_then, slice_get, arith}
use Rattle.olap_meaning.specs.declared.tables.Catalog.{Catalog}
use Rattle.olap_meaning.specs.Catalog.{leaf_value}
use Rattle.olap_catalog.specs.Columns.{column_texts, column_leaves}
use Rattle.catalog_tables.specs.Tables.{number_of}
use Rattle.olap_catalog.proofs.ValueFacts.{column_known, leaf_is, leaves_are}
use Rattle.olap_catalog.proofs.catalog.Catalog.leaf_value.Goals as goal

pub value_at-requires : goal.value_at-requires
value_at-requires c =
    let within : c.args.column < length c.self.inside.columns = rw (ap (λ (k : Catalog). k.columns) c.self.view_is) c.requires.known in
    let known = column_known c.self.inside.tables c.self.inside.columns c.args.column c.self.invariant.even c.self.invariant.columned within in
    let count = leaves_are c.self.inside.schema c.self.inside.tables c.self.inside.columns c.self.inside.hierarchies c.self.inside.cubes c.args.column known c.self.invariant.paired in
    let leaves = ap (λ k. column_leaves k c.args.column) c.self.view_is in
    let texts = ap (λ k. length (column_texts k c.args.column)) c.self.view_is in
    let shown = ap length c.field_of.ensures in
    omega (arith, c.requires.there, count, leaves, texts, shown)

pub returns : goal.returns
returns c =
    let within : c.args.column < length c.self.inside.columns = rw (ap (λ (k : Catalog). k.columns) c.self.view_is) c.requires.known in
    let known = column_known c.self.inside.tables c.self.inside.columns c.args.column c.self.invariant.even c.self.invariant.columned within in
    c.value_at.ensures ∙ ap (λ ts. option_and_then (number_of ts) (slice_get ts c.args.leaf)) c.field_of.ensures
    ∙ sym (ap (λ k. option_and_then (number_of (column_texts k c.args.column)) (slice_get (column_texts k c.args.column) c.args.leaf)) c.self.view_is)
    ∙ leaf_is c.self.inside.schema c.self.inside.tables c.self.inside.columns c.self.inside.hierarchies c.self.inside.cubes c.args.column c.args.leaf known c.self.invariant.paired
    ∙ ap (λ k. leaf_value k c.args.column c.args.leaf) c.self.view_is

-- That `leaf_count` ensures what it says.
use Rattle.std.proofs.Common.{◌∙◌, [], ap, sym, length}
use Rattle.std.specs.Option.{option_copied}
use Rattle.olap_catalog.proofs.ValueFacts.{records_here, records_none}
use Rattle.olap_catalog.proofs.leaves.leaf_count.Goals as goal

pub returns-in-None-clause-count : goal.returns-in-None-clause-count
returns-in-None-clause-count c =
    ap length (sym (records_none c.args._schema.now c.args.tables.now c.args._columns.now [] [] c.args.dimension (sym c.get.ensures ∙ ap option_copied c.in-None.is)))

pub returns-in-Some-clause-count : goal.returns-in-Some-clause-count
returns-in-Some-clause-count c =
    c.len.ensures.count
    ∙ ap length (sym (records_here c.args._schema.now c.args.tables.now c.args._columns.now [] [] c.args.dimension c.in-Some.table.now c.requires.paired (sym c.get.ensures ∙ ap option_copied c.in-Some.is)))

-- That `read_table` ensures `ok`, `levels` and `err` and may call `read_dimension`.
use Rattle.std.proofs.Common.{arith}
use Rattle.olap_meaning.specs.Schema.{levels_of}
use Rattle.dim_tables.proofs.TableFacts.{part_length, item_at}
use Rattle.dim_tables.proofs.reader.read_table.Goals as goal

pub read_dimension-requires : goal.read_dimension-requires
read_dimension-requires c =
    let d = c.index-as_slice-dimension.result in
    let at = item_at c.args.schema.now.dimensions c.args.dimension d c.requires.known (rw c.as_slice.ensures at c.index-as_slice-dimension.is) in
    let part = part_length levels_of c.args.schema.now.dimensions c.args.dimension d at in
    let few = c.requires.limits.levels in
    omega arith

pub returns-clause-ok : goal.returns-clause-ok
returns-clause-ok c =
    let d = c.index-as_slice-dimension.result in
    let at = item_at c.args.schema.now.dimensions c.args.dimension d c.requires.known (rw c.as_slice.ensures at c.index-as_slice-dimension.is) in
    rw at c.read_dimension.ensures.ok

pub returns-clause-levels : goal.returns-clause-levels
returns-clause-levels c =
    let d = c.index-as_slice-dimension.result in
    let at = item_at c.args.schema.now.dimensions c.args.dimension d c.requires.known (rw c.as_slice.ensures at c.index-as_slice-dimension.is) in
    rw at c.read_dimension.ensures.levels

pub returns-clause-err : goal.returns-clause-err
returns-clause-err c =
    let d = c.index-as_slice-dimension.result in
    let at = item_at c.args.schema.now.dimensions c.args.dimension d c.requires.known (rw c.as_slice.ensures at c.index-as_slice-dimension.is) in
    rw at c.read_dimension.ensures.err

-- That `child_name` ensures what it says, may call `value_name` and stays within its numbers.
use Rattle.std.proofs.Common.{ap, length, arith}
use Rattle.olap_catalog.proofs.MemberFacts.{child_level, child_column, child_within, child_named, column_there}
use Rattle.olap_catalog.proofs.catalog.Catalog.child_name.Goals as goal

pub bounds-levels-path : goal.bounds-levels-path
bounds-levels-path c =
    let within = child_level c.args.self.now c.args.h c.hierarchy.result.now c.args.path.now c.args.value c.requires c.hierarchy.ensures in
    let long = ap length c.as_slice-levels.ensures in
    omega (arith, within, long)

pub value_name-requires-clause-known : goal.value_name-requires-clause-known
value_name-requires-clause-known c =
    let level = child_column c.args.self.now c.args.h c.hierarchy.result.now c.args.path.now c.args.value c.index-levels-path.result c.as_slice-levels.result.now c.requires c.hierarchy.ensures c.as_slice-levels.ensures c.index-levels-path.is in
    column_there c.args.self.now c.index-levels-path.result c.args.value
    (child_within c.args.self.now c.args.h c.hierarchy.result.now c.args.path.now c.args.value c.index-levels-path.result c.requires c.hierarchy.ensures level)

pub value_name-requires-clause-there : goal.value_name-requires-clause-there
value_name-requires-clause-there c =
    let level = child_column c.args.self.now c.args.h c.hierarchy.result.now c.args.path.now c.args.value c.index-levels-path.result c.as_slice-levels.result.now c.requires c.hierarchy.ensures c.as_slice-levels.ensures c.index-levels-path.is in
    child_within c.args.self.now c.args.h c.hierarchy.result.now c.args.path.now c.args.value c.index-levels-path.result c.requires c.hierarchy.ensures level

pub returns : goal.returns
returns c =
    let level = child_column c.args.self.now c.args.h c.hierarchy.result.now c.args.path.now c.args.value c.index-levels-path.result c.as_slice-levels.result.now c.requires c.hierarchy.ensures c.as_slice-levels.ensures c.index-levels-path.is in
    child_named c.args.self.now c.args.h c.hierarchy.result.now c.args.path.now c.args.value c.index-levels-path.result c.value_name.result.now c.hierarchy.ensures level c.value_name.ensures

-- That `wants_name` ensures what it says.
use Rattle.std.proofs.Common.{arith, true, false}
use Rattle.mdx_reader.specs.declared.place.Place.TheVariants as place
use Rattle.mdx_reader.proofs.Wants.{named_at, axis_named, set_named, item_named, item_unnamed_at, path_named, dot_named, cube_named, slicer_named, set_unnamed, path_unnamed}
use Rattle.mdx_reader.proofs.query_reader.PlaceGrammar.wants_name.Goals as goal

pub returns-in-AnAxis : goal.returns-in-AnAxis
returns-in-AnAxis c = let p = c.in-AnAxis in named_at c.args.self.now (place.AnAxis p.field-0) true p.is (axis_named p.field-0)

pub returns-in-ASet : goal.returns-in-ASet
returns-in-ASet c = let p = c.in-ASet in named_at c.args.self.now (place.ASet p.field-0 p.field-1 p.field-2) true p.is (set_named p.field-0 p.field-1 p.field-2)

pub returns-then-left-eq0 : goal.returns-then-left-eq0
returns-then-left-eq0 c = let p = c.in-AnItem in named_at c.args.self.now (place.AnItem p.field-0 p.field-1 p.field-2 p.left) false p.is (item_unnamed_at p.field-0 p.field-1 p.field-2 p.left c.if-left-eq0.true)

pub returns-else-left-eq0 : goal.returns-else-left-eq0
returns-else-left-eq0 c = let p = c.in-AnItem in let n = c.if-left-eq0.false in named_at c.args.self.now (place.AnItem p.field-0 p.field-1 p.field-2 p.left) true p.is (item_named p.field-0 p.field-1 p.field-2 p.left (omega (arith, n)))

pub returns-in-APath : goal.returns-in-APath
returns-in-APath c = let p = c.in-APath in named_at c.args.self.now (place.APath p.field-0) true p.is (path_named p.field-0)

pub returns-in-AfterName : goal.returns-in-AfterName
returns-in-AfterName c = let p = c.in-AfterName in named_at c.args.self.now (place.AfterName p.field-0 p.field-1) false p.is (path_unnamed p.field-0 p.field-1)

pub returns-in-AfterDot : goal.returns-in-AfterDot
returns-in-AfterDot c = let p = c.in-AfterDot in named_at c.args.self.now (place.AfterDot p.field-0 p.field-1) true p.is (dot_named p.field-0 p.field-1)

pub returns-in-AfterSet : goal.returns-in-AfterSet
returns-in-AfterSet c = let p = c.in-AfterSet in named_at c.args.self.now (place.AfterSet p.field-0 p.field-1 p.field-2) false p.is (set_unnamed p.field-0 p.field-1 p.field-2)

pub returns-in-ACube : goal.returns-in-ACube
returns-in-ACube c = let p = c.in-ACube in named_at c.args.self.now (place.ACube p.field-0 p.field-1) true p.is (cube_named p.field-0 p.field-1)

pub returns-in-ASlicer : goal.returns-in-ASlicer
returns-in-ASlicer c = let p = c.in-ASlicer in named_at c.args.self.now (place.ASlicer p.field-0) true p.is (slicer_named p.field-0)

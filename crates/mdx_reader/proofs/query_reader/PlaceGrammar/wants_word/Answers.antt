-- That `wants_word` ensures what it says.
use Rattle.mdx_reader.proofs.Wants.{start_wants, non_wants, columns_wants, rows_wants, cube_wants, axis_wants, set_wants, item_wants, after_wants, alone_wants, dot_wants, on_columns_wants, on_rows_wants, set_wants_none, item_wants_none, after_wants_none, alone_wants_none, tuple_wants_none, slicer_wants_none, in_slicer_wants_none, if_true, if_false}
use Rattle.mdx_reader.proofs.query_reader.PlaceGrammar.wants_word.Goals as goal

pub returns-in-Start : goal.returns-in-Start
returns-in-Start c = start_wants c.args.self.now c.args.front.now c.begins_keyword.result c.in-Start.is c.begins_keyword.ensures

pub returns-in-Non : goal.returns-in-Non
returns-in-Non c = let p = c.in-Non in non_wants c.args.self.now c.args.front.now c.begins_keyword-in-Non.result p.field-0 p.is c.begins_keyword-in-Non.ensures

pub returns-in-AfterColumns : goal.returns-in-AfterColumns
returns-in-AfterColumns c = let p = c.in-AfterColumns in columns_wants c.args.self.now c.args.front.now c.begins_keyword-in-AfterColumns.result p.field-0 p.is c.begins_keyword-in-AfterColumns.ensures

pub returns-in-AfterRows : goal.returns-in-AfterRows
returns-in-AfterRows c = let p = c.in-AfterRows in rows_wants c.args.self.now c.args.front.now c.begins_keyword-in-AfterRows.result p.field-0 p.field-1 p.is c.begins_keyword-in-AfterRows.ensures

pub returns-in-AfterCube : goal.returns-in-AfterCube
returns-in-AfterCube c = let p = c.in-AfterCube in cube_wants c.args.self.now c.args.front.now c.begins_keyword-in-AfterCube.result p.field-0 p.is c.begins_keyword-in-AfterCube.ensures

pub returns-in-AnAxis : goal.returns-in-AnAxis
returns-in-AnAxis c = let p = c.in-AnAxis in axis_wants c.args.self.now c.args.front.now c.begins_either.result p.field-0 p.is c.begins_either.ensures

pub returns-then-left-eq0 : goal.returns-then-left-eq0
returns-then-left-eq0 c = let p = c.in-ASet in set_wants_none c.args.self.now c.args.front.now p.field-0 p.field-1 p.left p.is c.if-left-eq0.true

pub returns-else-left-eq0 : goal.returns-else-left-eq0
returns-else-left-eq0 c = let p = c.in-ASet in set_wants c.args.self.now c.args.front.now c.begins_keyword-in-ASet.result p.field-0 p.field-1 p.left p.is c.if-left-eq0.false c.begins_keyword-in-ASet.ensures

pub returns-then-left-lt2 : goal.returns-then-left-lt2
returns-then-left-lt2 c = let p = c.in-AnItem in item_wants_none c.args.self.now c.args.front.now p.field-0 p.field-1 p.field-2 p.left p.is c.if-left-lt2.true

pub returns-else-left-lt2 : goal.returns-else-left-lt2
returns-else-left-lt2 c = let p = c.in-AnItem in item_wants c.args.self.now c.args.front.now c.begins_keyword-in-AnItem.result p.field-0 p.field-1 p.field-2 p.left p.is c.if-left-lt2.false c.begins_keyword-in-AnItem.ensures

pub returns-then-not-is_empty : goal.returns-then-not-is_empty
returns-then-not-is_empty c = let p = c.in-AfterName in let o = c.in-Alone in alone_wants_none c.args.self.now c.args.front.now p.of p.field-1 o.field-0 o.around o.field-2 p.is o.is (if_false _ _ c.is_empty.result c.if-not-is_empty.true c.is_empty.ensures)

pub returns-else-not-is_empty : goal.returns-else-not-is_empty
returns-else-not-is_empty c = let p = c.in-AfterName in let o = c.in-Alone in alone_wants c.args.self.now c.args.front.now c.begins_keyword-in-Alone.result p.of p.field-1 o.field-0 o.around o.field-2 p.is o.is (if_true _ _ c.is_empty.result c.if-not-is_empty.false c.is_empty.ensures) c.begins_keyword-in-Alone.ensures

pub returns-then-not-is_empty-2 : goal.returns-then-not-is_empty-2
returns-then-not-is_empty-2 c = let p = c.in-AfterSet in after_wants_none c.args.self.now c.args.front.now p.field-0 p.around p.field-2 p.is (if_false _ _ c.is_empty-in-AfterSet.result c.if-not-is_empty-2.true c.is_empty-in-AfterSet.ensures)

pub returns-else-not-is_empty-2 : goal.returns-else-not-is_empty-2
returns-else-not-is_empty-2 c = let p = c.in-AfterSet in after_wants c.args.self.now c.args.front.now c.begins_keyword-in-AfterSet.result p.field-0 p.around p.field-2 p.is (if_true _ _ c.is_empty-in-AfterSet.result c.if-not-is_empty-2.false c.is_empty-in-AfterSet.ensures) c.begins_keyword-in-AfterSet.ensures

pub returns-in-InTuple : goal.returns-in-InTuple
returns-in-InTuple c = let p = c.in-AfterName in let o = c.in-InTuple in tuple_wants_none c.args.self.now c.args.front.now p.of p.field-1 o.field-0 o.field-1 o.field-2 o.field-3 p.is o.is

pub returns-in-Slicer : goal.returns-in-Slicer
returns-in-Slicer c = let p = c.in-AfterName in let o = c.in-Slicer in slicer_wants_none c.args.self.now c.args.front.now p.of p.field-1 o.field-0 p.is o.is

pub returns-in-InSlicer : goal.returns-in-InSlicer
returns-in-InSlicer c = let p = c.in-AfterName in let o = c.in-InSlicer in in_slicer_wants_none c.args.self.now c.args.front.now p.of p.field-1 o.field-0 o.field-1 p.is o.is

pub returns-in-Alone-of : goal.returns-in-Alone-of
returns-in-Alone-of c = let p = c.in-AfterDot in let o = c.in-Alone-of in dot_wants c.args.self.now c.args.front.now c.begins_either-in-Alone-of.result p.of p.field-1 o.field-0 o.field-1 o.field-2 p.is o.is c.begins_either-in-Alone-of.ensures

pub returns-in-Columns : goal.returns-in-Columns
returns-in-Columns c = let p = c.in-On in let o = c.in-Columns in on_columns_wants c.args.self.now c.args.front.now c.begins_either-in-Columns.result p.which p.field-1 p.is o.is c.begins_either-in-Columns.ensures

pub returns-in-Rows : goal.returns-in-Rows
returns-in-Rows c = let p = c.in-On in let o = c.in-Rows in on_rows_wants c.args.self.now c.args.front.now c.begins_either-in-Rows.result p.which p.field-1 o.field-0 p.is o.is c.begins_either-in-Rows.ensures

-- That `finish_path` ensures what it says.
use Rattle.mdx_reader.proofs.Finishes.{alone_goes_on, tuple_goes_on, in_slicer_goes_on, slicer_ends_it}
use Rattle.mdx_reader.proofs.query_reader.finish_path.Goals as goal

pub returns-in-Slicer : goal.returns-in-Slicer
returns-in-Slicer c = slicer_ends_it c.args.of c.args.path c.in-Slicer.base c.in_ok-slicer-in-Slicer.slicer c.query_by.result c.in-Slicer.is c.in_ok-slicer-in-Slicer.ensures c.query_by.ensures

pub returns-in-Alone : goal.returns-in-Alone
returns-in-Alone c = let o = c.in-Alone in alone_goes_on c.args.of c.args.path o.field-0 o.field-1 o.field-2 o.is

pub returns-in-InTuple : goal.returns-in-InTuple
returns-in-InTuple c = let o = c.in-InTuple in tuple_goes_on c.args.of c.args.path o.field-0 o.field-1 o.field-2 o.field-3 o.is

pub returns : goal.returns
returns c = let o = c.in-InSlicer in in_slicer_goes_on c.args.of c.args.path o.field-0 o.field-1 o.is

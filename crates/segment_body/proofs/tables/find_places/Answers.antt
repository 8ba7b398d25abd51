-- That `find_places` keeps what holds at each turn.
use Rattle.std.proofs.Common.{◌∙◌}
use Rattle.segment_body.proofs.TableFacts.{find_more}
use Rattle.segment_body.proofs.tables.find_places.Goals as goal

pub loop-i-preserved : goal.loop-i-preserved
loop-i-preserved c =
    find_more c.args.columns.now c.loop-i.places c.args.some.now c.loop-i.i c.index-some-i.result c.place_of_column.result c.loop-i-test.true (c.loop-i.auto.places ∙ c.requires) c.index-some-i.is c.place_of_column.ensures c.loop-i.invariant

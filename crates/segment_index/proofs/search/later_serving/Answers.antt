-- A load that is not the later one need not be asked.
use Rattle.std.proofs.Common.{◌∙◌, ap, option_copied, option_map, sym}
use Rattle.cache_flush.specs.Loads.{kept_in}
use Rattle.segment_index.specs.Search as words
use Rattle.segment_index.proofs.SearchFacts.{not_later, other_stays, serving_is_later}
use Rattle.segment_index.proofs.search.later_serving.Goals as goal

pub returns-then-reaches : goal.returns-then-reaches
returns-then-reaches c =
    not_later c.args.loads.now.loads c.args.cell.now (option_map (kept_in c.args.loads.now.flushed) (option_copied c.args.best)) c.args.number (sym (c.reaches.ensures c.args.loads.now.flushed) ∙ c.if-reaches.true)

pub returns-in-Some : goal.returns-in-Some
returns-in-Some c =
    serving_is_later c.args.loads.now.loads c.args.cell.now (option_map (kept_in c.args.loads.now.flushed) (option_copied c.args.best)) c.args.number (kept_in c.args.loads.now.flushed c.in-Some.kept.now) (sym (c.reaches.ensures c.args.loads.now.flushed) ∙ c.if-reaches.false)
    (ap (words.serving c.args.cell.now) (sym c.get.ensures) ∙ sym (rw c.shut_list.ensures at c.in-Some.ensures))

pub returns-in-None : goal.returns-in-None
returns-in-None c =
    other_stays c.args.loads.now.loads c.args.cell.now (option_map (kept_in c.args.loads.now.flushed) (option_copied c.args.best)) c.args.number (ap (words.serving c.args.cell.now) (sym c.get.ensures) ∙ sym (rw c.shut_list.ensures at c.in-None.ensures))

-- That a load leaves the lists only where it serves no cell any more.
use Rattle.cache_flush.specs.Loads.{kept_in}
use Rattle.olap_meaning.specs.Rolled.{value_count}
use Rattle.segment_index.specs.Index.{in_key, in_mask}
use Rattle.segment_index.proofs.ListedFacts.{listed_gone}
use Rattle.segment_index.proofs.spent.unlist_one.Goals as goal

pub returns-in-Some-clause-kept : goal.returns-in-Some-clause-kept
returns-in-Some-clause-kept c =
    let (by_mask, by_key, formed) = c.requires.kept in
    let kept = kept_in c.args.loads.now.flushed c.in-Some.kept.now in (
      listed_gone (value_count c.args.catalog.now) in_mask c.args.lists.now.masks c.remove.new.self.masks c.args.loads.now.loads c.args.load kept c.numbers_differ.ensures c.in-Some.ensures.there (rw c.header.ensures.value at c.remove.ensures.masks) by_mask c.in-Some.ensures.gone,
      listed_gone (value_count c.args.catalog.now) (in_key (value_count c.args.catalog.now)) c.args.lists.now.cells c.remove.new.self.cells c.args.loads.now.loads c.args.load kept c.numbers_differ.ensures c.in-Some.ensures.there (rw c.header.ensures.value at c.remove.ensures.cells) by_key c.in-Some.ensures.gone,
      formed,
    )

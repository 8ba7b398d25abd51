-- What holds at each turn of `latest_of`.
use Rattle.std.proofs.Common.{◌≡◌, take, reverse, option_copied, option_map}
use Rattle.cache_flush.specs.Loads.{kept_in}
use Rattle.segment_index.specs.Search as words
use Rattle.segment_index.proofs.search.latest_of.Given as goal

-- what is left decides
abbrev pub invariant-loop-place : goal.invariant-loop-place
invariant-loop-place l =
    words.latest_serving l.loads.loads l.cell (option_map (kept_in l.loads.flushed) (option_copied l.best)) (reverse (take l.place l.numbers)) ≡ words.latest_serving l.loads.loads l.cell (option_map (kept_in l.loads.flushed) (option_copied l.first)) (reverse l.numbers)

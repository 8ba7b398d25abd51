-- What holds at each turn of `readers_of`.
use Rattle.std.proofs.Common.{◌≡◌, map, take}
use Rattle.fact_reader.proofs.each.readers_of.Given as goal

-- the headers so far have a reader
abbrev pub invariant-loop-header : goal.invariant-loop-header
invariant-loop-header l = l.readers.items ≡ map (λ header. record { catalog = l.catalog; header = header }) (take l.header-index l.headers)

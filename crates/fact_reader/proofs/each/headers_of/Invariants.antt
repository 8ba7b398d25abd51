-- What holds at each turn of `headers_of`.
use Rattle.std.proofs.Common.{◌≡◌, All, map, take}
use Rattle.std.specs.Prelude.{IsTrue}
use Rattle.segment_header.specs.Headers.{is_header}
use Rattle.fact_reader.proofs.each.headers_of.Given as goal

-- the headers so far are those of bodies
abbrev pub invariant-loop-body : goal.invariant-loop-body
invariant-loop-body l = record {
  own : l.headers.items ≡ map (λ body. body.header) (take l.body-index l.bodies);
  hold : All (λ header. IsTrue (is_header header)) l.headers.items;
}

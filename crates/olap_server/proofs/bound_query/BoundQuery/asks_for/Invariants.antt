-- What holds at each turn of `asks_for`.
use Rattle.std.proofs.Common.{◌≡◌, drop, bytes_eq}
use Rattle.std.specs.List.{list_all}
use Rattle.olap_meaning.specs.Records.{field_in}
use Rattle.olap_meaning.specs.FileQuery.{is_asked}
use Rattle.olap_server.proofs.bound_query.BoundQuery.asks_for.Given as goal

abbrev pub invariant-loop-i : goal.invariant-loop-i
invariant-loop-i l = list_all (λ pair. bytes_eq pair.1 (field_in l.self.header pair.0 l.row)) (drop l.i l.pair-items) ≡ is_asked l.self.query l.self.header l.row

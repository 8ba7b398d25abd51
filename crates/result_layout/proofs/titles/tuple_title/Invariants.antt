-- What holds at each turn of `tuple_title`.
use Rattle.std.proofs.Common.{◌≡◌, ◌<◌, codes, map, take, string_bytes}
use Rattle.query_meaning.specs.Titles.{joined_by, title}
use Rattle.result_layout.specs.Named.{IsNamed}
use Rattle.result_layout.proofs.titles.tuple_title.Given as goal

abbrev pub invariant-loop-i : goal.invariant-loop-i
invariant-loop-i l =
    (string_bytes l.title ≡ joined_by (codes ", ") (map (title l.catalog l.cube) (take l.i l.tuple))) × (0 < l.i → IsNamed (string_bytes l.title))

-- What holds at each turn of `member_named`.
use Rattle.std.proofs.Common.{◌≡◌, drop, ℕ, true, []}
use Rattle.olap_meaning.specs.declared.cells.Member.{Member}
use Rattle.olap_meaning.specs.Catalog.{named_below, children}
use Rattle.olap_catalog.specs.Members.{spot, members_below}
use Rattle.olap_catalog.proofs.catalog.Catalog.member_named.Given as goal

abbrev pub invariant-loop-i : goal.invariant-loop-i
invariant-loop-i l =
    (cube : ℕ) (first : Member) → named_below l.self cube (drop l.i l.path) (children l.self (spot l.h l.found)) (spot l.h l.found) ≡ named_below l.self cube (drop 1 l.path) (members_below l.self l.h true []) first

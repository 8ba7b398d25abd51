-- What holds at each turn of `members_at`.
use Rattle.std.proofs.Common.{◌≡◌, Ok, All, take}
use Rattle.olap_meaning.specs.MemberOf.{IsMemberOf}
use Rattle.query_meaning.specs.Resolution.{members_meant}
use Rattle.cell_request.proofs.names.members_at.Given as goal

abbrev pub invariant-loop-path : goal.invariant-loop-path
invariant-loop-path l = (members_meant l.catalog l.cube (take l.path-index l.paths) ≡ Ok l.members) × All (IsMemberOf l.catalog l.cube) l.members

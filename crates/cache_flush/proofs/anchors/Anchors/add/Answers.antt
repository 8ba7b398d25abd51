-- The positions that are there stay.
use Rattle.std.proofs.Common.{None, Some}
use Rattle.cache_flush.proofs.anchors.Anchors.add.Goals as goal

pub returns-in_err-add_under-in-Some-clause-kept : goal.returns-in_err-add_under-in-Some-clause-kept
returns-in_err-add_under-in-Some-clause-kept c None p stands = rw (← c.self.view_is) at stands
returns-in_err-add_under-in-Some-clause-kept c (Some anchor) p stands = c.add_under.ensures.kept anchor.0 anchor.1 p (rw (← c.self.view_is) at stands)

pub returns-in_ok-add_under-in-Some-clause-kept : goal.returns-in_ok-add_under-in-Some-clause-kept
returns-in_ok-add_under-in-Some-clause-kept c None p stands = rw (← c.self.view_is) at stands
returns-in_ok-add_under-in-Some-clause-kept c (Some anchor) p stands = c.add_under.ensures.kept anchor.0 anchor.1 p (rw (← c.self.view_is) at stands)

-- That a mask is there where its count is more than 0.
use Rattle.std.proofs.Common.{◌∙◌, nat_eq}
use Rattle.std.specs.Map.{lookup}
use Rattle.load_sharing.proofs.CountFacts.{count_found, is_there}
use Rattle.load_sharing.proofs.masks.Masks.has.Goals as goal

pub returns : goal.returns
returns c =
    rw (← c.self.view_is, count_found c.self.inside.by_mask.entries c.args.mask)
    (c.contains_key.ensures ∙ is_there (lookup (nat_eq c.args.mask) c.self.inside.by_mask.entries) (c.self.invariant c.args.mask))

use Rattle.std.proofs.Common.{◌≡◌, ◌∙◌, refl, ◌∷◌, []}
use Rattle.cache_flush.specs.Loads.{kept_of}
use Rattle.rollup_plan.proofs.PickFacts.{whole_picked}
use Rattle.rollup_plan.proofs.parts.part_of_whole.Goals as goal

pub returns : goal.returns
returns c = λ size cell loads held whole.
    let header = c.header.ensures.value in
    let own = c.in_ok-own.ensures in
    let parts : c.push.new.self ≡ record { load = c.args.kept.now.load; own = c.allowed_in.result.now } ∷ [] = c.in_ok-push.ensures.ok ∙ rw (c.new-parts.ensures, own) refl in
    rw parts (whole_picked size cell c.args.split loads (kept_of c.args.kept.now) c.allowed_in.result.now held whole c.header.ensures.well_formed c.allowed_in.ensures.set (rw header at c.allowed_in.ensures.open_in) (rw header at c.allowed_in.ensures.allows))

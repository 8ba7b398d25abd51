-- That the load is the one of its number.
use Rattle.std.proofs.Common.{◌∙◌, ap, option_copied, option_map, sym}
use Rattle.cache_flush.specs.Loads.{kept_in}
use Rattle.segment_index.proofs.LoadFacts.{load_looked}
use Rattle.segment_index.proofs.loads.Loads.gone.Goals as goal

pub returns-in-Some-clause-there : goal.returns-in-Some-clause-there
returns-in-Some-clause-there c =
    let (numbered, differ, just, held, within) = c.self.invariant in
    rw (← c.self.view_is) (sym (load_looked c.self.inside.shut.regions c.self.inside.by_number.entries c.args.load numbered) ∙ ap (option_map (kept_in c.self.inside.shut.regions)) (sym c.get.ensures.value ∙ ap option_copied c.in-Some.is))

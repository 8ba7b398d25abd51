-- The table that was built is the last of its declaration.
use Rattle.std.proofs.Common.{◌∙◌, ◌∷◌, ◌++◌, [], ap}
use Rattle.olap_meaning.specs.History.{Agg}
use Rattle.installed_tables.specs.Installed.{groups_built}
use Rattle.cache_manager.proofs.Installing.{groups_last}
use Rattle.cache_manager.proofs.manager.Manager.build_agg.Goals as goal

pub returns-clause-groups : goal.returns-clause-groups
returns-clause-groups g c =
    rw (c.install.ensures.setting, c.in_ok-position.ensures.entry)
    (c.groups-groups.ensures.count ∙ groups_last c.args.self.now c.args.who c.in_ok-made.made c.steps_are_legal.ensures c.in_ok-made.ensures.own
    ∙ ap (groups_built c.args.self.now.setting.catalog (c.args.self.now.entries ++ Agg c.args.who c.in_ok-made.made.table c.in_ok-made.made.version ∷ [])) c.in_ok-made.ensures.table)

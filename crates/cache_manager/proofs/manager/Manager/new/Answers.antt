-- Where nothing has happened nothing is kept.
use Rattle.std.proofs.Common.{rules, ◌∙◌, ap, length, refl}
use Rattle.olap_meaning.specs.declared.tables.Catalog.{Catalog}
use Rattle.history_core.specs.History.{setting_of}
use Rattle.cache_manager.proofs.Facts.{none_appended}
use Rattle.cache_manager.proofs.Installing.{no_tables}
use Rattle.cache_manager.proofs.manager.Manager.new.Goals as goal

pub invariant_of-result : goal.invariant_of-result
invariant_of-result c = rw (c.new-2.ensures, c.new-shelf.ensures.loads, c.new-shelf.ensures.flushed, c.new-3.ensures, c.new-4.ensures, c.in_ok-facts.ensures) (record {
  facts_are = none_appended (setting_of c.args.catalog.value c.args.row_limit c.args.budget) c.cube_count.result c.requires (c.cube_count.ensures.count ∙ ap (λ (k : Catalog). length k.cubes) c.deref.ensures);
  regions_are = refl;
  kept_are = search rules;
  kept_all = search rules;
  flights_are = search rules;
  flights_all = search rules;
  tables_are = no_tables c.args.catalog.value;
  ends_fit = search rules;
  places_fit = search rules;
})

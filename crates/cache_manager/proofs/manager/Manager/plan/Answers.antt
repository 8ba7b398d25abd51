-- The header of a group is well formed, and can be loaded; what is prepared is the load of the group.
use Rattle.std.proofs.Common.{◌≡◌, refl, ◌∙◌, ap, subst, length, map}
use Rattle.std.specs.Arc.{arc_value}
use Rattle.olap_meaning.specs.declared.tables.Catalog.{Catalog}
use Rattle.segment_header.specs.contracts.widener.WidenerAllowsValues.TheImpl.{answers-value}
use Rattle.segment_header.specs.Widening.{Widened}
use Rattle.fact_reader.specs.BodyRows.{rows_in}
use Rattle.segment_load.specs.Loads.{JobOf}
use Rattle.history_core.specs.Groups.{IsHeaderFor}
use Rattle.history_core.specs.Cache.{CacheOf}
use Rattle.load_costs.specs.Costs.{tables_built}
use Rattle.cell_groups.specs.Lent.{lent}
use Rattle.cache_manager.proofs.Grouping.{cube_known, group_loadable, header_formed, known_of}
use Rattle.cache_manager.proofs.Offering.{offered_tables}
use Rattle.cache_manager.proofs.manager.Manager.plan.Goals as goal

pub snapshot-requires : goal.snapshot-requires
snapshot-requires g c =
    cube_known c.args.self.now.setting.catalog c.args.group.now.first.now
    (known_of c.args.self.now.setting.catalog (lent c.args.group.now.cells.items) c.args.group.now.first.now c.requires.known c.requires.among)

pub new-requires-clause-header : goal.new-requires-clause-header
new-requires-clause-header g c =
    let own : IsHeaderFor (Widened ((answers-value g.dyn-1).it c.args.widener.now)) c.args.self.now.setting.catalog c.args.group.now.first.now (lent c.args.group.now.cells.items) c.in_ok-header.header =
    subst (λ (k : Catalog). IsHeaderFor (Widened ((answers-value g.dyn-1).it c.args.widener.now)) k c.args.group.now.first.now (lent c.args.group.now.cells.items) c.in_ok-header.header) (c.deref.ensures ∙ c.catalog.ensures) c.in_ok-header.ensures in
    header_formed (Widened ((answers-value g.dyn-1).it c.args.widener.now)) c.args.self.now.setting.catalog c.args.group.now.first.now (lent c.args.group.now.cells.items) c.in_ok-header.header own
    (known_of c.args.self.now.setting.catalog (lent c.args.group.now.cells.items) c.args.group.now.first.now c.requires.known c.requires.among)

pub new-requires-clause-loadable : goal.new-requires-clause-loadable
new-requires-clause-loadable g c =
    let own : IsHeaderFor (Widened ((answers-value g.dyn-1).it c.args.widener.now)) c.args.self.now.setting.catalog c.args.group.now.first.now (lent c.args.group.now.cells.items) c.in_ok-header.header =
    subst (λ (k : Catalog). IsHeaderFor (Widened ((answers-value g.dyn-1).it c.args.widener.now)) k c.args.group.now.first.now (lent c.args.group.now.cells.items) c.in_ok-header.header) (c.deref.ensures ∙ c.catalog.ensures) c.in_ok-header.ensures in
    rw (c.in_ok-catalog.ensures, c.catalog-2.ensures)
    (group_loadable (Widened ((answers-value g.dyn-1).it c.args.widener.now)) c.args.self.now.setting.catalog c.args.group.now.first.now (lent c.args.group.now.cells.items) c.in_ok-header.header own
    (known_of c.args.self.now.setting.catalog (lent c.args.group.now.cells.items) c.args.group.now.first.now c.requires.known c.requires.among))

pub new-requires-clause-offered : goal.new-requires-clause-offered
new-requires-clause-offered g c =
    let own : IsHeaderFor (Widened ((answers-value g.dyn-1).it c.args.widener.now)) c.args.self.now.setting.catalog c.args.group.now.first.now (lent c.args.group.now.cells.items) c.in_ok-header.header =
    subst (λ (k : Catalog). IsHeaderFor (Widened ((answers-value g.dyn-1).it c.args.widener.now)) k c.args.group.now.first.now (lent c.args.group.now.cells.items) c.in_ok-header.header) (c.deref.ensures ∙ c.catalog.ensures) c.in_ok-header.ensures in
    offered_tables arc_value c.args.self.now c.in_ok-catalog.catalog.value c.in_ok-header.header c.in_ok-snapshot.snapshot c.args.group.now.first.now.cube c.tables.result.now c.steps_are_legal.ensures (c.in_ok-catalog.ensures ∙ c.catalog-2.ensures)
    (c.tables.ensures ∙ subst (λ (k : CacheOf). c.self.inside.installed ≡ tables_built k.setting.catalog k.entries) c.self.view_is c.self.invariant.tables_are)
    own.cube c.in_ok-snapshot.ensures.version c.in_ok-snapshot.ensures.versions

pub returns : goal.returns
returns g c =
    let own : IsHeaderFor (Widened ((answers-value g.dyn-1).it c.args.widener.now)) c.args.self.now.setting.catalog c.args.group.now.first.now (lent c.args.group.now.cells.items) c.in_ok-header.header =
    subst (λ (k : Catalog). IsHeaderFor (Widened ((answers-value g.dyn-1).it c.args.widener.now)) k c.args.group.now.first.now (lent c.args.group.now.cells.items) c.in_ok-header.header) (c.deref.ensures ∙ c.catalog.ensures) c.in_ok-header.ensures in
    let header : c.in_ok-new.field-0.header ≡ c.in_ok-header.header = ap (λ (j : JobOf). j.header) c.in_ok-new.ensures in
    let tables : map arc_value c.tables.result.now ≡ tables_built c.args.self.now.setting.catalog c.args.self.now.entries =
    c.tables.ensures ∙ subst (λ (k : CacheOf). c.self.inside.installed ≡ tables_built k.setting.catalog k.entries) c.self.view_is c.self.invariant.tables_are in
    record {
      allowed = rw header own;
      start = rw (header, c.in_ok-copy.ensures, c.version-version.ensures ∙ c.in_ok-snapshot.ensures.version, c.in_ok-copy_cell.ensures) refl;
      flight = rw (header, c.in_ok-other.ensures, c.version-version.ensures ∙ c.in_ok-snapshot.ensures.version) refl;
      formed = rw c.in_ok-other.ensures (header_formed (Widened ((answers-value g.dyn-1).it c.args.widener.now)) c.args.self.now.setting.catalog c.args.group.now.first.now (lent c.args.group.now.cells.items) c.in_ok-header.header own
          (known_of c.args.self.now.setting.catalog (lent c.args.group.now.cells.items) c.args.group.now.first.now c.requires.known c.requires.among));
      load = ap (λ (j : JobOf). j.load) c.in_ok-new.ensures;
      who_is = ap (λ (j : JobOf). j.who) c.in_ok-new.ensures;
      catalog = ap (λ (j : JobOf). j.catalog) c.in_ok-new.ensures ∙ c.in_ok-catalog.ensures ∙ c.catalog-2.ensures;
      rows = ap (λ (j : JobOf). rows_in j.snapshot) c.in_ok-new.ensures ∙ c.in_ok-snapshot.ensures.rows;
      version_is = ap (λ (j : JobOf). length j.snapshot) c.in_ok-new.ensures ∙ c.in_ok-snapshot.ensures.version;
      read = ap (λ (j : JobOf). j.read) c.in_ok-new.ensures ∙ rw (header, c.in_ok-snapshot.ensures.version, c.in_ok-snapshot.ensures.rows, tables) refl;
    }

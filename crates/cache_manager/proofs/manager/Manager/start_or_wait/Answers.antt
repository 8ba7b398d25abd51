-- The cells that await no load may be loaded.
use Rattle.std.proofs.Common.{◌≡◌, ◌∙◌, ap, sym, subst, List, true, not, is_some, map}
use Rattle.std.specs.List.{list_all}
use Rattle.olap_meaning.specs.declared.cells.Cell.{Cell}
use Rattle.olap_meaning.specs.History.{awaited_load}
use Rattle.olap_meaning.specs.Legal.{has_source, is_cell}
use Rattle.history_core.specs.Groups.{AreHeadersFor}
use Rattle.segment_header.specs.contracts.widener.WidenerAllowsValues.TheImpl.{answers-value}
use Rattle.segment_header.specs.Widening.{Widened}
use Rattle.cell_groups.specs.Lent.{lent}
use Rattle.cache_manager.proofs.Looking.{kept_all, kept_pass}
use Rattle.cache_manager.proofs.manager.Manager.start_or_wait.Goals as goal

pub start-requires-clause-known : goal.start-requires-clause-known
start-requires-clause-known g c =
    subst (λ (cells : List Cell). list_all (is_cell c.args.self.now.setting.catalog) cells ≡ true) (sym (ap lent c.as_slice.ensures.value ∙ c.in_ok-wanted.ensures))
    (kept_all (is_cell c.args.self.now.setting.catalog) (λ cell. not (is_some (awaited_load c.args.self.now.entries cell))) (lent c.args.wanting.now) c.requires.known)

pub start-requires-clause-unserved : goal.start-requires-clause-unserved
start-requires-clause-unserved g c =
    subst (λ (cells : List Cell). list_all (λ cell. not (has_source c.args.self.now.setting.catalog c.args.self.now.entries cell)) cells ≡ true) (sym (ap lent c.as_slice.ensures.value ∙ c.in_ok-wanted.ensures))
    (kept_all (λ cell. not (has_source c.args.self.now.setting.catalog c.args.self.now.entries cell)) (λ cell. not (is_some (awaited_load c.args.self.now.entries cell))) (lent c.args.wanting.now) c.requires.unserved)

pub start-requires-clause-unawaited : goal.start-requires-clause-unawaited
start-requires-clause-unawaited g c =
    subst (λ (cells : List Cell). list_all (λ cell. not (is_some (awaited_load c.args.self.now.entries cell))) cells ≡ true) (sym (ap lent c.as_slice.ensures.value ∙ c.in_ok-wanted.ensures))
    (kept_pass (λ cell. not (is_some (awaited_load c.args.self.now.entries cell))) (lent c.args.wanting.now))

pub returns-clause-headers : goal.returns-clause-headers
returns-clause-headers g c =
    subst (λ (wanted : List Cell). AreHeadersFor (Widened ((answers-value g.dyn-1).it c.args.widener.now)) c.args.self.now.setting.catalog wanted (map (λ job. job.header) c.in_ok-start.field-0)) (ap lent c.as_slice.ensures.value ∙ c.in_ok-wanted.ensures)
    c.in_ok-start.ensures.headers

-- The wanting cells may be loaded, and what each served cell is answered is so and fresh.
use Rattle.std.proofs.Common.{◌≡◌, ◌∙◌, ◌+◌, ◌<◌, ◌++◌, [], List, ap, sym, subst, length, map, true, not, All}
use Rattle.std.specs.List.{AllByRecursion as Each, list_all, zip}
use Rattle.std.specs.Prelude.{nat_le}
use Rattle.olap_meaning.specs.declared.cells.Cell.{Cell}
use Rattle.olap_meaning.specs.declared.cells.CellSource.{CellSource}
use Rattle.olap_meaning.specs.History.{floor}
use Rattle.olap_meaning.specs.Legal.{IsAnswered, has_source, is_cell}
use Rattle.olap_meaning.specs.Worth.{answered_version, worth}
use Rattle.cell_groups.specs.Lent.{lent}
use Rattle.history_core.specs.Answers.{AreSources, HasSource}
use Rattle.segment_header.specs.contracts.widener.WidenerAllowsValues.TheImpl.{answers-value}
use Rattle.segment_header.specs.Widening.{Widened}
use Rattle.history_core.specs.Groups.{AreHeadersFor, awaited_loads, firsts, loads_over, numbers_from, unawaited, wanting}
use Rattle.olap_meaning.specs.Covering.{among}
use Rattle.olap_meaning.specs.History.{Start}
use Rattle.cache_manager.specs.Looks.{IfLoad}
use Rattle.cache_manager.proofs.Answering.{all_fresh, each_answered}
use Rattle.cache_manager.proofs.Looking.{all_served, kept_all, kept_pass, some_unserved, some_wants}
use Rattle.cache_manager.proofs.Outcomes.{load_so, ready_so, wait_both, wait_so}
use Rattle.cache_manager.proofs.manager.Manager.look.Goals as goal

pub start_or_wait-requires-clause-known : goal.start_or_wait-requires-clause-known
start_or_wait-requires-clause-known g c =
    let found = rw c.in-Wanting.is at c.in_ok-findings.ensures in
    subst (λ (cells : List Cell). list_all (is_cell c.args.self.now.setting.catalog) cells ≡ true) (sym (ap lent c.as_slice.ensures.value ∙ found.0))
    (kept_all (is_cell c.args.self.now.setting.catalog) (λ cell. not (has_source c.args.self.now.setting.catalog c.args.self.now.entries cell)) c.args.cells.now c.requires.known)

pub start_or_wait-requires-clause-unserved : goal.start_or_wait-requires-clause-unserved
start_or_wait-requires-clause-unserved g c =
    let found = rw c.in-Wanting.is at c.in_ok-findings.ensures in
    subst (λ (cells : List Cell). list_all (λ cell. not (has_source c.args.self.now.setting.catalog c.args.self.now.entries cell)) cells ≡ true) (sym (ap lent c.as_slice.ensures.value ∙ found.0))
    (kept_pass (λ cell. not (has_source c.args.self.now.setting.catalog c.args.self.now.entries cell)) c.args.cells.now)

pub returns-in-Wanting-clause-ready : goal.returns-in-Wanting-clause-ready
returns-in-Wanting-clause-ready g c = ready_so _ _ c.start_or_wait.result (λ answer none. absurd none) c.start_or_wait.ensures.ready

pub returns-in-Wanting-clause-answer : goal.returns-in-Wanting-clause-answer
returns-in-Wanting-clause-answer g c = ready_so _ _ c.start_or_wait.result (λ answer none. absurd none) c.start_or_wait.ensures.ready

pub returns-in-Wanting-clause-answer_entries : goal.returns-in-Wanting-clause-answer_entries
returns-in-Wanting-clause-answer_entries g c = ready_so _ _ c.start_or_wait.result (λ answer none. absurd none) c.start_or_wait.ensures.ready

pub returns-in-Wanting-clause-load : goal.returns-in-Wanting-clause-load
returns-in-Wanting-clause-load g c =
    let found = rw c.in-Wanting.is at c.in_ok-findings.ensures in
    load_so _ _ c.start_or_wait.result
    (λ jobs many. some_wants c.args.self.now c.args.cells.now (subst (λ (cells : List Cell). 0 < length (unawaited c.args.self.now.entries cells)) (ap lent c.as_slice.ensures.value ∙ found.0) many))
    c.start_or_wait.ensures.load

pub returns-in-Wanting-clause-headers : goal.returns-in-Wanting-clause-headers
returns-in-Wanting-clause-headers g c =
    let found = rw c.in-Wanting.is at c.in_ok-findings.ensures in
    subst (λ (wanted : List Cell). IfLoad c.start_or_wait.result (λ jobs. AreHeadersFor (Widened ((answers-value g.dyn-1).it c.args.widener.now)) c.args.self.now.setting.catalog (unawaited c.args.self.now.entries wanted) (map (λ job. job.header) jobs)))
    (ap lent c.as_slice.ensures.value ∙ found.0) c.start_or_wait.ensures.headers

pub returns-in-Wanting-clause-load_entries : goal.returns-in-Wanting-clause-load_entries
returns-in-Wanting-clause-load_entries g c =
    let found = rw c.in-Wanting.is at c.in_ok-findings.ensures in
    subst (λ (wanted : List Cell). IfLoad c.start_or_wait.result (λ jobs. c.start_or_wait.new.self.entries ≡ c.args.self.now.entries ++ map Start (loads_over c.args.self.now c.args.who (firsts [] (unawaited c.args.self.now.entries wanted)) (map (λ job. job.header) jobs))))
    (ap lent c.as_slice.ensures.value ∙ found.0) c.start_or_wait.ensures.load_entries

pub returns-in-Wanting-clause-numbers : goal.returns-in-Wanting-clause-numbers
returns-in-Wanting-clause-numbers g c =
    let found = rw c.in-Wanting.is at c.in_ok-findings.ensures in
    subst (λ (wanted : List Cell). IfLoad c.start_or_wait.result (λ jobs. map (λ job. job.load) jobs ≡ numbers_from (length c.args.self.now.entries + 1) (length (firsts [] (unawaited c.args.self.now.entries wanted)))))
    (ap lent c.as_slice.ensures.value ∙ found.0) c.start_or_wait.ensures.numbers

pub returns-in-Wanting-clause-wait : goal.returns-in-Wanting-clause-wait
returns-in-Wanting-clause-wait g c =
    let found = rw c.in-Wanting.is at c.in_ok-findings.ensures in
    let same : lent c.as_slice.result.now ≡ wanting c.args.self.now.setting.catalog c.args.self.now.entries c.args.cells.now = ap lent c.as_slice.ensures.value ∙ found.0 in
    wait_so _ _ c.start_or_wait.result
    (λ loads told. record {
      served = ap (unawaited c.args.self.now.entries) (sym same) ∙ told.0.0;
      some = some_unserved c.args.self.now c.args.cells.now found.1;
      rising = told.0.1;
      own = λ load. told.1 load ∙ ap (λ (cells : List Cell). among (awaited_loads c.args.self.now.entries cells) load) same;
    })
    (wait_both _ _ c.start_or_wait.result (wait_both _ _ c.start_or_wait.result c.start_or_wait.ensures.wait c.start_or_wait.ensures.rising) c.start_or_wait.ensures.own)

pub answer-requires-clause-sources : goal.answer-requires-clause-sources
answer-requires-clause-sources g c =
    let found = rw c.in-Served.is at c.in_ok-findings.ensures in
    let shared : c.in_ok-try_clone-in-Served.field-0.value ≡ c.in-Served.sources = c.in_ok-try_clone-in-Served.ensures ∙ c.in_ok-sources-in-Served.ensures.ok in
    subst (λ (sources : List CellSource). Each (IsAnswered c.args.self.now.setting c.args.self.now.entries) sources) (sym shared)
    (each_answered c.args.self.now.setting c.args.self.now.entries c.in-Served.sources (ap (list_all (is_cell c.args.self.now.setting.catalog)) found.sources_are.of_cells ∙ c.requires.known) found.sources_are.own)

pub returns-in_ok-position-in-Served-clause-ready : goal.returns-in_ok-position-in-Served-clause-ready
returns-in_ok-position-in-Served-clause-ready g c =
    let found = rw c.in-Served.is at c.in_ok-findings.ensures in
    subst (All (HasSource c.args.self.now)) found.sources_are.of_cells (all_served c.args.self.now c.in-Served.sources found.sources_are.own)

pub returns-in_ok-position-in-Served-clause-answer : goal.returns-in_ok-position-in-Served-clause-answer
returns-in_ok-position-in-Served-clause-answer g c =
    let found = rw c.in-Served.is at c.in_ok-findings.ensures in
    let held : c.in_ok-sources-in-Served.sources.value ≡ c.in-Served.sources = c.in_ok-sources-in-Served.ensures.ok in
    record {
      position = c.in_ok-position-in-Served.ensures.position;
      sources = subst (AreSources c.args.self.now c.args.cells.now) (sym held) found.sources_are;
      values = ap (map (worth c.args.self.now.setting.catalog c.args.self.now.entries)) held ∙ found.values;
      versions = ap (map (answered_version c.args.self.now.entries)) held ∙ found.versions;
      fresh =
          subst (λ (cells : List Cell). list_all (λ pair. nat_le (floor c.args.self.now.entries pair.0) pair.1.version) (zip cells c.in-Served.answered) ≡ true) found.sources_are.of_cells
          (all_fresh c.args.self.now.setting c.args.self.now.entries c.args.who c.in-Served.sources c.in-Served.answered c.steps_are_legal.ensures c.requires.call
          (ap (list_all (is_cell c.args.self.now.setting.catalog)) found.sources_are.of_cells ∙ c.requires.known) found.sources_are.own found.versions);
    }

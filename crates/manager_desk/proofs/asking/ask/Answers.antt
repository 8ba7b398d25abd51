-- An ask adds the loads that its cells lack, all ended, and then the answer, and costs what those loads do.
use Rattle.std.proofs.Common.{◌≡◌, ◌∙◌, ◌+◌, [], ap, sym, refl, subst, arith, length, map}
use Rattle.std.proofs.lemmas.List.Elements.{All-weaker}
use Rattle.olap_meaning.specs.declared.cells.Who.{Who}
use Rattle.olap_meaning.specs.declared.tables.Setting.{Setting}
use Rattle.olap_meaning.proofs.Lists.{on_err}
use Rattle.segment_load.specs.Loads.{JobOf}
use Rattle.history_core.specs.Cache.{CacheOf}
use Rattle.history_core.specs.Groups.{load_count}
use Rattle.segment_header.specs.contracts.widener.WidenerAllowsValues.TheImpl.{answers-value}
use Rattle.segment_header.specs.Widening.{Widened}
use Rattle.cache_manager.specs.Jobs.{apart}
use Rattle.manager_desk.proofs.Seeing.{apart_numbers, none_waits}
use Rattle.line_session.specs.Desks.{costs_after}
use Rattle.manager_desk.specs.Ends.{AddsEnded}
use Rattle.manager_desk.specs.Keeping.{IsCount}
use Rattle.manager_desk.proofs.Counting.{count_starts}
use Rattle.manager_desk.proofs.Joining.{IsStarted, adds_answer, adds_ended, all_delivered, cost_answered, cost_ended, cost_in_all, count_answered, idle_answered, jobs_own, next_again, none_allowed, none_lacking, numbers_are, only_started, ready_again}
use Rattle.manager_desk.proofs.asking.ask.Goals as goal

pub end_loads-requires : goal.end_loads-requires
end_loads-requires g c =
    let look : IsStarted (Widened ((answers-value g.dyn-1).it c.args.widener.now)) c.args.manager.now c.look.new.self c.args.who c.args.cells.now (map (λ job. job.header) c.in-Load.jobs) c.in-Load.jobs = record {
      allowed = rw c.in-Load.is at c.in_ok-answer.ensures.headers;
      setting = c.look.ensures.setting;
      entries = rw c.in-Load.is at c.in_ok-answer.ensures.load_entries;
      numbers = rw c.in-Load.is at c.in_ok-answer.ensures.numbers;
      are = rw c.in-Load.is at c.in_ok-answer.ensures.jobs;
      legal = c.steps_are_legal-in-Load.ensures;
    } in
    record {
      jobs = look.are;
      seats =
          All-weaker (λ (job : JobOf). job.who ≡ c.args.who) (λ (job : JobOf). job.who.seat ≡ 1) (λ job is. ap (λ (w : Who). w.seat) is ∙ c.requires.seat) c.in-Load.jobs
          (jobs_own (Widened ((answers-value g.dyn-1).it c.args.widener.now)) c.args.manager.now c.look.new.self c.args.who c.args.cells.now (map (λ job. job.header) c.in-Load.jobs) c.in-Load.jobs look);
      different = ap apart look.numbers ∙ apart_numbers (length c.args.manager.now.entries + 1) (load_count c.args.manager.now c.args.cells.now);
      complete = only_started c.args.manager.now.entries c.look.new.self.entries _ c.in-Load.jobs c.requires.idle look.entries (numbers_are (Widened ((answers-value g.dyn-1).it c.args.widener.now)) c.args.manager.now c.look.new.self c.args.who c.args.cells.now (map (λ job. job.header) c.in-Load.jobs) c.in-Load.jobs look);
      count = subst (λ (s : Setting). IsCount s.catalog c.look.new.self.entries c.args.read.now) (sym look.setting) (count_starts c.args.manager.now.setting c.args.manager.now.entries c.look.new.self.entries _ c.args.read.now c.steps_are_legal.ensures look.entries c.requires.count);
    }

pub returns-then-not-end_loads-clause-refused : goal.returns-then-not-end_loads-clause-refused
returns-then-not-end_loads-clause-refused g c =
    let look : IsStarted (Widened ((answers-value g.dyn-1).it c.args.widener.now)) c.args.manager.now c.look.new.self c.args.who c.args.cells.now (map (λ job. job.header) c.in-Load.jobs) c.in-Load.jobs = record {
      allowed = rw c.in-Load.is at c.in_ok-answer.ensures.headers;
      setting = c.look.ensures.setting;
      entries = rw c.in-Load.is at c.in_ok-answer.ensures.load_entries;
      numbers = rw c.in-Load.is at c.in_ok-answer.ensures.numbers;
      are = rw c.in-Load.is at c.in_ok-answer.ensures.jobs;
      legal = c.steps_are_legal-in-Load.ensures;
    } in
    adds_ended (Widened ((answers-value g.dyn-1).it c.args.widener.now)) c.args.manager.now c.look.new.self c.args.who c.args.cells.now (map (λ job. job.header) c.in-Load.jobs) c.in-Load.jobs look c.end_loads.new.manager c.end_loads.ensures.setting c.end_loads.ensures.ended

pub returns-then-not-end_loads-clause-at_most : goal.returns-then-not-end_loads-clause-at_most
returns-then-not-end_loads-clause-at_most g c =
    let look : IsStarted (Widened ((answers-value g.dyn-1).it c.args.widener.now)) c.args.manager.now c.look.new.self c.args.who c.args.cells.now (map (λ job. job.header) c.in-Load.jobs) c.in-Load.jobs = record {
      allowed = rw c.in-Load.is at c.in_ok-answer.ensures.headers;
      setting = c.look.ensures.setting;
      entries = rw c.in-Load.is at c.in_ok-answer.ensures.load_entries;
      numbers = rw c.in-Load.is at c.in_ok-answer.ensures.numbers;
      are = rw c.in-Load.is at c.in_ok-answer.ensures.jobs;
      legal = c.steps_are_legal-in-Load.ensures;
    } in
    let read = cost_ended (Widened ((answers-value g.dyn-1).it c.args.widener.now)) c.args.manager.now c.look.new.self c.args.who c.args.cells.now (map (λ job. job.header) c.in-Load.jobs) c.in-Load.jobs look c.end_loads.new.manager.entries c.end_loads.ensures.ended c.requires.seat in
    omega (arith, read, c.end_loads.ensures.at_most)

pub answer_ready-requires-clause-call : goal.answer_ready-requires-clause-call
answer_ready-requires-clause-call g c =
    let look : IsStarted (Widened ((answers-value g.dyn-1).it c.args.widener.now)) c.args.manager.now c.look.new.self c.args.who c.args.cells.now (map (λ job. job.header) c.in-Load.jobs) c.in-Load.jobs = record {
      allowed = rw c.in-Load.is at c.in_ok-answer.ensures.headers;
      setting = c.look.ensures.setting;
      entries = rw c.in-Load.is at c.in_ok-answer.ensures.load_entries;
      numbers = rw c.in-Load.is at c.in_ok-answer.ensures.numbers;
      are = rw c.in-Load.is at c.in_ok-answer.ensures.jobs;
      legal = c.steps_are_legal-in-Load.ensures;
    } in
    next_again (Widened ((answers-value g.dyn-1).it c.args.widener.now)) c.args.manager.now c.look.new.self c.args.who c.args.cells.now (map (λ job. job.header) c.in-Load.jobs) c.in-Load.jobs look c.end_loads.new.manager.entries c.end_loads.ensures.ended c.requires.call

pub answer_ready-requires-clause-ready : goal.answer_ready-requires-clause-ready
answer_ready-requires-clause-ready g c =
    let look : IsStarted (Widened ((answers-value g.dyn-1).it c.args.widener.now)) c.args.manager.now c.look.new.self c.args.who c.args.cells.now (map (λ job. job.header) c.in-Load.jobs) c.in-Load.jobs = record {
      allowed = rw c.in-Load.is at c.in_ok-answer.ensures.headers;
      setting = c.look.ensures.setting;
      entries = rw c.in-Load.is at c.in_ok-answer.ensures.load_entries;
      numbers = rw c.in-Load.is at c.in_ok-answer.ensures.numbers;
      are = rw c.in-Load.is at c.in_ok-answer.ensures.jobs;
      legal = c.steps_are_legal-in-Load.ensures;
    } in
    ready_again c.delivered_looks_are_ready.ensures (Widened ((answers-value g.dyn-1).it c.args.widener.now)) c.args.manager.now c.end_loads.new.manager c.args.who c.args.cells.now (map (λ job. job.header) c.in-Load.jobs) look.allowed c.steps_are_legal.ensures c.requires.idle c.requires.known (c.end_loads.ensures.setting ∙ c.look.ensures.setting)
    (all_delivered (Widened ((answers-value g.dyn-1).it c.args.widener.now)) c.args.manager.now c.look.new.self c.args.who c.args.cells.now (map (λ job. job.header) c.in-Load.jobs) c.in-Load.jobs look c.end_loads.new.manager.entries (c.end_loads.ensures.delivered c.if-not-end_loads.false))

pub returns-in_err-answer-in-Load-clause-refused : goal.returns-in_err-answer-in-Load-clause-refused
returns-in_err-answer-in-Load-clause-refused g c =
    let look : IsStarted (Widened ((answers-value g.dyn-1).it c.args.widener.now)) c.args.manager.now c.look.new.self c.args.who c.args.cells.now (map (λ job. job.header) c.in-Load.jobs) c.in-Load.jobs = record {
      allowed = rw c.in-Load.is at c.in_ok-answer.ensures.headers;
      setting = c.look.ensures.setting;
      entries = rw c.in-Load.is at c.in_ok-answer.ensures.load_entries;
      numbers = rw c.in-Load.is at c.in_ok-answer.ensures.numbers;
      are = rw c.in-Load.is at c.in_ok-answer.ensures.jobs;
      legal = c.steps_are_legal-in-Load.ensures;
    } in
    on_err c.from_residual-in_err-answer-in-Load.result
    (subst (λ (m : CacheOf). AddsEnded (Widened ((answers-value g.dyn-1).it c.args.widener.now)) c.args.manager.now m c.args.who c.args.cells.now) (sym c.in_err-answer-in-Load.ensures.unchanged)
    (adds_ended (Widened ((answers-value g.dyn-1).it c.args.widener.now)) c.args.manager.now c.look.new.self c.args.who c.args.cells.now (map (λ job. job.header) c.in-Load.jobs) c.in-Load.jobs look c.end_loads.new.manager c.end_loads.ensures.setting c.end_loads.ensures.ended))

pub returns-in_err-answer-in-Load-clause-at_most : goal.returns-in_err-answer-in-Load-clause-at_most
returns-in_err-answer-in-Load-clause-at_most g c =
    let look : IsStarted (Widened ((answers-value g.dyn-1).it c.args.widener.now)) c.args.manager.now c.look.new.self c.args.who c.args.cells.now (map (λ job. job.header) c.in-Load.jobs) c.in-Load.jobs = record {
      allowed = rw c.in-Load.is at c.in_ok-answer.ensures.headers;
      setting = c.look.ensures.setting;
      entries = rw c.in-Load.is at c.in_ok-answer.ensures.load_entries;
      numbers = rw c.in-Load.is at c.in_ok-answer.ensures.numbers;
      are = rw c.in-Load.is at c.in_ok-answer.ensures.jobs;
      legal = c.steps_are_legal-in-Load.ensures;
    } in
    let same = ap (λ (m : CacheOf). costs_after c.args.manager.now.setting.catalog 1 c.args.manager.now.entries m.entries) c.in_err-answer-in-Load.ensures.unchanged in
    let read = cost_ended (Widened ((answers-value g.dyn-1).it c.args.widener.now)) c.args.manager.now c.look.new.self c.args.who c.args.cells.now (map (λ job. job.header) c.in-Load.jobs) c.in-Load.jobs look c.end_loads.new.manager.entries c.end_loads.ensures.ended c.requires.seat in
    omega (arith, same, read, c.end_loads.ensures.at_most)

pub unreachable-requires : goal.unreachable-requires
unreachable-requires g c = none_waits c.args.manager.now c.args.cells.now c.in-Wait._loads c.requires.idle (rw c.in-Wait.is at c.in_ok-answer.ensures.wait)

pub returns-in-Ready-clause-answered : goal.returns-in-Ready-clause-answered
returns-in-Ready-clause-answered g c =
    adds_answer (Widened ((answers-value g.dyn-1).it c.args.widener.now)) c.args.manager.now c.args.manager.now c.look.new.self c.args.who c.args.cells.now [] c.in-Ready.answer (none_allowed (Widened ((answers-value g.dyn-1).it c.args.widener.now)) c.args.manager.now c.args.cells.now (rw c.in-Ready.is at c.in_ok-answer.ensures.ready)) refl
    (none_lacking c.args.manager.now c.args.who c.args.cells.now (rw c.in-Ready.is at c.in_ok-answer.ensures.ready)) (rw c.in-Ready.is at c.in_ok-answer.ensures.answer_entries)
    (rw c.in-Ready.is at c.in_ok-answer.ensures.answer)

pub returns-in-Ready-clause-idle : goal.returns-in-Ready-clause-idle
returns-in-Ready-clause-idle g c = idle_answered c.args.manager.now c.look.new.self c.args.who _ (rw c.in-Ready.is at c.in_ok-answer.ensures.answer_entries) c.requires.idle

pub returns-in-Ready-clause-count : goal.returns-in-Ready-clause-count
returns-in-Ready-clause-count g c =
    count_answered c.args.manager.now c.look.new.self c.args.who _ c.args.read.now c.steps_are_legal.ensures (rw c.in-Ready.is at c.in_ok-answer.ensures.answer_entries) c.requires.count

pub returns-in-Ready-clause-cost : goal.returns-in-Ready-clause-cost
returns-in-Ready-clause-cost g c = let none = cost_answered c.args.manager.now c.look.new.self c.args.who _ (rw c.in-Ready.is at c.in_ok-answer.ensures.answer_entries) in omega (arith, none)

pub returns-in_ok-answer-in-Load-clause-answered : goal.returns-in_ok-answer-in-Load-clause-answered
returns-in_ok-answer-in-Load-clause-answered g c =
    let look : IsStarted (Widened ((answers-value g.dyn-1).it c.args.widener.now)) c.args.manager.now c.look.new.self c.args.who c.args.cells.now (map (λ job. job.header) c.in-Load.jobs) c.in-Load.jobs = record {
      allowed = rw c.in-Load.is at c.in_ok-answer.ensures.headers;
      setting = c.look.ensures.setting;
      entries = rw c.in-Load.is at c.in_ok-answer.ensures.load_entries;
      numbers = rw c.in-Load.is at c.in_ok-answer.ensures.numbers;
      are = rw c.in-Load.is at c.in_ok-answer.ensures.jobs;
      legal = c.steps_are_legal-in-Load.ensures;
    } in
    adds_answer (Widened ((answers-value g.dyn-1).it c.args.widener.now)) c.args.manager.now c.end_loads.new.manager c.answer_ready.new.manager c.args.who c.args.cells.now (map (λ job. job.header) c.in-Load.jobs) c.in_ok-answer-in-Load.answer look.allowed (c.end_loads.ensures.setting ∙ c.look.ensures.setting)
    (all_delivered (Widened ((answers-value g.dyn-1).it c.args.widener.now)) c.args.manager.now c.look.new.self c.args.who c.args.cells.now (map (λ job. job.header) c.in-Load.jobs) c.in-Load.jobs look c.end_loads.new.manager.entries (c.end_loads.ensures.delivered c.if-not-end_loads.false)) c.in_ok-answer-in-Load.ensures.entries
    c.in_ok-answer-in-Load.ensures.answer

pub returns-in_ok-answer-in-Load-clause-idle : goal.returns-in_ok-answer-in-Load-clause-idle
returns-in_ok-answer-in-Load-clause-idle g c = idle_answered c.end_loads.new.manager c.answer_ready.new.manager c.args.who _ c.in_ok-answer-in-Load.ensures.entries c.end_loads.ensures.closed

pub returns-in_ok-answer-in-Load-clause-count : goal.returns-in_ok-answer-in-Load-clause-count
returns-in_ok-answer-in-Load-clause-count g c =
    subst (λ (s : Setting). IsCount s.catalog c.answer_ready.new.manager.entries c.end_loads.new.read) (c.end_loads.ensures.setting ∙ c.look.ensures.setting)
    (count_answered c.end_loads.new.manager c.answer_ready.new.manager c.args.who _ c.end_loads.new.read c.steps_are_legal-in-Load-2.ensures c.in_ok-answer-in-Load.ensures.entries
    (subst (λ (s : Setting). IsCount s.catalog c.end_loads.new.manager.entries c.end_loads.new.read) (sym c.end_loads.ensures.setting) c.end_loads.ensures.count))

pub returns-in_ok-answer-in-Load-clause-cost : goal.returns-in_ok-answer-in-Load-clause-cost
returns-in_ok-answer-in-Load-clause-cost g c =
    let look : IsStarted (Widened ((answers-value g.dyn-1).it c.args.widener.now)) c.args.manager.now c.look.new.self c.args.who c.args.cells.now (map (λ job. job.header) c.in-Load.jobs) c.in-Load.jobs = record {
      allowed = rw c.in-Load.is at c.in_ok-answer.ensures.headers;
      setting = c.look.ensures.setting;
      entries = rw c.in-Load.is at c.in_ok-answer.ensures.load_entries;
      numbers = rw c.in-Load.is at c.in_ok-answer.ensures.numbers;
      are = rw c.in-Load.is at c.in_ok-answer.ensures.jobs;
      legal = c.steps_are_legal-in-Load.ensures;
    } in
    let read =
    cost_in_all (Widened ((answers-value g.dyn-1).it c.args.widener.now)) c.args.manager.now c.look.new.self c.args.who c.args.cells.now (map (λ job. job.header) c.in-Load.jobs) c.in-Load.jobs look c.end_loads.new.manager c.answer_ready.new.manager _ c.requires.seat
    (c.end_loads.ensures.delivered c.if-not-end_loads.false) c.in_ok-answer-in-Load.ensures.entries in
    let cost = c.end_loads.ensures.cost c.if-not-end_loads.false in
    omega (arith, read, cost)

pub returns-in_ok-answer-in-Load-clause-at_most : goal.returns-in_ok-answer-in-Load-clause-at_most
returns-in_ok-answer-in-Load-clause-at_most g c =
    let look : IsStarted (Widened ((answers-value g.dyn-1).it c.args.widener.now)) c.args.manager.now c.look.new.self c.args.who c.args.cells.now (map (λ job. job.header) c.in-Load.jobs) c.in-Load.jobs = record {
      allowed = rw c.in-Load.is at c.in_ok-answer.ensures.headers;
      setting = c.look.ensures.setting;
      entries = rw c.in-Load.is at c.in_ok-answer.ensures.load_entries;
      numbers = rw c.in-Load.is at c.in_ok-answer.ensures.numbers;
      are = rw c.in-Load.is at c.in_ok-answer.ensures.jobs;
      legal = c.steps_are_legal-in-Load.ensures;
    } in
    let read =
    cost_in_all (Widened ((answers-value g.dyn-1).it c.args.widener.now)) c.args.manager.now c.look.new.self c.args.who c.args.cells.now (map (λ job. job.header) c.in-Load.jobs) c.in-Load.jobs look c.end_loads.new.manager c.answer_ready.new.manager _ c.requires.seat
    (c.end_loads.ensures.delivered c.if-not-end_loads.false) c.in_ok-answer-in-Load.ensures.entries in
    omega (arith, read, c.end_loads.ensures.at_most)

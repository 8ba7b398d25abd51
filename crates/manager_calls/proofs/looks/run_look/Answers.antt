-- A look is a call of the run: it is answered, starts loads whose jobs are out, waits, or is not made.
use Rattle.std.proofs.Common.{◌≡◌, ◌∙◌, ◌+◌, ◌++◌, ◌∷◌, ◌≤◌, List, All, ℕ, sym, ap, subst, arith, drop, map, length}
use Rattle.std.specs.Prelude.{filter_map}
use Rattle.std.proofs.lemmas.Bool.{and_from, lt-ltb}
use Rattle.olap_meaning.specs.declared.cells.Cell.{Cell}
use Rattle.olap_meaning.specs.declared.cells.Header.{Header}
use Rattle.olap_meaning.specs.declared.tables.Setting.{Setting}
use Rattle.olap_meaning.specs.Budget.{kept_groups}
use Rattle.olap_meaning.specs.History.{Entry, Answer, Evict}
use Rattle.history_core.specs.Answers.{AddsEvicting, HasSource, IsAnswer}
use Rattle.history_core.specs.Cache.{CacheOf}
use Rattle.history_core.specs.Groups.{AreHeadersFor, wanted_of}
use Rattle.segment_header.specs.contracts.widener.WidenerAllowsValues.TheImpl.{answers-value}
use Rattle.segment_header.specs.Widening.{Widened}
use Rattle.manager_calls.specs.Runs.{IsRun, evicted_load}
use Rattle.manager_calls.proofs.Looking.{evicted_are, evicts_below, jobs_count, loads_fewer, no_end_evicts, on_ok}
use Rattle.manager_calls.proofs.Running.{goes_on, next_call, run_later, run_on, run_started}
use Rattle.manager_calls.proofs.looks.run_look.Goals as goal

pub returns-then-not-seat_is_idle-clause-run : goal.returns-then-not-seat_is_idle-clause-run
returns-then-not-seat_is_idle-clause-run g c = run_later c.args.manager.now c.args.jobs.now.items c.args.who.call c.requires.run

pub returns-then-is_err-clause-run : goal.returns-then-is_err-clause-run
returns-then-is_err-clause-run g c = rw c.reserve.ensures.items (run_later c.args.manager.now c.args.jobs.now.items c.args.who.call c.requires.run)

pub look-requires-clause-call : goal.look-requires-clause-call
look-requires-clause-call g c = next_call c.args.who c.args.manager.now.entries c.requires.run.below

pub returns-in-Ok-Ready-clause-run : goal.returns-in-Ok-Ready-clause-run
returns-in-Ok-Ready-clause-run g c =
    let adds : AddsEvicting c.args.manager.now c.look.new.self (Answer c.args.who c.in-Ok-Ready.answer.sources.value) = rw c.in-Ok-Ready.field-0-is at c.in-Ok-Ready.ensures.answer_entries in
    rw c.reserve.ensures.items
    (run_on c.args.manager.now c.look.new.self _ c.look.ensures.setting adds.entries c.steps_are_legal.ensures c.jobs_stay.ensures c.args.jobs.now.items c.args.who.call (λ k d l. no_end_evicts _ adds.evicted)
    (and_from _ _ (lt-ltb _ _ (omega arith)) (evicts_below (c.args.who.call + 1) adds.evicted)) c.requires.run)

pub returns-in-Ok-Ready-clause-reply : goal.returns-in-Ok-Ready-clause-reply
returns-in-Ok-Ready-clause-reply g c =
    let adds : AddsEvicting c.args.manager.now c.look.new.self (Answer c.args.who c.in-Ok-Ready.answer.sources.value) = rw c.in-Ok-Ready.field-0-is at c.in-Ok-Ready.ensures.answer_entries in
    let answer : IsAnswer c.args.manager.now c.args.cells c.in-Ok-Ready.answer = subst (λ (cells : List Cell). IsAnswer c.args.manager.now cells c.in-Ok-Ready.answer) c.as_slice.ensures (rw c.in-Ok-Ready.field-0-is at c.in-Ok-Ready.ensures.answer) in
    let evicted : c.evicted_after-evicted.result.items ≡ adds.evicted =
    c.evicted_after-evicted.ensures ∙ ap (λ (es : List Entry). filter_map evicted_load (drop c.in-Ok-Ready.answer.position es)) (c.history.ensures.entries ∙ adds.entries) ∙ evicted_are c.args.manager.now.entries _ adds.evicted c.in-Ok-Ready.answer.position answer.position in
    let entries : c.look.new.self.entries ≡ c.args.manager.now.entries ++ Answer c.args.who c.in-Ok-Ready.answer.sources.value ∷ map Evict c.evicted_after-evicted.result.items =
    adds.entries ∙ ap (λ (loads : List ℕ). c.args.manager.now.entries ++ Answer c.args.who c.in-Ok-Ready.answer.sources.value ∷ map Evict loads) (sym evicted) in (
      c.seat_is_idle.ensures.0 c.if-not-seat_is_idle.false,
      subst (λ (cells : List Cell). All (HasSource c.args.manager.now) cells) c.as_slice.ensures (rw c.in-Ok-Ready.field-0-is at c.in-Ok-Ready.ensures.ready),
      answer,
      subst (λ (es : List Entry). kept_groups c.args.manager.now.setting.catalog es ≤ c.args.manager.now.setting.budget) entries
          (subst (λ (s : Setting). kept_groups s.catalog c.look.new.self.entries ≤ s.budget) c.look.ensures.setting adds.within),
    )

pub returns-in-Ok-Ready-clause-next : goal.returns-in-Ok-Ready-clause-next
returns-in-Ok-Ready-clause-next g c =
    let adds : AddsEvicting c.args.manager.now c.look.new.self (Answer c.args.who c.in-Ok-Ready.answer.sources.value) = rw c.in-Ok-Ready.field-0-is at c.in-Ok-Ready.ensures.answer_entries in
    let answer : IsAnswer c.args.manager.now c.as_slice.result.now c.in-Ok-Ready.answer = rw c.in-Ok-Ready.field-0-is at c.in-Ok-Ready.ensures.answer in
    let evicted : c.evicted_after-evicted.result.items ≡ adds.evicted =
    c.evicted_after-evicted.ensures ∙ ap (λ (es : List Entry). filter_map evicted_load (drop c.in-Ok-Ready.answer.position es)) (c.history.ensures.entries ∙ adds.entries) ∙ evicted_are c.args.manager.now.entries _ adds.evicted c.in-Ok-Ready.answer.position answer.position in
    let entries : c.look.new.self.entries ≡ c.args.manager.now.entries ++ Answer c.args.who c.in-Ok-Ready.answer.sources.value ∷ map Evict c.evicted_after-evicted.result.items =
    adds.entries ∙ ap (λ (loads : List ℕ). c.args.manager.now.entries ++ Answer c.args.who c.in-Ok-Ready.answer.sources.value ∷ map Evict loads) (sym evicted) in
    goes_on c.args.manager.now c.look.new.self _ _ _ _ c.look.ensures.setting entries (ap (map (λ job. job.load)) c.reserve.ensures.items)

pub put_out-requires : goal.put_out-requires
put_out-requires g c =
    let room = on_ok c.reserve.result (sym c.is_err.ensures.value ∙ c.if-is_err.false) c.reserve.ensures.ok in
    let count = jobs_count c.in-Ok-Load.started _ _ (rw c.in-Ok-Load.field-0-is at c.in-Ok-Load.ensures.numbers) in
    let fewer = loads_fewer c.args.manager.now c.as_slice.result.now in
    let cells = ap length c.as_slice.ensures in
    omega (arith, room, count, fewer, cells, c.len.ensures)

pub returns-in-Ok-Load-clause-run : goal.returns-in-Ok-Load-clause-run
returns-in-Ok-Load-clause-run g c =
    rw (c.put_out.ensures, c.reserve.ensures.items)
    (run_started c.args.manager.now c.look.new.self c.args.jobs.now.items c.in-Ok-Load.started c.args.who.call _ _ c.look.ensures.setting (rw c.in-Ok-Load.field-0-is at c.in-Ok-Load.ensures.load_entries)
    c.steps_are_legal-in-Ok-Load.ensures c.jobs_stay.ensures
    (rw c.in-Ok-Load.field-0-is at c.in-Ok-Load.ensures.jobs) (rw c.in-Ok-Load.field-0-is at c.in-Ok-Load.ensures.numbers) c.requires.run)

pub returns-in-Ok-Load-clause-headers : goal.returns-in-Ok-Load-clause-headers
returns-in-Ok-Load-clause-headers g c =
    subst (λ (headers : List Header). AreHeadersFor (Widened ((answers-value g.dyn-1).it c.args.widener.now)) c.args.manager.now.setting.catalog (wanted_of c.args.manager.now c.args.cells) headers) (sym (c.headers_of-headers.ensures ∙ ap (map (λ job. job.header)) c.as_slice-in-Ok-Load.ensures))
    (subst (λ (cells : List Cell). AreHeadersFor (Widened ((answers-value g.dyn-1).it c.args.widener.now)) c.args.manager.now.setting.catalog (wanted_of c.args.manager.now cells) (map (λ job. job.header) c.in-Ok-Load.started)) c.as_slice.ensures
    (rw c.in-Ok-Load.field-0-is at c.in-Ok-Load.ensures.headers))

pub returns-in-Ok-Wait-clause-run : goal.returns-in-Ok-Wait-clause-run
returns-in-Ok-Wait-clause-run g c =
    let unchanged : c.look.new.self ≡ c.args.manager.now = rw c.in-Ok-Wait.field-0-is at c.in-Ok-Wait.ensures.wait_unchanged in
    rw c.reserve.ensures.items (subst (λ (k : CacheOf). IsRun k c.args.jobs.now.items (c.args.who.call + 1)) (sym unchanged) (run_later c.args.manager.now c.args.jobs.now.items c.args.who.call c.requires.run))

pub returns-clause-run : goal.returns-clause-run
returns-clause-run g c =
    rw c.reserve.ensures.items (subst (λ (k : CacheOf). IsRun k c.args.jobs.now.items (c.args.who.call + 1)) (sym c.in-Err.ensures.unchanged) (run_later c.args.manager.now c.args.jobs.now.items c.args.who.call c.requires.run))

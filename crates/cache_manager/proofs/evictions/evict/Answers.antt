-- One load less is kept; at the end the kept loads are within the budget.
use Rattle.std.proofs.Common.{◌∙◌, ◌++◌, ◌∷◌, [], List, ap, append_assoc, arith, refl, sym}
use Rattle.std.proofs.lemmas.List.{map_push}
use Rattle.olap_meaning.specs.History.{Entry, Evict}
use Rattle.cache_manager.proofs.Budgeting.{groups_held}
use Rattle.cache_manager.proofs.Evicting.{evicts_after}
use Rattle.cache_manager.proofs.evictions.evict.Goals as goal

pub loop-history-preserved : goal.loop-history-preserved
loop-history-preserved c =
    let (loads, so_far) = c.loop-history.invariant.evicted in
    let (load, pushed) = c.evict_oldest.ensures.entry in
    record {
      setting = c.evict_oldest.ensures.setting ∙ c.loop-history.invariant.setting;
      evicted = (
        loads ++ load ∷ [],
        pushed ∙ ap (λ (es : List Entry). es ++ Evict load ∷ []) so_far ∙ append_assoc c.args.history.now.entries _ (Evict load ∷ []) ∙ ap (λ (es : List Entry). c.args.history.now.entries ++ es) (sym (map_push Evict loads load)),
      );
      kept = c.evict_oldest.ensures.kept;
      room = omega (arith, c.evict_oldest.ensures.spare, c.evict_oldest.ensures.fewer, c.loop-history.invariant.room);
      after = rw pushed (evicts_after c.loop-history.history.entries (Evict load) refl);
      spare = omega (arith, c.evict_oldest.ensures.spare, c.evict_oldest.ensures.fewer, c.loop-history.invariant.spare);
      flushed = c.evict_oldest.ensures.flushed ∙ c.loop-history.invariant.flushed;
      places = λ headers had. c.evict_oldest.ensures.places headers (c.loop-history.invariant.places headers had);
    }

pub returns-clause-within : goal.returns-clause-within
returns-clause-within c =
    let held = groups_held c.loop-history.history.setting c.loop-history.history.entries c.loop-history.shelf.loads c.steps_are_legal.ensures c.loop-history.invariant.kept c.numbers_differ.ensures in
    omega (arith, held, c.groups.ensures, c.from.ensures, c.budget.ensures, c.loop-history-test.false)

-- What a flush is worth after itself.
use Rattle.std.proofs.Common.{◌≡◌, ◌&&◌, not, List, Bool, true, false, take, ap, refl, le_of_lt, le_trans, le_of_eq, sym, take-take}
use Rattle.olap_meaning.specs.Equivalents.{FloorIsGreatest}
use Rattle.olap_meaning.specs.History.{Entry, Flush, flushed_after, flushes, kept, load_covers, version}
use Rattle.olap_meaning.specs.Laws.{AnswersAreFresh}
use Rattle.olap_meaning.specs.Legal.{Legal}
use Rattle.olap_meaning.proofs.Positions.{entry-take, passes_after}
use Rattle.history_core.specs.History.{HistoryOf}
use Rattle.history_core.specs.Laws.{HasHeededFlushes, HasLastingFlushes}

-- what is fresh at an answer is no older than each flush before it
pub heeded : (history : HistoryOf) → AnswersAreFresh → FloorIsGreatest → Legal history.setting history.entries → HasHeededFlushes history
heeded history fresh greatest legal p q flusher who region cells before flush answer answered among covers =
    let it = fresh history.setting history.entries legal q who cells answer answered among in
    let bound = (greatest (take q history.entries) answered.cell).above p (Flush flusher region) (entry-take q history.entries p (Flush flusher region) flush (le_of_lt before)) covers in
    (it.0, it.1, le_trans (le_of_eq (sym (ap (λ (es : List Entry). version es answered.cell.cube) (take-take p q history.entries (le_of_lt before))))) (le_trans bound it.2))

-- nothing is live after what is false
none_live : (kept covers flushed : Bool) → flushed ≡ true → ((kept && covers) && not flushed) ≡ false
none_live true true true h = refl
none_live true false true h = refl
none_live false covers true h = refl
none_live kept covers false h = absurd (let n : ⊥ = cc in n)

pub lasting : (history : HistoryOf) → HasLastingFlushes history
lasting history p q j who region cell before within flush covers =
    none_live (kept (take q history.entries) j) (load_covers (take q history.entries) j cell) (flushed_after (take q history.entries) j cell)
    (passes_after (flushes cell) j (take q history.entries) p (Flush who region) (entry-take q history.entries p (Flush who region) flush within) before covers)

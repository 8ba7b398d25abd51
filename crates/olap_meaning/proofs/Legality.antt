-- Which steps are legal after small histories.
use Rattle.std.proofs.Common.{◌≡◌, refl, subst, ap, ℕ, zero, suc, lit≤, lit<, List, [], ◌∷◌, true, false, Option, Some, None, arith}
use Rattle.std.proofs.lemmas.Bool.{both_ways}
use Rattle.std.proofs.lemmas.List.Elements.{All-contains}
use Rattle.olap_meaning.specs.declared.cells.Who.{Who}
use Rattle.olap_meaning.specs.declared.cells.Cell.{Cell}
use Rattle.olap_meaning.specs.declared.cells.Allowed.TheVariants.{Any}
use Rattle.olap_meaning.specs.declared.cells.CellSource.{CellSource}
use Rattle.olap_meaning.specs.History.{Entry, Append, Done, Answer, Saw, live}
use Rattle.olap_meaning.specs.declared.tables.Setting.{Setting}
use Rattle.olap_meaning.specs.Legal.{Legal, LegalStep}
use Rattle.olap_meaning.specs.Laws.{SomeAnswerIsLegal}
use Rattle.olap_meaning.proofs.Examples.{who, year, load, first_quarter, flush_q1, rows, catalog}
use Rattle.olap_meaning.proofs.Loads.{flush_shuts_off}
use Rattle.olap_meaning.proofs.Members.{in_first}
use Rattle.olap_meaning.proofs.RolledSources.{sources_are_decided}

abbrev setting : Setting
setting = record { catalog = catalog; row_limit = 100; budget = 10 }

abbrev from : Cell → ℕ → CellSource
from c j = record { cell = c; loads = j ∷ [] }

-- an answer of the year from its load
abbrev answer_year : Entry
answer_year = Answer (who 2) (from year 2 ∷ [])

abbrev start_year : Entry
start_year = load ((0, Any) ∷ []) 1 year

abbrev first_rows : Entry
first_rows = Append (who 1) 0 1 rows

legal_append : LegalStep setting [] first_rows
legal_append = record { call = refl; known = lit< tt; next = refl; versions = lit≤ tt; fit = refl; room = lit≤ tt }

legal_start : LegalStep setting (first_rows ∷ []) start_year
legal_start = record { known = refl; rising = refl; covers = refl; present = refl; needed = (sources_are_decided.lacks catalog (first_rows ∷ []) year).0 refl; unawaited = refl }

legal_done : LegalStep setting (first_rows ∷ start_year ∷ []) (Done (who 0) 2)
legal_done = record { flies = refl; own = refl }

legal_answer : LegalStep setting (first_rows ∷ start_year ∷ Done (who 0) 2 ∷ []) answer_year
legal_answer = (refl, (record { known = refl; source = refl }, tt))

-- so some history with an answer is legal
legal_history : Legal setting (first_rows ∷ start_year ∷ Done (who 0) 2 ∷ answer_year ∷ [])
legal_history zero e h = let same : first_rows ≡ e = cc in subst (λ (x : Entry). LegalStep setting [] x) same legal_append
legal_history (suc zero) e h = let same : start_year ≡ e = cc in subst (λ (x : Entry). LegalStep setting (first_rows ∷ []) x) same legal_start
legal_history (suc (suc zero)) e h = let same : Done (who 0) 2 ≡ e = cc in subst (λ (x : Entry). LegalStep setting (first_rows ∷ start_year ∷ []) x) same legal_done
legal_history (suc (suc (suc zero))) e h = let same : answer_year ≡ e = cc in subst (λ (x : Entry). LegalStep setting (first_rows ∷ start_year ∷ Done (who 0) 2 ∷ []) x) same legal_answer
legal_history (suc (suc (suc (suc n)))) e h = absurd (cc)

pub some_answer_is_legal : SomeAnswerIsLegal
some_answer_is_legal = (setting, first_rows ∷ start_year ∷ Done (who 0) 2 ∷ answer_year ∷ [], who 2, from year 2, legal_history, refl)

-- a second Start for an awaited cell
no_second_start : LegalStep setting (first_rows ∷ start_year ∷ []) start_year → ⊥
no_second_start s = let h : ◌≡◌ {A = Option ℕ} (Some 2) None = s.unawaited in cc

-- a Start for a cell with a live load
no_start_for_live : LegalStep setting (first_rows ∷ start_year ∷ Done (who 0) 2 ∷ []) start_year → ⊥
no_start_for_live s = let h : ◌≡◌ {A = Option ℕ} (Some 2) None = s.needed.exact in cc

-- an answer from a load of an older version, after an append
legal_old_answer : LegalStep setting (first_rows ∷ start_year ∷ Done (who 0) 2 ∷ Append (who 2) 0 2 [] ∷ []) (Answer (who 3) (from year 2 ∷ []))
legal_old_answer = (refl, (record { known = refl; source = refl }, tt))

-- and after a flush that covers the cell
no_flushed_answer : (loads : List ℕ) → LegalStep setting (first_rows ∷ start_year ∷ Done (who 0) 2 ∷ flush_q1 ∷ []) (Answer (who 4) (record { cell = year; loads = loads } ∷ [])) → ⊥
no_flushed_answer [] s = absurd (omega (arith, s.1.0.source.rolled.some))
no_flushed_answer (j ∷ js) s = both_ways _ (flush_shuts_off (first_rows ∷ start_year ∷ Done (who 0) 2 ∷ []) (who 3) first_quarter year j refl) lives
  where
    lives : live (first_rows ∷ start_year ∷ Done (who 0) 2 ∷ flush_q1 ∷ []) j year ≡ true
    lives = All-contains (λ k. live (first_rows ∷ start_year ∷ Done (who 0) 2 ∷ flush_q1 ∷ []) k year ≡ true) (j ∷ js) j s.1.0.source.lives (in_first j js)

-- a Done by another seat
no_other_done : LegalStep setting (first_rows ∷ start_year ∷ []) (Done (record { seat = 2; call = 0 }) 2) → ⊥
no_other_done s = let h : Some (who 0) ≡ Some (record { seat = 2; call = 0 }) = s.own in seats (ap seat_of h)
  where
    seat_of : Option Who → ℕ
    seat_of None = 0
    seat_of (Some w) = w.seat

    seats : ◌≡◌ {A = ℕ} 1 2 → ⊥
    seats e = absurd (omega (arith, e))

-- a call number that does not rise
no_old_call : LegalStep setting (first_rows ∷ []) (Saw (who 1)) → ⊥
no_old_call s = let h : false ≡ true = s in cc

-- Entries of the code and of the definitions.
use Rattle.std.proofs.Common.{◌≡◌, refl, sym, ◌∙◌, ap, subst, ℕ, suc, ◌+◌, List, [], ◌∷◌, ◌++◌, length, map, Option, Some, None, option_map, option_copied, slice_get, Bor, arith}
use Rattle.std.specs.Slice.{IsItemAt}
use Rattle.std.proofs.lemmas.List.{map_push}
use Rattle.std.proofs.lemmas.Option.{slice_get-map, slice_get_past, slice_get_read}
use Rattle.history_core.specs.declared.entry.Entry.{Entry as Event}
use Rattle.olap_meaning.specs.declared.tables.Setting.{Setting}
use Rattle.olap_meaning.specs.History.{Entry, entry_at}
use Rattle.olap_meaning.specs.Legal.{Legal, LegalStep}
use Rattle.olap_meaning.proofs.Growing.{legal_grows}
use Rattle.history_core.specs.Entries.{entry_of}
use Rattle.history_core.specs.History.{HistoryOf}

-- the item that a slice lends at a place
pub copied_at : {A : Type 0} (items : List A) (place : ℕ) (found : Option (Bor A)) → IsItemAt items place found → option_copied found ≡ slice_get items place
copied_at items place None is = sym (slice_get_past items place is.3)
copied_at items place (Some item) is = sym (slice_get_read items (length items) place item.now refl is.3.0 is.1)

-- an event at a place, as the entry at the next position
pub entry_at_place :
    (events : List Event) (entries : List Entry) (i place : ℕ) (found : Option Event) → map entry_of events ≡ entries → place + 1 ≡ i → found ≡ slice_get events place
    → option_map entry_of found ≡ entry_at entries i
entry_at_place events entries i place found are next is =
    let e : suc place ≡ i = omega (arith, next) in
    ap (option_map entry_of) is ∙ sym (slice_get-map entry_of events place) ∙ ap (λ entries. slice_get entries place) are ∙ ap (entry_at entries) e

-- one more event keeps the history legal
pub legal_pushed :
    (setting : Setting) (spare : ℕ) (history : HistoryOf) (events longer : List Event) (event : Event) → record { setting = setting; entries = map entry_of events; spare = spare } ≡ history
    → Legal setting (map entry_of events) → LegalStep history.setting history.entries (entry_of event) → longer ≡ events ++ event ∷ []
    → Legal setting (map entry_of longer)
legal_pushed setting spare history events longer event is legal step long =
    subst (λ (entries : List Entry). Legal setting entries) (sym (ap (map entry_of) long ∙ map_push entry_of events event))
    (legal_grows setting (map entry_of events) (entry_of event) legal
    (subst (λ (h : HistoryOf). LegalStep h.setting h.entries (entry_of event)) (sym is) step))

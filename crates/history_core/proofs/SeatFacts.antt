-- The entries of a seat.
use Rattle.std.proofs.Common.{◌≡◌, refl, ℕ, List, [], ◌∷◌, Bool, true, false}
use Rattle.std.specs.List.{list_any}
use Rattle.std.proofs.lemmas.Bool.{both_ways, false_from_ne_true, or_from, or_left, or_right}
use Rattle.olap_meaning.specs.History.{Entry}
use Rattle.history_core.specs.Seats.{entries_of, is_of_seat}

-- none of them passes a test that no entry passes
pub none_of_seat : (test : Entry → Bool) (history : List Entry) (seat : ℕ) → list_any test history ≡ false → list_any test (entries_of history seat) ≡ false
none_of_seat test [] seat none = refl
none_of_seat test (e ∷ es) seat none =
    by (is_of_seat seat e) refl
    (none_of_seat test es seat (false_from_ne_true (list_any test es) (λ h. both_ways (list_any test (e ∷ es)) none (or_right (test e) (list_any test es) h))))
  where
    here : test e ≡ false
    here = false_from_ne_true (test e) (λ h. both_ways (list_any test (e ∷ es)) none (or_left (test e) (list_any test es) h))

    by : (b : Bool) → is_of_seat seat e ≡ b → list_any test (entries_of es seat) ≡ false → list_any test (entries_of (e ∷ es) seat) ≡ false
    by true own rest = rw own (or_from (test e) (list_any test (entries_of es seat)) here rest)
    by false own rest = rw own rest

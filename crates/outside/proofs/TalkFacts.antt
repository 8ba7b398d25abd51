-- What was taken, once more has passed.
use Rattle.std.proofs.Common.{◌≡◌, ◌++◌, ◌+◌, ◌==◌, ℕ, Bool, true, false, List, [], ◌∷◌, refl, sym, ◌∙◌, ap, arith}
use Rattle.std.proofs.lemmas.List.{append_assoc, append-nil}
use Rattle.outside.specs.Event.{Event, gave, took, ended, gave_not, took_not}
use Rattle.outside.specs.Talks.{cut, failures, shown, taken}

-- what was taken in one talk and then in another
pub taken-append : (es fs : List Event) → taken (es ++ fs) ≡ taken es ++ taken fs
taken-append [] fs = refl
taken-append (gave b ∷ es) fs = taken-append es fs
taken-append (took b ∷ es) fs = ap (λ x. b ++ x) (taken-append es fs) ∙ sym (append_assoc b (taken es) (taken fs))
taken-append (ended ∷ es) fs = taken-append es fs
taken-append (gave_not ∷ es) fs = taken-append es fs
taken-append (took_not ∷ es) fs = taken-append es fs

-- some bytes more were taken
pub taken_took : (es : List Event) (bytes : List ℕ) → taken (es ++ took bytes ∷ []) ≡ taken es ++ bytes
taken_took es bytes = taken-append es (took bytes ∷ []) ∙ ap (λ x. taken es ++ x) (append-nil bytes)

-- a failure takes nothing
pub taken_took_not : (es : List Event) → taken (es ++ took_not ∷ []) ≡ taken es
taken_took_not es = taken-append es (took_not ∷ []) ∙ append-nil (taken es)

-- the failures of one talk and then of another
pub failures-append : (es fs : List Event) → failures (es ++ fs) ≡ failures es + failures fs
failures-append [] fs = omega arith
failures-append (gave b ∷ es) fs = failures-append es fs
failures-append (took b ∷ es) fs = failures-append es fs
failures-append (ended ∷ es) fs = failures-append es fs
failures-append (gave_not ∷ es) fs = omega (arith, failures-append es fs)
failures-append (took_not ∷ es) fs = omega (arith, failures-append es fs)

-- a read that gives something, or the end, is no failure
pub failures_shown : (es : List Event) (n : ℕ) (piece : List ℕ) → failures (es ++ shown n piece) ≡ failures es
failures_shown es n piece = failures-append es (shown n piece) ∙ by (n == 0) refl
  where
    by : (none : Bool) → (n == 0) ≡ none → failures es + failures (shown n piece) ≡ failures es
    by true is = rw is (omega arith)
    by false is = rw is (omega arith)

-- nor is a write that takes all
pub failures_took : (es : List Event) (bytes : List ℕ) → failures (es ++ took bytes ∷ []) ≡ failures es
failures_took es bytes = omega (arith, failures-append es (took bytes ∷ []))

-- a read that fails
pub failures_gave_not : (es : List Event) → failures (es ++ gave_not ∷ []) ≡ failures es + 1
failures_gave_not es = failures-append es (gave_not ∷ [])

-- a write that fails
pub failures_cut : (es : List Event) (n : ℕ) (bytes : List ℕ) → failures (es ++ cut n bytes) ≡ failures es + 1
failures_cut es n bytes = failures-append es (cut n bytes)

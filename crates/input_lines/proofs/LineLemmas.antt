-- What the first bytes of an input say of its first line.
use Rattle.std.proofs.Common.{◌≡◌, ℕ, ◌+◌, ◌<◌, ◌≤◌, List, ◌++◌, ◌-◌, ◌∙◌, subst, inl, inr, Bool, not, true, false, length, get_or, take, drop, refl, arith, ap, sym}
use Rattle.std.specs.Prelude.{◌==◌, slice_index, All, min, None, Some, if◌then◌else◌}
use Rattle.std.proofs.lemmas.Bool.Decides.{nat_tests}
use Rattle.std.proofs.lemmas.List.{length-take, get_or-take, length-drop, get_or-drop}
use Rattle.std.proofs.lemmas.Bool.{cases_lt}
use Rattle.std.proofs.lemmas.List.Sums.{position_or_len_is, fails_before_first, prefix_len-le-length}
use Rattle.std.proofs.lemmas.List.Folds.{prefix_len-append}
use Rattle.memchr.specs.Find.{IsFirstByte, Nowhere, Passes, is_byte}
use Rattle.input_lines.specs.Reader.{is_lf, line_length, without_cr}

-- a test that is not true
not_true : (b : Bool) → (b ≡ true → ⊥) → b ≡ false
not_true true h = absurd (h refl)
not_true false h = refl

-- no LF stands before a place
not_before : (xs hay : List ℕ) (looked more : ℕ) → hay ≡ drop looked xs → looked ≤ line_length xs → Nowhere (Passes (is_byte 10) hay) 0 more → (k : ℕ) → k < looked + more → is_lf (get_or xs k 0) ≡ false
not_before xs hay looked more is clear nowhere k below = elim (cases_lt k looked) [
  | inl early ↦ fails_before_first is_lf xs k 0 (omega arith)
  | inr late ↦
      let at : looked + (k - looked) ≡ k = omega arith in
      let e : get_or hay (k - looked) 0 ≡ get_or xs k 0 = ap (λ (h : List ℕ). get_or h (k - looked) 0) is ∙ get_or-drop looked xs (k - looked) 0 ∙ ap (λ (n : ℕ). get_or xs n 0) at in
      not_true _ (λ passes. nowhere (k - looked) (omega arith) (omega arith) (subst (λ (v : ℕ). is_lf v ≡ true) (sym e) passes))
]

-- a search of the bytes from a place on, before which no LF stands, finds how many stand before the first LF
pub line_length-found : (xs hay : List ℕ) (looked more : ℕ) → hay ≡ drop looked xs → looked ≤ line_length xs → IsFirstByte (is_byte 10) hay (Some more) → looked + more ≡ line_length xs
line_length-found xs hay looked more is clear first =
    let reach : length hay ≡ length xs - looked = ap length is ∙ length-drop looked xs in
    let below : looked + more < length xs = omega (arith, first.0.high) in
    let at : is_lf (get_or xs (looked + more) 0) ≡ true = subst (λ (v : ℕ). is_lf v ≡ true) (ap (λ (h : List ℕ). get_or h more 0) is ∙ get_or-drop looked xs more 0) first.1 in
    sym (position_or_len_is is_lf xs (looked + more) 0 (omega arith) (not_before xs hay looked more is clear first.0.before) (λ _. at))

-- where it finds none, all of them do
pub line_length-none : (xs hay : List ℕ) (looked : ℕ) → hay ≡ drop looked xs → looked ≤ line_length xs → IsFirstByte (is_byte 10) hay None → length xs ≡ line_length xs
line_length-none xs hay looked is clear first =
    let reach : length hay ≡ length xs - looked = ap length is ∙ length-drop looked xs in
    let within : looked ≤ length xs = omega (arith, prefix_len-le-length (λ x. not (is_lf x)) xs) in
    let all : looked + length hay ≡ length xs = omega arith in
    sym (position_or_len_is is_lf xs (length xs) 0 (omega arith) (subst (λ (n : ℕ). (k : ℕ) → k < n → is_lf (get_or xs k 0) ≡ false) all (not_before xs hay looked (length hay) is clear first)) (λ past. absurd (omega arith)))

-- bytes with no LF, and more after them
pub line_length-more : (held bytes : List ℕ) → line_length held ≡ length held → length held ≤ line_length (held ++ bytes)
line_length-more held bytes none =
    let f = prefix_len-append (λ x. not (is_lf x)) held bytes in
    rw f (grind (arith, nat_tests))

-- no LF stands among the bytes before the first one
pub no_lf-take : (held : List ℕ) (n : ℕ) → n ≤ line_length held → All (λ b. b ≡ 10 → ⊥) (take n held)
no_lf-take held n before k d within is =
    let size : length (take n held) ≡ min n (length held) = length-take n held in
    let early : k < n = omega arith in
    let at : get_or held k d ≡ 10 = sym (get_or-take n held k d early) ∙ is in
    let fails : is_lf (get_or held k d) ≡ false = fails_before_first is_lf held k d (omega arith) in
    cc (fails, ap is_lf at)

pub no_lf-all : (held : List ℕ) → line_length held ≡ length held → All (λ b. b ≡ 10 → ⊥) held
no_lf-all held none k d within is =
    let fails : is_lf (get_or held k d) ≡ false = fails_before_first is_lf held k d (omega arith) in
    cc (fails, ap is_lf is)

-- a fact that holds with and without a CR at the end
pub no_lf-without_cr : (bytes : List ℕ) → All (λ b. b ≡ 10 → ⊥) bytes → All (λ b. b ≡ 10 → ⊥) (without_cr bytes)
no_lf-without_cr bytes none = elim (slice_index bytes (length bytes - 1) == 13) as (λ b. All (λ b. b ≡ 10 → ⊥) (if b then take (length bytes - 1) bytes else bytes)) [
  | true ↦ λ k d within is.
      let size : length (take (length bytes - 1) bytes) ≡ min (length bytes - 1) (length bytes) = length-take (length bytes - 1) bytes in
      none k d (omega arith) (sym (get_or-take (length bytes - 1) bytes k d (omega arith)) ∙ is)
  | false ↦ none
]

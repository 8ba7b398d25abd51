-- How bytes come from a source after those that are held.
use Rattle.std.proofs.Common.{◌≡◌, ℕ, ◌+◌, ◌-◌, ◌≤◌, List, [], ◌++◌, inl, inr, length, take, drop, arith, ap, sym, subst, ◌∙◌}
use Rattle.std.specs.Prelude.{Result, Ok, Err, IfOk, Option, min, slice_range, ◌==◌}
use Rattle.std.proofs.lemmas.List.{take_at, length-take, length-take-le, length-drop, drop-append-le, drop-drop, drop-take, drop_all, take_all, take-take}
use Rattle.std.proofs.lemmas.Bool.{cases_lt}
use Rattle.std.proofs.Math.Seq.{take-add}
use Rattle.std.proofs.lemmas.Slice.{between_is}
use Rattle.outside.specs.Event.{Event}
use Rattle.outside.specs.Told.{TakenOff}
use Rattle.input_lines.proofs.Receiving.{same_reading}
use Rattle.input_lines.specs.Reader.{HasReceived, Reading, received}

-- a part of a list that agrees up to the part's end
pub slice_range-same : (xs ys : List ℕ) (i j : ℕ) → take j xs ≡ take j ys → slice_range xs i j ≡ slice_range ys i j
slice_range-same xs ys i j same = between_is xs i j ∙ ap (drop i) same ∙ sym (between_is ys i j)

-- two parts, one after the other
pub slice_range-more : (xs : List ℕ) (i j n : ℕ) → i ≤ j → j + n ≤ length xs → slice_range xs i (j + n) ≡ slice_range xs i j ++ take n (drop j xs)
slice_range-more xs i j n order within =
    let reach : i ≤ length (take j xs) = omega (arith, length-take j xs) in
    between_is xs i (j + n) ∙ ap (drop i) (take-add j n xs) ∙ drop-append-le i (take j xs) (take n (drop j xs)) reach ∙ ap (λ (ys : List ℕ). ys ++ take n (drop j xs)) (sym (between_is xs i j))

-- a part without its first bytes
pub slice_range-drop : (xs : List ℕ) (i j n : ℕ) → slice_range xs (i + n) j ≡ drop n (slice_range xs i j)
slice_range-drop xs i j n = between_is xs (i + n) j ∙ sym (drop-drop n i (take j xs)) ∙ ap (drop n) (sym (between_is xs i j))

-- a part, and after it the rest up to a place
pub slice_range-split : (xs : List ℕ) (i j k : ℕ) → i ≤ j → j ≤ k → k ≤ length xs → slice_range xs i k ≡ slice_range xs i j ++ slice_range xs j k
slice_range-split xs i j k order later within =
    let n : ℕ = k - j in
    let at : j + (k - j) ≡ k = omega arith in
    let rest : slice_range xs j k ≡ take (k - j) (drop j xs) = between_is xs j k ∙ ap (λ (n : ℕ). drop j (take n xs)) (sym at) ∙ drop-take j (k - j) xs in
    ap (slice_range xs i) (sym at) ∙ slice_range-more xs i j (k - j) order (omega arith) ∙ ap (λ (ys : List ℕ). slice_range xs i j ++ ys) (sym rest)

-- a slice written back into the list that it was lent from
pub written_back : (n : ℕ) (new old : List ℕ) → length new ≡ n → take n (new ++ drop (length new) old) ≡ new
written_back n new old size = take_at new (drop (length new) old) n size

-- what was read stays in a slice that is written back
pub taken-written : {E : Type 0} (r : Result ℕ E) (before after : Option (List ℕ)) (xs ys : List ℕ) (j len : ℕ) → length ys ≡ len → IfOk r (λ n. TakenOff before after (take n (drop j ys))) → IfOk r (λ n. TakenOff before after (take n (drop j (take len (ys ++ drop (length ys) xs)))))
taken-written (Err e) before after xs ys j len size taken = tt
taken-written (Ok n) before after xs ys j len size taken = rw (written_back len ys xs size) taken

pub gave-written : {E : Type 0} (r : Result ℕ E) (talk told : List Event) (xs ys : List ℕ) (j len : ℕ) → length ys ≡ len → IfOk r (λ n. told ≡ talk ++ received (take n (drop j ys))) → IfOk r (λ n. told ≡ talk ++ received (take n (drop j (take len (ys ++ drop (length ys) xs)))))
gave-written (Err e) talk told xs ys j len size passed = tt
gave-written (Ok n) talk told xs ys j len size passed = rw (written_back len ys xs size) passed

-- what stood before the read stays
pub slice_range-written : (xs ys : List ℕ) (i j len : ℕ) → length ys ≡ len → take j ys ≡ take j xs → slice_range (take len (ys ++ drop (length ys) xs)) i j ≡ slice_range xs i j
slice_range-written xs ys i j len size same = rw (written_back len ys xs size) (slice_range-same ys xs i j same)

-- bytes that were read after a part: those that may be lines, and one after them
pub HasReceived-read :
    (before after : Option (List ℕ)) (talk told : List Event) (old : Reading) (ys : List ℕ) (i j n lines : ℕ) → i ≤ j → j + n ≤ length ys → n ≤ old.room + 1 → lines ≡ min n old.room → slice_range ys i j ≡ old.held → old.line ≡ [] → TakenOff before after (take n (drop j ys))
    → told ≡ talk ++ received (take n (drop j ys))
    → HasReceived before after talk told n old (record { line = slice_range ys 0 0; held = slice_range ys i (j + lines); room = old.room - lines; beyond = slice_range ys (j + lines) (j + n); ended = n == 0 })
HasReceived-read before after talk told old ys i j n lines order within few is held clear taken passed =
    let size : length (take n (drop j ys)) ≡ n = length-take-le n (drop j ys) (omega (arith, length-drop j ys)) in
    let line : slice_range ys 0 0 ≡ old.line = slice_range-none ys ∙ sym clear in
    let front : slice_range ys i (j + lines) ≡ old.held ++ take old.room (take n (drop j ys)) =
    slice_range-more ys i j lines order (omega arith)
    ∙ ap (λ (zs : List ℕ). zs ++ take lines (drop j ys)) held
    ∙ ap (λ (zs : List ℕ). old.held ++ zs) (sym (take-room (drop j ys) n old.room lines is)) in
    let behind : slice_range ys (j + lines) (j + n) ≡ drop old.room (take n (drop j ys)) =
    slice_range-drop ys j (j + n) lines
    ∙ ap (drop lines) (between_is ys j (j + n) ∙ drop-take j n ys)
    ∙ drop-room (take n (drop j ys)) n old.room lines size is in
    let room : old.room - lines ≡ old.room - length (take n (drop j ys)) = omega arith in
    let over : (n == 0) ≡ (length (take n (drop j ys)) == 0) = ap (λ (k : ℕ). k == 0) (sym size) in
    record {
      bytes = take n (drop j ys);
      size = size;
      few = few;
      taken = taken;
      passed = passed;
      now = same_reading _ _ line front room behind over;
    }
  where
    slice_range-none : (ys : List ℕ) → slice_range ys 0 0 ≡ []
    slice_range-none ys = between_is ys 0 0

    take-room : (zs : List ℕ) (n room lines : ℕ) → lines ≡ min n room → take room (take n zs) ≡ take lines zs
    take-room zs n room lines is = elim (cases_lt room n) [
      | inl many ↦ take-take room n zs (omega arith) ∙ ap (λ (k : ℕ). take k zs) (omega arith)
      | inr enough ↦
          let size : length (take n zs) ≡ min n (length zs) = length-take n zs in
          take_all room (take n zs) (omega arith) ∙ ap (λ (k : ℕ). take k zs) (omega arith)
    ]

    drop-room : (zs : List ℕ) (n room lines : ℕ) → length zs ≡ n → lines ≡ min n room → drop lines zs ≡ drop room zs
    drop-room zs n room lines size is = elim (cases_lt room n) [
      | inl many ↦ ap (λ (k : ℕ). drop k zs) (omega arith)
      | inr enough ↦ drop_all lines zs (omega arith) ∙ sym (drop_all room zs (omega arith))
    ]

-- the same, of a reader that holds the same
pub HasReceived-view : (before after : Option (List ℕ)) (talk told : List Event) (n : ℕ) (view old new : Reading) → view ≡ old → HasReceived before after talk told n view new → HasReceived before after talk told n old new
HasReceived-view before after talk told n view old new same has = subst (λ (r : Reading). HasReceived before after talk told n r new) same has

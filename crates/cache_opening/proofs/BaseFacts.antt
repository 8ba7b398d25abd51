-- What the entries of base batches say.
use Rattle.std.proofs.Common.{◌≡◌, refl, ap, ◌∙◌, ℕ, suc, ◌+◌, ◌<◌, ◌≤◌, List, [], ◌∷◌, ◌++◌, length, true, false, cond, arith, filter, is_some, nat_lt, nat_eq, add-zero}
use Rattle.std.specs.Prelude.{IsTrue}
use Rattle.std.specs.List.{list_all}
use Rattle.std.proofs.lemmas.List.Sums.{sum_by_push, sum_by-cons}
use Rattle.olap_meaning.specs.declared.cells.Who.{Who}
use Rattle.olap_meaning.specs.declared.tables.Row.{Row}
use Rattle.olap_meaning.specs.History.{Entry, Append, appended, version}
use Rattle.olap_meaning.specs.Legal.{is_call_below, is_call_of, is_next_call, rows_held, rows_added}
use Rattle.history_core.specs.Seats.{entries_of}
use Rattle.cache_opening.specs.Opening.{base_entries}

-- one base batch more
pub base_more : (k : ℕ) (batches : List (List Row)) (rows : List Row)
    → base_entries k (batches ++ rows ∷ []) ≡ base_entries k batches ++ Append (record { seat = 0; call = suc (k + length batches) }) (k + length batches) 1 rows ∷ []
base_more k [] rows = rw (add-zero k) refl
base_more k (b ∷ bs) rows = ap (λ (es : List Entry). Append (record { seat = 0; call = suc k }) k 1 b ∷ es) (base_more (suc k) bs rows ∙ let same : suc k + length bs ≡ k + suc (length bs) = omega arith in ap (λ (n : ℕ). base_entries (suc k) bs ++ Append (record { seat = 0; call = suc n }) n 1 rows ∷ []) same)

pub held_more : (entries : List Entry) (rows : List Row) (cube : ℕ) → rows_held (entries ++ Append (record { seat = 0; call = cube + 1 }) cube 1 rows ∷ []) ≡ rows_held entries + length rows
held_more entries rows cube = sum_by_push rows_added entries (Append (record { seat = 0; call = cube + 1 }) cube 1 rows)

-- the calls of seat 0 are numbered up to the number of batches
pub calls_below : (k call : ℕ) (batches : List (List Row)) → k + length batches < call → list_all (is_call_below call) (filter (is_call_of 0) (base_entries k batches)) ≡ true
calls_below k call [] below = refl
calls_below k call (b ∷ bs) below = let here : nat_lt (suc k) call ≡ true = grind arith in rw (here) (calls_below (suc k) call bs (omega arith))

-- the next call of seat 0 may come
pub base_next : (batches : List (List Row)) → IsTrue (is_next_call (base_entries 0 batches) (record { seat = 0; call = length batches + 1 }))
base_next batches = calls_below 0 (length batches + 1) batches (omega arith)

-- no entry is of seat 1
pub no_entry : (k : ℕ) (batches : List (List Row)) → entries_of (base_entries k batches) 1 ≡ []
no_entry k [] = refl
no_entry k (b ∷ bs) = no_entry (suc k) bs

others : (cube k : ℕ) (who : Who) (rows : List Row) → k < cube → ◌≡◌ {A = ℕ} (cond (is_some (appended cube (Append who k 1 rows))) 1 0) 0
others cube k who rows below = let other : nat_eq k cube ≡ false = grind arith in rw (other, appended) refl

unappended : (k cube : ℕ) (batches : List (List Row)) → k + length batches ≤ cube → version (base_entries k batches) cube ≡ 0
unappended k cube [] after = refl
unappended k cube (b ∷ bs) after =
    let who : Who = record { seat = 0; call = suc k } in
    let rest = unappended (suc k) cube bs (omega arith) in
    let first = others cube k who b (omega arith) in
    sum_by-cons (λ (e : Entry). cond (is_some (appended cube e)) 1 0) (Append who k 1 b) (base_entries (suc k) bs) ∙ omega (arith, rest, first)

-- the next cube has no version
pub base_fresh : (batches : List (List Row)) → version (base_entries 0 batches) (length batches) ≡ 0
base_fresh batches = unappended 0 (length batches) batches (omega arith)

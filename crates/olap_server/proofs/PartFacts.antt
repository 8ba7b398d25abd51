-- The parts of a file make the file.
use Rattle.std.proofs.Common.{◌≡◌, ◌<◌, ◌≤◌, ◌+◌, ◌++◌, ◌∷◌, ◌∙◌, ℕ, Bool, true, false, List, [], Option, Some, None, Ok, IfOk, map, length, if◌then◌else◌, refl, sym, ap, arith, nat_lt, not, is_some, ◌||◌, Bor, zero, suc, get_or, length-append}
use Rattle.std.proofs.lemmas.Bool.Decides.{nat_tests}
use Rattle.std.proofs.lemmas.List.{map-append}
use Rattle.std.proofs.lemmas.List.Elements.{filter-append}
use Rattle.std.proofs.lemmas.List.Sums.{sum_by-cons}
use Rattle.std.specs.List.{AllZip, flat_map, sum_by, filter}
use Rattle.std.specs.Option.{option_or}
use Rattle.csv_records.specs.Files.{file_records}
use Rattle.olap_meaning.specs.Records.{field_in, number, is_csv, is_null}
use Rattle.olap_meaning.specs.FileQuery.{FileFault, FileQuery, not_csv, too_many_rows, not_number, asked_values, first_fault, record_fault, is_asked, answer_of, header_fault}
use Rattle.olap_meaning.specs.Values.{aggregate}
use Rattle.olap_server.specs.Parted.{IsPart, PartSum}

-- where each result is there, what is said of the results holds of what is in them
pub all_ok : {A B : Type 0} (E : Type 0) (R : A → B → Type 0) (xs : List A) (ys : List B) → AllZip (λ x r. IfOk {T = B} {E = E} r (R x)) xs (map Ok ys) → AllZip R xs ys
all_ok E R [] [] h = h
all_ok E R [] (y ∷ ys) h = h
all_ok E R (x ∷ xs) [] h = h
all_ok E R (x ∷ xs) (y ∷ ys) h = (h.0, all_ok E R xs ys h.1)

no_fault : (csv many good : Bool) (a b c : FileFault) → (if not csv then Some a else if many then Some b else if good then None else Some c) ≡ None → (csv ≡ true) × (many ≡ false) × (good ≡ true)
no_fault true true good a b c h = absurd (cc)
no_fault true false true a b c h = (refl, refl, refl)
no_fault true false false a b c h = absurd (cc)
no_fault false many good a b c h = absurd (cc)

-- a record without a fault has none by another number, while that is within a file
fault_at : (query : FileQuery) (header row : List (List ℕ)) (n k : ℕ) → record_fault query header n row ≡ None → k ≤ 8000000 → record_fault query header k row ≡ None
fault_at query header row n k h small =
    let good = is_null (field_in header query.column row) || is_some (number (field_in header query.column row)) in
    let told = no_fault (is_csv header row) (nat_lt 8000000 n) good (not_csv n) (too_many_rows n 8000000) (not_number n query.column) h in
    let within : nat_lt 8000000 k ≡ false = grind (arith, nat_tests) in
    rw (told.0, within, told.2) refl

both_none : (o p : Option FileFault) → option_or o p ≡ None → (o ≡ None) × (p ≡ None)
both_none None p h = (refl, h)
both_none (Some f) p h = absurd (cc)

-- records without a fault have none from another number on
faults_at : (query : FileQuery) (header : List (List ℕ)) (rows : List (List (List ℕ))) (n k : ℕ) → first_fault query header n rows ≡ None → k + length rows ≤ 8000001 → first_fault query header k rows ≡ None
faults_at query header [] n k h small = refl
faults_at query header (row ∷ rows) n k h small =
    let (here, behind) = both_none (record_fault query header n row) (first_fault query header (n + 1) rows) h in
    rw (fault_at query header row n k here (omega arith), faults_at query header rows (n + 1) (k + 1) behind (omega arith)) refl

-- and so have records side by side
pub faults_joined : (query : FileQuery) (header : List (List ℕ)) (xs ys : List (List (List ℕ))) (n m : ℕ) → first_fault query header n xs ≡ None → first_fault query header m ys ≡ None
    → n + (length xs + length ys) ≤ 8000001 → first_fault query header n (xs ++ ys) ≡ None
faults_joined query header [] ys n m h k small = faults_at query header ys m n k (omega arith)
faults_joined query header (row ∷ rows) ys n m h k small =
    let (here, behind) = both_none (record_fault query header n row) (first_fault query header (n + 1) rows) h in
    rw (here, faults_joined query header rows ys (n + 1) m behind k (omega arith)) refl

pub asked_joined : (query : FileQuery) (header : List (List ℕ)) (xs ys : List (List (List ℕ))) → asked_values query header (xs ++ ys) ≡ asked_values query header xs ++ asked_values query header ys
asked_joined query header xs ys =
    rw (filter-append (is_asked query header) xs ys) (map-append (λ row. number (field_in header query.column row)) (filter (is_asked query header) xs) (filter (is_asked query header) ys))

-- what parts without a fault make together
record Together (query : FileQuery) (header : List (List ℕ)) (rows : List (List (List ℕ))) (parts : List PartSum) : Type 0 where
  valued : flat_map (λ (p : PartSum). p.values) parts ≡ asked_values query header rows
  counted : sum_by (λ (p : PartSum). p.count) parts ≡ length rows
  sound : (n : ℕ) → n + length rows ≤ 8000001 → first_fault query header n rows ≡ None

together : (query : FileQuery) (header : List (List ℕ)) (bs : List (Bor (List ℕ))) (ps : List PartSum) → AllZip (λ b p. IsPart query header (file_records b.now) p) bs ps
    → Together query header (flat_map (λ (b : Bor (List ℕ)). file_records b.now) bs) ps
together query header [] [] h = record { valued = refl; counted = refl; sound = λ n small. refl }
together query header [] (p ∷ ps) h = absurd h
together query header (b ∷ bs) [] h = absurd h
together query header (b ∷ bs) (p ∷ ps) h =
    let rest = together query header bs ps h.1 in
    let rows = flat_map (λ (x : Bor (List ℕ)). file_records x.now) bs in
    let long = length-append (file_records b.now) rows in
    record {
      valued = rw (h.0.summed, rest.valued) (sym (asked_joined query header (file_records b.now) rows));
      counted = sum_by-cons (λ (x : PartSum). x.count) p ps ∙ rw (h.0.summed, rest.counted) (sym long);
      sound = λ n small. faults_joined query header (file_records b.now) rows n (n + length (file_records b.now)) (faults_at query header (file_records b.now) 1 n h.0.sound (omega arith)) (rest.sound (n + length (file_records b.now)) (omega arith)) (omega arith);
    }

pub one_aggregator : (query : FileQuery) (header : List (List ℕ)) (bs : List (Bor (List ℕ))) (ps : List PartSum) → AllZip (λ b p. IsPart query header (file_records b.now) p) bs ps
    → (k : ℕ) (d : PartSum) → k < length ps → query.aggregator ≡ (get_or ps k d).aggregator
one_aggregator query header [] [] h k d low = absurd (omega arith)
one_aggregator query header [] (p ∷ ps) h k d low = absurd h
one_aggregator query header (b ∷ bs) [] h k d low = absurd h
one_aggregator query header (b ∷ bs) (p ∷ ps) h zero d low = rw h.0.summed refl
one_aggregator query header (b ∷ bs) (p ∷ ps) h (suc k) d low = one_aggregator query header bs ps h.1 k d (omega arith)

-- the answer over a file, by its parts
pub whole_answer : (query : FileQuery) (header : List (List ℕ)) (rows : List (List (List ℕ))) (bs : List (Bor (List ℕ))) (start : PartSum) (ps : List PartSum) → header_fault query header ≡ None → IsPart query header rows start
    → AllZip (λ b p. IsPart query header (file_records b.now) p) bs ps → start.count + sum_by (λ (p : PartSum). p.count) ps ≤ 8000000
    → answer_of query (header ∷ (rows ++ flat_map (λ (b : Bor (List ℕ)). file_records b.now) bs)) ≡ Ok (aggregate start.aggregator (start.values ++ flat_map (λ (p : PartSum). p.values) ps))
whole_answer query header rows bs start ps headed first rest small =
    let more = flat_map (λ (b : Bor (List ℕ)). file_records b.now) bs in
    let all = together query header bs ps rest in
    let counted : start.count ≡ length rows = ap (λ (p : PartSum). p.count) first.summed in
    let sound : first_fault query header 1 (rows ++ more) ≡ None = faults_joined query header rows more 1 (1 + length rows) first.sound (all.sound (1 + length rows) (omega (arith, all.counted))) (omega (arith, all.counted)) in
    rw (headed, sound, first.summed, all.valued, asked_joined query header rows more) refl

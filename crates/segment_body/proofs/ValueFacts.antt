-- Values on columns, one column after another.
use Rattle.std.proofs.Common.{◌≡◌, ◌∙◌, ◌<◌, ◌≤◌, ◌+◌, ℕ, zero, suc, Bool, true, List, [], ◌∷◌, ◌++◌, Option, None, Some, length, drop, get_or, append_assoc, append-nil, add-one, refl, sym, ap, arith, inl, inr}
use Rattle.std.specs.Prelude.{◌&&◌, ◌==◌, option_and_then, option_map, slice_get, if◌then◌else◌}
use Rattle.std.specs.List.{list_all, zip}
use Rattle.std.proofs.lemmas.Bool.{and_from, cases_Bool, eq-eqb}
use Rattle.std.proofs.Math.Seq.{drop-nil}
use Rattle.std.proofs.lemmas.Option.{slice_get-get_or}
use Rattle.olap_meaning.specs.declared.cells.Allowed.{Allowed}
use Rattle.olap_meaning.specs.Covering.{allows}
use Rattle.olap_meaning.specs.Budget.{allowed_values, if_allowed}

-- values on the first column and on the others
pub first_allowed : (allowed : Allowed) (value : Option ℕ) (rest : Option (List ℕ)) (vs : List ℕ)
    → option_and_then (λ v. option_map (λ values. v ∷ values) rest) (option_and_then (if_allowed allowed) value) ≡ Some vs
    → (v : ℕ) × (others : List ℕ) × (value ≡ Some v) × (allows allowed v ≡ true) × (rest ≡ Some others) × (vs ≡ v ∷ others)
first_allowed allowed None rest vs h = absurd (cc)
first_allowed allowed (Some v) rest vs h =
    elim (cases_Bool (allows allowed v)) [
      | inl passes ↦ here rest (rw passes at h) passes
      | inr fails ↦ let e = rw fails at h in absurd (cc)
    ]
  where
    here : (rest : Option (List ℕ)) → option_map (λ values. v ∷ values) rest ≡ Some vs → allows allowed v ≡ true
        → (w : ℕ) × (others : List ℕ) × (Some v ≡ Some w) × (allows allowed w ≡ true) × (rest ≡ Some others) × (vs ≡ w ∷ others)
    here None e passes = absurd (cc)
    here (Some others) e passes = (v, others, refl, passes, refl, cc)

-- the value on a column, where it is allowed
abbrev pub value_at : (ℕ → Option ℕ) → List (ℕ × Allowed) → ℕ → Option ℕ
value_at f columns k = option_and_then (λ column. option_and_then (if_allowed column.1) (f column.0)) (slice_get columns k)

-- what is read on a column
pub read : (f : ℕ → Option ℕ) (columns : List (ℕ × Allowed)) (k : ℕ) (column : ℕ × Allowed) (v : ℕ) (b : Bool) → k < length columns → column ≡ get_or columns k column → f column.0 ≡ Some v → allows column.1 v ≡ b
    → value_at f columns k ≡ (if b then Some v else None)
read f columns k column v b within is value passes =
    let at : slice_get columns k ≡ Some column = slice_get-get_or columns k column within ∙ ap (λ (x : ℕ × Allowed). Some x) (sym is) in
    ap (λ (o : Option (ℕ × Allowed)). option_and_then (λ own. option_and_then (if_allowed own.1) (f own.0)) o) at
    ∙ ap (λ (o : Option ℕ). option_and_then (if_allowed column.1) o) value
    ∙ ap (λ (t : Bool). if t then Some v else None) passes

values_from : (f : ℕ → Option ℕ) (columns : List (ℕ × Allowed)) (k : ℕ) → k < length columns
    → allowed_values f (drop k columns) ≡ option_and_then (λ value. option_map (λ values. value ∷ values) (allowed_values f (drop (suc k) columns))) (value_at f columns k)
values_from f [] k within = absurd (omega arith)
values_from f (c ∷ cs) zero within = refl
values_from f (c ∷ cs) (suc k) within = values_from f cs k (omega arith)

-- a column without an allowed value ends the values
pub values_end : (f : ℕ → Option ℕ) (columns : List (ℕ × Allowed)) (k : ℕ) (values : List ℕ) → k < length columns → value_at f columns k ≡ None
    → option_map (λ rest. values ++ rest) (allowed_values f (drop k columns)) ≡ None
values_end f columns k values within none =
    ap (λ (o : Option (List ℕ)). option_map (λ rest. values ++ rest) o) (values_from f columns k within ∙ ap (λ (o : Option ℕ). option_and_then (λ value. option_map (λ rest. value ∷ rest) (allowed_values f (drop (suc k) columns))) o) none)

-- one with an allowed value is the next
pub values_next : (f : ℕ → Option ℕ) (columns : List (ℕ × Allowed)) (k : ℕ) (values : List ℕ) (v : ℕ) → k < length columns → value_at f columns k ≡ Some v
    → option_map (λ rest. (values ++ v ∷ []) ++ rest) (allowed_values f (drop (k + 1) columns)) ≡ option_map (λ rest. values ++ rest) (allowed_values f (drop k columns))
values_next f columns k values v within some =
    rw (add-one k)
    (by (allowed_values f (drop (suc k) columns))
    ∙ sym (ap (λ (o : Option (List ℕ)). option_map (λ rest. values ++ rest) o) (values_from f columns k within ∙ ap (λ (o : Option ℕ). option_and_then (λ value. option_map (λ rest. value ∷ rest) (allowed_values f (drop (suc k) columns))) o) some)))
  where
    by : (rest : Option (List ℕ)) → option_map (λ rest. (values ++ v ∷ []) ++ rest) rest ≡ option_map (λ rest. values ++ rest) (option_map (λ rest. v ∷ rest) rest)
    by None = refl
    by (Some rest) = ap (λ (all : List ℕ). Some all) (append_assoc values (v ∷ []) rest)

-- after the last column the values are whole
pub values_whole : (f : ℕ → Option ℕ) (columns : List (ℕ × Allowed)) (k : ℕ) (values : List ℕ) → length columns ≤ k → option_map (λ rest. values ++ rest) (allowed_values f (drop k columns)) ≡ Some values
values_whole f columns k values past =
    ap (λ (cs : List (ℕ × Allowed)). option_map (λ rest. values ++ rest) (allowed_values f cs)) (none columns k past) ∙ ap (λ (all : List ℕ). Some all) (append-nil values)
  where
    none : (cs : List (ℕ × Allowed)) (n : ℕ) → length cs ≤ n → drop n cs ≡ []
    none [] n le = drop-nil n
    none (c ∷ cs) zero le = absurd (omega arith)
    none (c ∷ cs) (suc n) le = none cs n (omega arith)

-- values on columns are allowed there, one for each
values_allowed : (f : ℕ → Option ℕ) (columns : List (ℕ × Allowed)) (vs : List ℕ) → allowed_values f columns ≡ Some vs → (length vs ≡ length columns) × (list_all (λ own. allows own.0.1 own.1) (zip columns vs) ≡ true)
values_allowed f [] vs h = let none : [] ≡ vs = cc in (rw (← none) refl, refl)
values_allowed f (c ∷ cs) vs h =
    let parts = first_allowed c.1 (f c.0) (allowed_values f cs) vs h in
    let rest = values_allowed f cs parts.1 parts.4 in
    (rw parts.5 (omega (arith, rest.0)), rw parts.5 (and_from _ _ parts.3 rest.1))

pub are_allowed_of : (f : ℕ → Option ℕ) (columns : List (ℕ × Allowed)) (vs : List ℕ) → allowed_values f columns ≡ Some vs → ((length vs == length columns) && list_all (λ own. allows own.0.1 own.1) (zip columns vs)) ≡ true
are_allowed_of f columns vs h = let all = values_allowed f columns vs h in and_from _ _ (eq-eqb _ _ all.0) all.1

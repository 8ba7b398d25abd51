-- A file without quotes can be cut after each line feed.
use Rattle.std.proofs.Common.{◌≡◌, ◌≢◌, ◌<◌, ◌≤◌, ◌-◌, ◌||◌, ◌==◌, ◌∙◌, ◌∷◌, ◌++◌, ℕ, zero, suc, Bool, true, false, List, [], length, take, drop, Some, if◌then◌else◌, refl, sym, ap, inl, inr, lit<, arith, slice_get, get_or, EachIndex, append_assoc, Bor}
use native.Mathlib.Numerals.{unary_clauses}
use Rattle.std.proofs.lemmas.Bool.{cases_Bool}
use Rattle.std.proofs.lemmas.List.{flat_map_more}
use Rattle.std.specs.List.{flat_map}
use Rattle.std.specs.Bool.{⊤}
use Rattle.csv.specs.Machine.{next_record, is_end, step, in_field, start_field, start_record, fields_after, field_after}
use Rattle.csv.specs.Reading.{default_config, records_next, strip_bom}
use Rattle.csv.specs.declared.parser.Action.{Action}
use Rattle.csv.specs.declared.parser.Action.TheVariants as act
use Rattle.csv.specs.declared.parser.State.{State}
use Rattle.csv.specs.declared.parser.State.TheVariants as st
use Rattle.csv_records.proofs.LeftFacts.{left-next, left-none, from_end, some_or_none}
use Rattle.csv_records.specs.Left.{left_from}
use Rattle.csv_records.specs.Files.{file_records}
use Rattle.csv_records.specs.Parts.{IsPlain}

abbrev pub Plain : List ℕ → Type 0
Plain xs = (i : ℕ) → IsPlain (get_or xs i 0)

-- where the machine can stand after bytes without a quote. Between records nothing is at hand
abbrev Fits : State → List (List ℕ) → List ℕ → Type 0
Fits st.StartRecord f p = (f ≡ []) × (p ≡ [])
Fits st.AfterCr f p = (f ≡ []) × (p ≡ [])
Fits st.StartField f p = ⊤
Fits st.InField f p = ⊤
Fits st.InQuoted f p = true ≡ false
Fits st.AfterQuote f p = true ≡ false
Fits st.InEscape f p = true ≡ false
Fits st.InComment f p = true ≡ false

-- a step leads to where the machine can stand
abbrev Keeps : State × Action → List (List ℕ) → List ℕ → ℕ → Type 0
Keeps t f p c = (is_end t.1 ≡ true → Fits t.0 [] []) × (is_end t.1 ≡ false → Fits t.0 (fields_after t.1 f p) (field_after t.1 c p))

in_kept : (comma cr lf : Bool) (f : List (List ℕ)) (p : List ℕ) (c : ℕ)
    → Keeps (if comma then (st.StartField, act.EndField) else if cr || lf then (if cr then st.AfterCr else st.StartRecord, act.EndRecord) else (st.InField, act.Copy)) f p c
in_kept true cr lf f p c = (λ e. absurd (cc), λ e. tt)
in_kept false true lf f p c = (λ e. (refl, refl), λ e. absurd (cc))
in_kept false false true f p c = (λ e. (refl, refl), λ e. absurd (cc))
in_kept false false false f p c = (λ e. absurd (cc), λ e. tt)

skip_kept : (ends : Bool) (t : State × Action) (f : List (List ℕ)) (p : List ℕ) (c : ℕ) → f ≡ [] → p ≡ [] → Keeps t f p c
    → Keeps (if ends then (st.StartRecord, act.Skip) else t) f p c
skip_kept true t f p c none empty h = (λ e. absurd (cc), λ e. (none, empty))
skip_kept false t f p c none empty h = h

quote_kept : (quote : Bool) (t : State × Action) (f : List (List ℕ)) (p : List ℕ) (c : ℕ) → quote ≡ false → Keeps t f p c
    → Keeps (if quote then (st.InQuoted, act.Skip) else t) f p c
quote_kept true t f p c none h = absurd (cc)
quote_kept false t f p c none h = h

step_kept : (s : State) (c : ℕ) (f : List (List ℕ)) (p : List ℕ) → Fits s f p → (c == 34) ≡ false → Keeps (step default_config s c) f p c
step_kept st.InField c f p fits plain = in_kept (c == 44) (c == 13) (c == 10) f p c
step_kept st.StartField c f p fits plain = quote_kept (c == 34) (in_field default_config c) f p c plain (in_kept (c == 44) (c == 13) (c == 10) f p c)
step_kept st.StartRecord c f p fits plain =
    skip_kept ((c == 13) || (c == 10)) (start_field default_config c) f p c fits.0 fits.1
    (quote_kept (c == 34) (in_field default_config c) f p c plain (in_kept (c == 44) (c == 13) (c == 10) f p c))
step_kept st.AfterCr c f p fits plain =
    skip_kept (c == 10) (start_record default_config c) f p c fits.0 fits.1
    (skip_kept ((c == 13) || (c == 10)) (start_field default_config c) f p c fits.0 fits.1
    (quote_kept (c == 34) (in_field default_config c) f p c plain (in_kept (c == 44) (c == 13) (c == 10) f p c)))
step_kept st.InQuoted c f p fits plain = absurd (cc)
step_kept st.AfterQuote c f p fits plain = absurd (cc)
step_kept st.InEscape c f p fits plain = absurd (cc)
step_kept st.InComment c f p fits plain = absurd (cc)

-- the records from a state with fields and a field at hand
abbrev go : State → List (List ℕ) → List ℕ → List ℕ → List (List (List ℕ))
go s f p xs = records_next (λ s2 ys. left_from s2 (Some ys)) (next_record default_config s f p xs)

left_go : (s : State) (xs : List ℕ) → left_from s (Some xs) ≡ go s [] [] xs
left_go s xs =
    elim (some_or_none (next_record default_config s [] [] xs)) [
      | inl e ↦ left-none s xs e ∙ sym (rw e refl)
      | inr e ↦ left-next s xs e.0 e.1 ∙ sym (rw e.1 refl)
    ]

not_quote : (c : ℕ) → c ≢ 34 → (c == 34) ≡ false
not_quote c h = grind (arith)

cut : (us ys : List ℕ) (s : State) (f : List (List ℕ)) (p : List ℕ) → Fits s f p → Plain us
    → go s f p (us ++ 10 ∷ ys) ≡ go s f p (us ++ 10 ∷ []) ++ left_from st.StartRecord (Some ys)
unfolding next_record
cut [] ys st.StartRecord f p fits plain = rw (fits.0, fits.1) (sym (left_go st.StartRecord ys))
cut [] ys st.AfterCr f p fits plain = rw (fits.0, fits.1) (sym (left_go st.StartRecord ys))
cut [] ys st.StartField f p fits plain = rw (from_end default_config 1) refl
cut [] ys st.InField f p fits plain = rw (from_end default_config 1) refl
cut [] ys st.InQuoted f p fits plain = absurd (cc)
cut [] ys st.AfterQuote f p fits plain = absurd (cc)
cut [] ys st.InEscape f p fits plain = absurd (cc)
cut [] ys st.InComment f p fits plain = absurd (cc)
cut (c ∷ us) ys s f p fits plain =
    let t = step default_config s c in
    let kept = step_kept s c f p fits (not_quote c (plain zero).1) in
    let more : Plain us = λ i. plain (suc i) in
    elim (cases_Bool (is_end t.1)) [
      | inl e ↦ rw e (ap (λ (l : List (List (List ℕ))). fields_after t.1 f p ∷ l)
          (left_go t.0 (us ++ 10 ∷ ys) ∙ cut us ys t.0 [] [] (kept.0 e) more ∙ ap (λ (l : List (List (List ℕ))). l ++ left_from st.StartRecord (Some ys)) (sym (left_go t.0 (us ++ 10 ∷ [])))))
      | inr e ↦ rw e (cut us ys t.0 (fields_after t.1 f p) (field_after t.1 c p) (kept.1 e) more)
    ]

strip_ascii : (bytes : List ℕ) → Plain bytes → strip_bom bytes ≡ bytes
unfolding strip_bom
strip_ascii [] h = refl
strip_ascii (a ∷ []) h = refl
strip_ascii (a ∷ b ∷ []) h = refl
strip_ascii (a ∷ b ∷ c ∷ rest) h =
    let low : (a == 0xEF) ≡ false = grind (arith, (h zero).0) in
    rw low refl

pub plain_drop : (m : ℕ) (bytes : List ℕ) → Plain bytes → Plain (drop m bytes)
plain_drop zero bytes h = h
plain_drop (suc m) [] h = h
plain_drop (suc m) (b ∷ bs) h = plain_drop m bs (λ i. h (suc i))

plain_take : (m : ℕ) (bytes : List ℕ) → Plain bytes → Plain (take m bytes)
plain_take zero bytes h i = (lit< tt, λ e. absurd (cc))
plain_take (suc m) [] h i = h i
plain_take (suc m) (b ∷ bs) h zero = h zero
plain_take (suc m) (b ∷ bs) h (suc i) = plain_take m bs (λ k. h (suc k)) i

parted : (xs : List ℕ) (i : ℕ) → slice_get xs i ≡ Some 10 → (xs ≡ take i xs ++ 10 ∷ drop (suc i) xs) × (take (suc i) xs ≡ take i xs ++ 10 ∷ [])
parted [] i h = absurd (cc)
parted (x ∷ xs) zero h = let same : x ≡ 10 = cc in (rw same refl, rw same refl)
parted (x ∷ xs) (suc i) h = let rest = parted xs i h in (ap (λ (l : List ℕ). x ∷ l) rest.0, ap (λ (l : List ℕ). x ∷ l) rest.1)

abbrev left : List ℕ → List (List (List ℕ))
left xs = left_from st.StartRecord (Some xs)

-- after a line feed begins a file of its own
pub part_cut : (xs : List ℕ) (end : ℕ) → Plain xs → 0 < end → slice_get xs (end - 1) ≡ Some 10 → file_records xs ≡ file_records (take end xs) ++ file_records (drop end xs)
part_cut xs zero h some e = absurd (omega arith)
part_cut xs (suc i) h some e =
    let at : slice_get xs i ≡ Some 10 = simp unary_clauses at e in
    let p = parted xs i at in
    let front = strip_ascii (take (suc i) xs) (plain_take (suc i) xs h) in
    let back = strip_ascii (drop (suc i) xs) (plain_drop (suc i) xs h) in
    let whole : left xs ≡ left (take (suc i) xs) ++ left (drop (suc i) xs) =
    ap left p.0 ∙ left_go st.StartRecord (take i xs ++ 10 ∷ drop (suc i) xs)
    ∙ cut (take i xs) (drop (suc i) xs) st.StartRecord [] [] (refl, refl) (plain_take i xs h)
    ∙ ap (λ (l : List (List (List ℕ))). l ++ left (drop (suc i) xs)) (sym (left_go st.StartRecord (take i xs ++ 10 ∷ [])) ∙ ap left (sym p.1)) in
    rw (strip_ascii xs h, front, back) whole

pub plain_each : (bytes : List ℕ) → EachIndex bytes (λ k. IsPlain (get_or bytes k 0)) → Plain bytes
plain_each [] h i = (lit< tt, λ e. absurd (cc))
plain_each (b ∷ bs) h zero = h zero (omega arith)
plain_each (b ∷ bs) h (suc i) = plain_each bs (λ k low. h (suc k) (omega arith)) i

pub end_within : (xs : List ℕ) (end : ℕ) → 0 < end → slice_get xs (end - 1) ≡ Some 10 → end ≤ length xs
end_within [] end some h = absurd (cc)
end_within (y ∷ ys) zero some h = absurd (omega arith)
end_within (y ∷ ys) (suc zero) some h = omega arith
end_within (y ∷ ys) (suc (suc i)) some h =
    let behind : slice_get ys i ≡ Some 10 = simp unary_clauses at h in
    let k = end_within ys (suc i) (omega arith) (simp unary_clauses behind) in
    omega arith

pub one_more : (parts : List (Bor (List ℕ))) (part : Bor (List ℕ)) (rest back : List ℕ) (file : List (List (List ℕ))) → flat_map (λ p. file_records p.now) parts ++ file_records rest ≡ file
    → file_records rest ≡ file_records part.now ++ file_records back → flat_map (λ p. file_records p.now) (parts ++ part ∷ []) ++ file_records back ≡ file
one_more parts part rest back file whole split =
    ap (λ (l : List (List (List ℕ))). l ++ file_records back) (sym (flat_map_more (λ (p : Bor (List ℕ)). file_records p.now) [] parts part))
    ∙ append_assoc (flat_map (λ (p : Bor (List ℕ)). file_records p.now) parts) (file_records part.now) (file_records back)
    ∙ ap (λ (l : List (List (List ℕ))). flat_map (λ (p : Bor (List ℕ)). file_records p.now) parts ++ l) (sym split) ∙ whole

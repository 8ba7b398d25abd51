-- What one read of a reader does to the records that it has left.
use Rattle.std.proofs.Common.{◌≡◌, ◌+◌, ◌<◌, ◌⊎◌, ◌∷◌, ◌++◌, ◌∙◌, ℕ, zero, suc, Bool, true, false, List, [], length, Option, Some, None, if◌then◌else◌, refl, sym, ap, inl, inr, arith, add-one, Bor}
use Rattle.std.proofs.lemmas.Bool.{cases_Bool}
use Rattle.csv.specs.Machine.{Read, next_record, ends_at_end, is_end, step, fields_after, field_after}
use Rattle.csv.specs.Reading.{ReadRecord, Reached, Ready, default_config, has_failed, reader_config, reader_trim, records_from, source_of}
use Rattle.csv.specs.declared.parser.Config.{Config}
use Rattle.csv.specs.declared.parser.State.{State}
use Rattle.csv.specs.declared.parser.State.TheVariants as st
use Rattle.csv.specs.declared.reader.Reader.{Reader}
use Rattle.csv.specs.declared.reader.Trim.TheVariants as trim
use Rattle.csv.proofs.ReadFacts.{rows-end, rows-more}
use Rattle.csv_records.specs.Left.{left_from, left_of, Streams}

pub if_some : (b : Bool) (r q : Read) (o : Option Read) → (if b then Some r else o) ≡ Some q → (r ≡ q) ⊎ (o ≡ Some q)
if_some true r q o e = inl (cc e)
if_some false r q o e = inr e

pub some_or_none : (o : Option Read) → (o ≡ None) ⊎ ((p : Read) × (o ≡ Some p))
some_or_none None = inl refl
some_or_none (Some p) = inr (p, refl)

-- a record takes a byte, or is that of an end
rest_shorter : (cfg : Config) (s : State) (f : List (List ℕ)) (p xs : List ℕ) (q : Read) → next_record cfg s f p xs ≡ Some q
    → (length q.2 < length xs) ⊎ ((xs ≡ []) × (q.1 ≡ st.StartRecord) × (q.2 ≡ []))
unfolding next_record
rest_shorter cfg s f p [] q e =
    elim (if_some (ends_at_end s) (f ++ (p ∷ []), st.StartRecord, []) q None e) [
      | inl h ↦ inr (refl, sym (ap (λ (x : Read). x.1) h), sym (ap (λ (x : Read). x.2) h))
      | inr h ↦ cc h
    ]
rest_shorter cfg s f p (c ∷ rest) q e =
    elim (if_some (is_end (step cfg s c).1) (fields_after (step cfg s c).1 f p, (step cfg s c).0, rest) q (next_record cfg (step cfg s c).0 (fields_after (step cfg s c).1 f p) (field_after (step cfg s c).1 c p) rest) e) [
      | inl h ↦ let k = ap (λ (x : Read). length x.2) h in inl (omega arith)
      | inr h ↦ elim (rest_shorter cfg (step cfg s c).0 (fields_after (step cfg s c).1 f p) (field_after (step cfg s c).1 c p) rest q h) [
        | inl k ↦ inl (omega arith)
        | inr k ↦ let l = ap (λ (x : List ℕ). length x) k.2 in inl (omega arith)
      ]
    ]

pub from_end : (cfg : Config) (n : ℕ) → records_from cfg n st.StartRecord [] ≡ []
unfolding records_from next_record
from_end cfg zero = refl
from_end cfg (suc n) = refl

-- any number of turns past the length gives the same records
pub turns-enough : (cfg : Config) (n m : ℕ) (s : State) (xs : List ℕ) → length xs < n → length xs < m → records_from cfg n s xs ≡ records_from cfg m s xs
unfolding records_from
turns-enough cfg zero m s xs h k = absurd (omega arith)
turns-enough cfg (suc n) zero s xs h k = absurd (omega arith)
turns-enough cfg (suc n) (suc m) s xs h k =
    elim (some_or_none (next_record cfg s [] [] xs)) [
      | inl e ↦ rw e refl
      | inr e ↦ rw e.1 (elim (rest_shorter cfg s [] [] xs e.0 e.1) [
        | inl l ↦ ap (λ (t : List (List (List ℕ))). e.0.0 ∷ t) (turns-enough cfg n m e.0.1 e.0.2 (omega arith) (omega arith))
        | inr l ↦ rw (l.1, l.2) (rw (from_end cfg n, from_end cfg m) refl)
      ])
    ]

-- the records that are left begin with the next one
pub left-next : (s : State) (xs : List ℕ) (p : Read) → next_record default_config s [] [] xs ≡ Some p
    → left_from s (Some xs) ≡ p.0 ∷ left_from p.1 (Some p.2)
unfolding records_from
left-next s xs p e =
    rw (add-one, e) (ap (λ (t : List (List (List ℕ))). p.0 ∷ t) (elim (rest_shorter default_config s [] [] xs p e) [
      | inl l ↦ turns-enough default_config (length xs) (length p.2 + 1) p.1 p.2 l (omega arith)
      | inr l ↦ rw (l.1, l.2) (rw (from_end default_config (length xs), from_end default_config 1) refl)
    ]))

pub left-none : (s : State) (xs : List ℕ) → next_record default_config s [] [] xs ≡ None → left_from s (Some xs) ≡ []
unfolding records_from
left-none s xs e = rw (add-one, e) refl

pick_some : (b : Bool) (xs ys : List ℕ) → (y : List ℕ) × ((if b then Some xs else Some ys) ≡ Some y)
pick_some true xs ys = (xs, refl)
pick_some false xs ys = (ys, refl)

pub source_known : (a : Reader (Bor (List ℕ))) → has_failed a ≡ false → (y : List ℕ) × (source_of (λ (s : Bor (List ℕ)). Some s.now) a ≡ Some y)
source_known a h = rw h (pick_some _ _ _)

left-step : (s s2 : State) (xs ys : List ℕ) (p : Read) (f : List (List ℕ)) → next_record default_config s [] [] xs ≡ Some p
    → f ≡ p.0 → p.1 ≡ s2 → p.2 ≡ ys → left_from s (Some xs) ≡ f ∷ left_from s2 (Some ys)
left-step s s2 xs ys p f next fields state rest = rw (fields, ← state, ← rest) (left-next s xs p next)

-- a read that found a record
pub left-taken : (a b : Reader (Bor (List ℕ))) (f : List (List ℕ)) → has_failed a ≡ false → reader_config a ≡ default_config
    → ReadRecord (λ s. Some s.now) a b true f → left_of a ≡ f ∷ left_of b
unfolding Reached
left-taken a b f alive config r =
    let (y, source) = source_known a alive in
    let (z, after, reached) = rows-more (λ (s : Bor (List ℕ)). Some s.now) a b f default_config a.state y y [] config source (refl, refl) r in
    let (p, next, fields, ended) = reached in
    rw (source, after) (left-step a.state b.state y z p f next fields ended.0 ended.1)

-- a read that found none
pub left-ended : (a b : Reader (Bor (List ℕ))) (f : List (List ℕ)) → has_failed a ≡ false → reader_config a ≡ default_config
    → ReadRecord (λ s. Some s.now) a b false f → left_of a ≡ []
left-ended a b f alive config r =
    let (y, source) = source_known a alive in
    rw source (left-none a.state y (rows-end (λ (s : Bor (List ℕ)). Some s.now) a b f default_config y config source r))

-- a reader that failed has none left
pub left-failed : (a : Reader (Bor (List ℕ))) → has_failed a ≡ true → left_of a ≡ []
left-failed a h = rw h refl

-- what one read leaves of the records
pub left-read : (a b : Reader (Bor (List ℕ))) (found : Bool) (f : List (List ℕ)) → Streams a
    → (has_failed a ≡ true → found ≡ false)
    → (reader_trim a ≡ trim.None → Ready a → ReadRecord (λ s. Some s.now) a b found f)
    → (found ≡ true → left_of a ≡ f ∷ left_of b) × (found ≡ false → left_of a ≡ [])
left-read a b found f inv failed reads =
    elim (cases_Bool (has_failed a)) [
      | inl dead ↦ (λ e. absurd (let no : true ≡ false = sym e ∙ failed dead in cc no), λ e. left-failed a dead)
      | inr alive ↦ elim inv [
        | inl dead ↦ absurd (let no : true ≡ false = sym dead ∙ alive in cc no)
        | inr good ↦ (λ e. left-taken a b f alive good.2 (rw e at (reads good.0 good.3)), λ e. left-ended a b f alive good.2 (rw e at (reads good.0 good.3)))
      ]
    ]

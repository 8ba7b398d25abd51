-- Records of flushes: what they tell where a flush is added, and what is counted of them.
use Rattle.std.proofs.Common.{◌≡◌, sym, ◌∙◌, ap, subst, refl, ℕ, zero, suc, ◌+◌, ◌<◌, ◌≤◌, List, [], ◌∷◌, ◌++◌, Bool, true, false, cond, if◌then◌else◌, ◌&&◌, ◌||◌, Some, None, Option, arith, inl, inr, drop, length, take, set, slice_get, get_or, All, add-one}
use Rattle.std.specs.Prelude.{count_by, nat_lt, option_map}
use Rattle.std.specs.List.{list_any}
use Rattle.std.proofs.Math.ListN.{drop_of_length-le}
use Rattle.std.proofs.Math.Seq.{take-suc}
use Rattle.std.proofs.lemmas.Bool.{cases_Bool, lt-ltb, ltb-false, ltb-true}
use Rattle.std.proofs.lemmas.Bool.Decides.{nat_tests}
use Rattle.std.proofs.lemmas.List.{drop-append-le, length-append, take-append-drop}
use Rattle.std.proofs.lemmas.List.Elements.{All-nil, All-push, All-set, All-weaker}
use Rattle.std.proofs.lemmas.List.Sums.{sum_by-append, sum_by-cons, sum_by-set, sum_by_push}
use Rattle.std.proofs.lemmas.Option.{get_or_from_slice_get, slice_get_within}
use Rattle.olap_meaning.specs.declared.regions.Region.{Region}
use Rattle.cache_flush.specs.Records.{AreRecordsOf, AreWithin, IsKept, RecordOf, count_in, count_of, is_after, region_at}

-- ---- a flush more

-- one element more that passes or does not
count_push : {X : Type 0} (p : X → Bool) (xs : List X) (x : X) → count_by p (xs ++ x ∷ []) ≡ count_by p xs + cond (p x) 1 0
count_push p xs x = sum_by_push (λ y. cond (p y) 1 0) xs x

counted_added : (test : Region → Bool) (since flush : ℕ) (item added : RecordOf) → added.region ≡ item.region → added.flushes ≡ item.flushes ++ flush ∷ []
    → count_of test since added ≡ count_of test since item + cond (test item.region && is_after since flush) 1 0
counted_added test since flush item added region flushes = rw (region, flushes) (by (test item.region))
  where
    by : (b : Bool) → (if b then count_by (is_after since) (item.flushes ++ flush ∷ []) else 0) ≡ (if b then count_by (is_after since) item.flushes else 0) + cond (b && is_after since flush) 1 0
    by true = count_push (is_after since) item.flushes flush
    by false = refl

module _ (regions : List Region) (records : List RecordOf) (place : ℕ) (item added : RecordOf) (inside : place < length records) (is : get_or records place item ≡ item) (region : added.region ≡ item.region) (flushes : added.flushes ≡ item.flushes ++ (length regions + 1) ∷ []) where
  counted_set : (test : Region → Bool) (since : ℕ) → count_in test since (set records place added) ≡ count_in test since records + cond (test item.region && is_after since (length regions + 1)) 1 0
  counted_set test since =
      let sums = sum_by-set (count_of test since) records place added item inside in
      let had : count_of test since (get_or records place item) ≡ count_of test since item = ap (count_of test since) is in
      let more = counted_added test since (length regions + 1) item added region flushes in
      omega (arith, sums, had, more)

  pub records_more : AreRecordsOf regions records → AreRecordsOf (regions ++ item.region ∷ []) (set records place added)
  records_more are test since =
      elim (cases_Bool (nat_lt (length regions) since)) [
        | inl past ↦
            let few : length (regions ++ item.region ∷ []) ≤ since = (let l = length-append regions (item.region ∷ []) in let p = ltb-true' past in omega (arith, l, p)) in
            let none : drop since (regions ++ item.region ∷ []) ≡ [] = drop_of_length-le (regions ++ item.region ∷ []) few in
            let none_before : drop since regions ≡ [] = drop_of_length-le regions (let p = ltb-true' past in omega (arith, p)) in
            let before : count_in test since records ≡ 0 = sym (are test since) ∙ ap (count_by test) none_before in
            let late : is_after since (length regions + 1) ≡ false = not_above since (length regions) (ltb-true' past) in
            let set_is = counted_set test since in
            let zero_more : cond {A = ℕ} (test item.region && is_after since (length regions + 1)) 1 0 ≡ 0 = rw late (nothing (test item.region)) in
            ap (count_by test) none ∙ sym (set_is ∙ sum_zero before zero_more)
        | inr within ↦
            let le : since ≤ length regions = ltb-false (length regions) since within in
            let late : is_after since (length regions + 1) ≡ true = lt-ltb since (length regions + 1) (omega (arith, le)) in
            let set_is = counted_set test since in
            let one : ℕ = cond (test item.region) 1 0 in
            let gained : cond {A = ℕ} (test item.region && is_after since (length regions + 1)) 1 0 ≡ one = rw late (ap (λ (b : Bool). cond {A = ℕ} b 1 0) (all (test item.region))) in
            let told : count_by test (drop since (regions ++ item.region ∷ [])) ≡ count_by test (drop since regions) + one =
            ap (count_by test) (drop-append-le since regions (item.region ∷ []) le) ∙ count_push test (drop since regions) item.region in
            let had = are test since in
            omega (arith, told, had, set_is, gained)
      ]
    where
      ltb-true' : nat_lt (length regions) since ≡ true → length regions < since
      ltb-true' h = ltb-true (length regions) since h

      not_above : (a n : ℕ) → n < a → nat_lt a (n + 1) ≡ false
      not_above a n l = grind (arith, nat_tests)

      nothing : (b : Bool) → cond {A = ℕ} (b && false) 1 0 ≡ 0
      nothing true = refl
      nothing false = refl

      all : (b : Bool) → (b && true) ≡ b
      all true = refl
      all false = refl

      sum_zero : {a b : ℕ} → a ≡ 0 → b ≡ 0 → a + b ≡ 0
      sum_zero x y = omega (arith, x, y)

-- the flushes of the records stay within what was counted
pub within_more : (records : List RecordOf) (place count : ℕ) (item added : RecordOf) → place < length records → get_or records place item ≡ item → added.flushes ≡ item.flushes ++ (count + 1) ∷ [] → AreWithin count records → AreWithin (count + 1) (set records place added)
within_more records place count item added inside is flushes within =
    All-set (λ r. All (λ f. f ≤ count + 1) r.flushes) records place added
    (rw flushes (All-push (λ f. f ≤ count + 1) item.flushes (count + 1)
    (All-weaker (λ f. f ≤ count) (λ f. f ≤ count + 1) (λ f le. omega (arith, le)) item.flushes (subst (λ (r : RecordOf). All (λ f. f ≤ count) r.flushes) is (within place item inside))) (omega arith)))
    (All-weaker (λ (r : RecordOf). All (λ f. f ≤ count) r.flushes) (λ (r : RecordOf). All (λ f. f ≤ count + 1) r.flushes) (λ r all. All-weaker (λ f. f ≤ count) (λ f. f ≤ count + 1) (λ f le. omega (arith, le)) r.flushes all) records within)

-- ---- records that tell the same

pub kept_refl : (records : List RecordOf) → IsKept records records
kept_refl records = record { counted = λ test since. refl; within = λ count h. h }

pub kept_trans : (before between after : List RecordOf) → IsKept before between → IsKept between after → IsKept before after
kept_trans before between after one other = record {
  counted = λ test since. other.counted test since ∙ one.counted test since;
  within = λ count h. other.within count (one.within count h);
}

nothing_after : (test : Region → Bool) (since : ℕ) (item : RecordOf) → item.flushes ≡ [] → count_of test since item ≡ 0
nothing_after test since item none = rw none (by (test item.region))
  where
    by : (b : Bool) → cond {A = ℕ} b 0 0 ≡ 0
    by true = refl
    by false = refl

-- a item more that was not flushed yet
pub kept_push : (records : List RecordOf) (item : RecordOf) → item.flushes ≡ [] → IsKept records (records ++ item ∷ [])
kept_push records item none = record {
  counted = λ test since.
      let sums = sum_by_push (count_of test since) records item in
      let last = nothing_after test since item none in
      omega (arith, sums, last);
  within = λ count h. All-push (λ r. All (λ f. f ≤ count) r.flushes) records item h (rw none (All-nil (λ f. f ≤ count)));
}

-- a item whose region and flushes stay
pub kept_set : (records : List RecordOf) (place : ℕ) (item changed : RecordOf) → place < length records → get_or records place item ≡ item → changed.region ≡ item.region → changed.flushes ≡ item.flushes → IsKept records (set records place changed)
kept_set records place item changed inside is region flushes = record {
  counted = λ test since.
      let sums = sum_by-set (count_of test since) records place changed item inside in
      let had : count_of test since (get_or records place item) ≡ count_of test since item = ap (count_of test since) is in
      let same : count_of test since changed ≡ count_of test since item = rw (region, flushes) refl in
      omega (arith, sums, had, same);
  within = λ count h. All-set (λ r. All (λ f. f ≤ count) r.flushes) records place changed (rw flushes (subst (λ (r : RecordOf). All (λ f. f ≤ count) r.flushes) is (h place item inside))) h;
}

pub kept_records : (regions : List Region) (before after : List RecordOf) → IsKept before after → AreRecordsOf regions before → AreRecordsOf regions after
kept_records regions before after keeps are test since = are test since ∙ sym (keeps.counted test since)

-- ---- what is counted

some_more : (a b : ℕ) → nat_lt 0 (a + b) ≡ (nat_lt 0 a || nat_lt 0 b)
some_more a b = grind (arith, nat_tests)

-- some element passes where their count is more than 0
pub any_counted : {X : Type 0} (p : X → Bool) (xs : List X) → list_any p xs ≡ nat_lt 0 (count_by p xs)
any_counted p [] = refl
any_counted p (x ∷ xs) =
    ap (λ (b : Bool). p x || b) (any_counted p xs) ∙ by (p x) (count_by p xs)
    ∙ ap (λ (n : ℕ). nat_lt 0 n) (sym (sum_by-cons (λ y. cond (p y) 1 0) x xs))
  where
    by : (b : Bool) (n : ℕ) → (b || nat_lt 0 n) ≡ nat_lt 0 (cond b 1 0 + n)
    by true n = grind (arith, nat_tests)
    by false n = grind (arith, nat_tests)

-- a record that was not flushed after a place counts nothing
pub none_after : (test : Region → Bool) (since : ℕ) (item : RecordOf) → list_any (is_after since) item.flushes ≡ false → count_of test since item ≡ 0
none_after test since item none =
    let few : count_by (is_after since) item.flushes ≤ 0 = ltb-false 0 (count_by (is_after since) item.flushes) (sym (any_counted (is_after since) item.flushes) ∙ none) in
    let nothing : count_by (is_after since) item.flushes ≡ 0 = omega (arith, few) in
    rw nothing (by (test item.region))
  where
    by : (b : Bool) → cond {A = ℕ} b 0 0 ≡ 0
    by true = refl
    by false = refl

any_of : (test : Region → Bool) (since : ℕ) (item : RecordOf) → (list_any (is_after since) item.flushes && test item.region) ≡ nat_lt 0 (count_of test since item)
any_of test since item = ap (λ (b : Bool). b && test item.region) (any_counted (is_after since) item.flushes) ∙ by (test item.region) (count_by (is_after since) item.flushes)
  where
    by : (b : Bool) (n : ℕ) → (nat_lt 0 n && b) ≡ nat_lt 0 (if b then n else 0)
    by true zero = refl
    by true (suc n) = grind (arith, nat_tests)
    by false zero = refl
    by false (suc n) = grind (arith, nat_tests)

any_in : (test : Region → Bool) (since : ℕ) (records : List RecordOf) → list_any (λ item. list_any (is_after since) item.flushes && test item.region) records ≡ nat_lt 0 (count_in test since records)
any_in test since [] = refl
any_in test since (r ∷ rs) =
    rw (any_of test since r, any_in test since rs) (sym (some_more (count_of test since r) (count_in test since rs)))
    ∙ ap (λ (n : ℕ). nat_lt 0 n) (sym (sum_by-cons (count_of test since) r rs))

-- some region after a place passes just where the records tell it
pub any_told : (regions : List Region) (records : List RecordOf) (test : Region → Bool) (since : ℕ) → AreRecordsOf regions records
    → list_any (λ item. list_any (is_after since) item.flushes && test item.region) records ≡ list_any test (drop since regions)
any_told regions records test since are =
    any_in test since records ∙ ap (λ (n : ℕ). nat_lt 0 n) (sym (are test since)) ∙ sym (any_counted test (drop since regions))

-- the records so far tell of no more
pub counted_next : (test : Region → Bool) (since : ℕ) (records : List RecordOf) (i : ℕ) (item : RecordOf) → i < length records → item ≡ get_or records i item → count_in test since (take (i + 1) records) ≡ count_in test since (take i records) + count_of test since item
counted_next test since records i item inside is =
    ap (count_in test since) (ap (λ (n : ℕ). take n records) (add-one i) ∙ take-suc records i item inside) ∙ sum_by_push (count_of test since) (take i records) (get_or records i item)
    ∙ ap (λ (r : RecordOf). count_in test since (take i records) + count_of test since r) (sym is)

pub counted_within : (test : Region → Bool) (since : ℕ) (records : List RecordOf) (i : ℕ) → count_in test since (take i records) ≤ count_in test since records
counted_within test since records i =
    let parts = sum_by-append (count_of test since) (take i records) (drop i records) in
    let whole : count_in test since (take i records ++ drop i records) ≡ count_in test since records = ap (count_in test since) (take-append-drop i records) in
    omega (arith, parts, whole)

-- ---- the record of a region

pub at_region : (records : List RecordOf) (place : ℕ) (region : Region) → region_at records place ≡ Some region → (item : RecordOf) × (slice_get records place ≡ Some item) × (item.region ≡ region)
at_region records place region at = by (slice_get records place) refl at
  where
    by : (o : Option RecordOf) → slice_get records place ≡ o → option_map (λ (item : RecordOf). item.region) o ≡ Some region → (item : RecordOf) × (slice_get records place ≡ Some item) × (item.region ≡ region)
    by None here is = absurd (cc)
    by (Some item) here is = (item, here, cc)

-- what is read at its place
pub read_at : (records : List RecordOf) (place : ℕ) (item read : RecordOf) → slice_get records place ≡ Some item → read ≡ get_or records place read → (place < length records) × (item ≡ read)
read_at records place item read at is = (slice_get_within records place item at, sym (get_or_from_slice_get records place item read at) ∙ sym is)

-- and stands there where it is written
pub set_at : (records : List RecordOf) (place : ℕ) (item changed : RecordOf) → slice_get records place ≡ Some item → slice_get (set records place changed) place ≡ Some changed
set_at [] place item changed at = absurd (cc)
set_at (r ∷ rs) zero item changed at = refl
set_at (r ∷ rs) (suc place) item changed at = set_at rs place item changed at

-- a record more stands at the place after the others
pub region_pushed : (records : List RecordOf) (item : RecordOf) → region_at (records ++ item ∷ []) (length records) ≡ Some item.region
region_pushed [] item = refl
region_pushed (r ∷ rs) item = region_pushed rs item

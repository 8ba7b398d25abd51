-- Changes of lists, key after key.
use Rattle.std.proofs.Common.{◌≡◌, ◌∙◌, ◌+◌, ◌<◌, ◌≤◌, ℕ, suc, Bool, true, false, not, List, refl, ap, arith, add-one, inl, inr, nat_eq}
use Rattle.std.specs.Prelude.{◌==◌, ◌&&◌, ◌||◌, nat_lt}
use Rattle.std.proofs.lemmas.Bool.{cases_Bool, eq-eqb, lt-ltb}
use Rattle.olap_meaning.specs.declared.cells.Header.{Header}
use Rattle.olap_meaning.specs.Covering.{among}
use Rattle.segment_index.specs.Grouping.{IsAdded, IsReleased, IsRemoved, IsReserved, IsStill, loads_at, one, places_at}
use Rattle.segment_index.specs.Keys.{key_at, tally}
use Rattle.segment_index.proofs.KeyFacts.{tally_more}

abbrev Groups : Type 0
Groups = List (ℕ × (List ℕ × ℕ))

-- ---- for any counts

module _ (count : ℕ → ℕ) (before between after : Groups) where
  -- what is reserved and given back leaves all as it was
  pub given_back : IsReserved count before between → IsReleased count between after → IsStill before after
  given_back reserved released = record {
    loads = λ q. released.loads q ∙ reserved.loads q;
    places = λ q. let more = reserved.places q in let less = released.places q in omega (arith, more, less);
  }

  pub reserved_still : IsReserved count before between → IsStill between after → IsReserved count before after
  reserved_still reserved still = record {
    loads = λ q. still.loads q ∙ reserved.loads q;
    places = λ q. still.places q ∙ reserved.places q;
  }

-- what is reserved is there
pub enough : (count : ℕ → ℕ) (before after : Groups) → IsReserved count before after → (q : ℕ) → count q ≤ places_at after q
enough count before after reserved q = let more = reserved.places q in omega (arith, more)

-- ---- one key more

next_is : (sizes : ℕ → ℕ) (q : ℕ) (header : Header) (number : ℕ) → tally sizes q header (number + 1) ≡ tally sizes q header number + one (key_at sizes header number) q
next_is sizes q header number =
    ap (λ n. tally sizes q header n) (add-one number) ∙ by (nat_eq (key_at sizes header number) q) refl
  where
    by : (b : Bool) → nat_eq (key_at sizes header number) q ≡ b → tally sizes q header (suc number) ≡ tally sizes q header number + one (key_at sizes header number) q
    by true same = rw same (omega arith)
    by false other = rw other (omega arith)

-- a place is needed for each key that comes
pub needs_place : (sizes : ℕ → ℕ) (header : Header) (number : ℕ) (groups old : Groups) (all : ℕ) → number < all → ((q : ℕ) → tally sizes q header all ≤ places_at old q)
    → ((q : ℕ) → places_at groups q + tally sizes q header number ≡ places_at old q) → 0 < places_at groups (key_at sizes header number)
needs_place sizes header number groups old all below room taken =
    let key = key_at sizes header number in
    let next : tally sizes key header (number + 1) ≡ tally sizes key header number + one key key = next_is sizes key header number in
    let its : one key key ≡ 1 = rw (eq-eqb key key refl) refl in
    let more = tally_more sizes key header (number + 1) all (omega (arith, below)) in
    let had = room key in
    let here = taken key in
    omega (arith, next, its, more, had, here)

module _ (sizes : ℕ → ℕ) (header : Header) (number : ℕ) (before between after : Groups) where
  key : ℕ
  key = key_at sizes header number

  either : (b t l o : Bool) → ((b && l) || ((t && l) || o)) ≡ (((b || t) && l) || o)
  either true t true o = refl
  either true t false o = elim (cases_Bool t) [ inl is ↦ rw is refl | inr is ↦ rw is refl ]
  either false t l o = refl

  neither : (b t l o : Bool) → (not (b && l) && (not (t && l) && o)) ≡ (not ((b || t) && l) && o)
  neither true t true o = refl
  neither true t false o = elim (cases_Bool t) [ inl is ↦ rw is refl | inr is ↦ rw is refl ]
  neither false t l o = refl

  -- a key more is counted where it is one of those before, or this one
  counted : (q : ℕ) → nat_lt 0 (tally sizes q header (number + 1)) ≡ (nat_lt 0 (one (key_at sizes header number) q) || nat_lt 0 (tally sizes q header number))
  counted q = ap (λ n. nat_lt 0 (tally sizes q header n)) (add-one number) ∙ by (nat_eq (key_at sizes header number) q) refl
    where
      by : (b : Bool) → nat_eq (key_at sizes header number) q ≡ b → nat_lt 0 (tally sizes q header (suc number)) ≡ (nat_lt 0 (one (key_at sizes header number) q) || nat_lt 0 (tally sizes q header number))
      by true same = rw same (lt-ltb 0 (suc (tally sizes q header number)) (omega arith))
      by false other = rw other refl

  pub reserved_next : IsReserved (λ q. tally sizes q header number) before between → IsReserved (one (key_at sizes header number)) between after → IsReserved (λ q. tally sizes q header (number + 1)) before after
  reserved_next had more = record {
    loads = λ q. more.loads q ∙ had.loads q;
    places = λ q. let a = had.places q in let b = more.places q in let n = next_is sizes q header number in omega (arith, a, b, n);
  }

  pub released_next : IsReleased (λ q. tally sizes q header number) before between → IsReleased (one (key_at sizes header number)) between after → IsReleased (λ q. tally sizes q header (number + 1)) before after
  released_next had less = record {
    loads = λ q. less.loads q ∙ had.loads q;
    places = λ q. let a = had.places q in let b = less.places q in let n = next_is sizes q header number in omega (arith, a, b, n);
  }

  module _ (load : ℕ) where
    pub added_next : IsAdded (λ q. tally sizes q header number) load before between → IsAdded (one (key_at sizes header number)) load between after → IsAdded (λ q. tally sizes q header (number + 1)) load before after
    added_next had more = record {
      loads = λ q n. more.loads q n ∙ rw (had.loads q n, counted q) (either (nat_lt 0 (one (key_at sizes header number) q)) (nat_lt 0 (tally sizes q header number)) (load == n) (among (loads_at before q) n));
      places = λ q. let a = had.places q in let b = more.places q in let n = next_is sizes q header number in omega (arith, a, b, n);
    }

    pub removed_next : IsRemoved (λ q. tally sizes q header number) load before between → IsRemoved (one (key_at sizes header number)) load between after → IsRemoved (λ q. tally sizes q header (number + 1)) load before after
    removed_next had less = record {
      loads = λ q n. less.loads q n ∙ rw (had.loads q n, counted q) (neither (nat_lt 0 (one (key_at sizes header number) q)) (nat_lt 0 (tally sizes q header number)) (load == n) (among (loads_at before q) n));
      places = λ q. less.places q ∙ had.places q;
    }

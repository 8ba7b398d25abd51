-- The Starts of a look, one after another.
use Rattle.std.proofs.Common.{◌≡◌, refl, sym, ◌∙◌, ap, subst, ℕ, zero, suc, ◌+◌, ◌<◌, List, [], ◌∷◌, ◌++◌, append_assoc, length, map, filter, map-id, take, get_or, false, Some, slice_get, option_map, arith}
use Rattle.std.proofs.lemmas.List.{append-nil, map_push, take-map}
use Rattle.std.proofs.lemmas.Option.{slice_get-map, slice_get_read}
use Rattle.olap_meaning.specs.declared.cells.Header.{Header}
use Rattle.olap_meaning.specs.declared.tables.Setting.{Setting}
use Rattle.olap_meaning.specs.Covering.{among}
use Rattle.olap_meaning.specs.History.{Entry}
use Rattle.olap_meaning.specs.Legal.{LegalStep}
use Rattle.olap_meaning.specs.declared.cells.Cell.{Cell}
use Rattle.olap_meaning.specs.declared.cells.Who.{Who}
use Rattle.olap_meaning.proofs.Lists.{take_step}
use Rattle.cache_manager.specs.declared.starts.Planned.{Planned}
use Rattle.history_core.specs.Cache.{CacheOf}
use Rattle.load_sharing.specs.Flights.{FlightOf, numbers_of}
use Rattle.cache_manager.specs.Plans.{AreLegalSteps, AreNew, ArePrepared, IsPrepared, flight_for}
use Rattle.segment_header.specs.Widening.{Allowing}
use Rattle.history_core.specs.Groups.{alike}

-- the step at a place is legal after those before it
pub step_at : (setting : Setting) (history steps : List Entry) (k : ℕ) (entry : Entry) → AreLegalSteps setting history steps → slice_get steps k ≡ Some entry → LegalStep setting (history ++ take k steps) entry
step_at setting history [] k entry legal at = absurd (cc)
step_at setting history (first ∷ rest) zero entry legal at =
    let same : first ≡ entry = cc in
    subst (λ (xs : List Entry). LegalStep setting xs entry) (sym (append-nil history)) (subst (λ (e : Entry). LegalStep setting history e) same legal.0)
step_at setting history (first ∷ rest) (suc k) entry legal at =
    subst (λ (xs : List Entry). LegalStep setting xs entry) (append_assoc history (first ∷ []) (take k rest)) (step_at setting (history ++ first ∷ []) rest k entry legal.1 at)

-- the step of what is at a place of a list, after those of the items before it
pub next_legal :
    {A : Type 0} (setting : Setting) (history : List Entry) (step : A → Entry) (all front : List A) (x : A) → AreLegalSteps setting history (map step all) → map (λ y. y) front ≡ take (length front) all → length front < length all → x ≡ get_or all (length front) x
    → LegalStep setting (history ++ map step front) (step x)
next_legal setting history step all front x legal so_far within at =
    let there : slice_get (map step all) (length front) ≡ Some (step x) = slice_get-map step all (length front) ∙ ap (option_map step) (slice_get_read all (length all) (length front) x refl within at) in
    let fronts : take (length front) (map step all) ≡ map step front = take-map step (length front) all ∙ ap (map step) (sym so_far ∙ map-id front) in
    subst (λ (xs : List Entry). LegalStep setting (history ++ xs) (step x)) fronts (step_at setting history (map step all) (length front) (step x) legal there)

-- the number at a place is new after those before it
new_at : (before numbers : List ℕ) (k n : ℕ) → AreNew before numbers → slice_get numbers k ≡ Some n → among (before ++ take k numbers) n ≡ false
new_at before [] k n new at = absurd (cc)
new_at before (m ∷ ms) zero n new at =
    let same : m ≡ n = cc in
    ap (λ (xs : List ℕ). among xs n) (append-nil before) ∙ ap (among before) (sym same) ∙ new.0
new_at before (m ∷ ms) (suc k) n new at = ap (λ (xs : List ℕ). among xs n) (sym (append_assoc before (m ∷ []) (take k ms))) ∙ new_at (before ++ m ∷ []) ms k n new.1 at

pub next_new :
    {A : Type 0} (before : List ℕ) (number : A → ℕ) (all front : List A) (x : A) → AreNew before (map number all) → map (λ y. y) front ≡ take (length front) all → length front < length all → x ≡ get_or all (length front) x
    → among (before ++ map number front) (number x) ≡ false
next_new before number all front x new so_far within at =
    let there : slice_get (map number all) (length front) ≡ Some (number x) = slice_get-map number all (length front) ∙ ap (option_map number) (slice_get_read all (length all) (length front) x refl within at) in
    let fronts : take (length front) (map number all) ≡ map number front = take-map number (length front) all ∙ ap (map number) (sym so_far ∙ map-id front) in
    subst (λ (xs : List ℕ). among (before ++ xs) (number x) ≡ false) fronts (new_at before (map number all) (length front) (number x) new there)

-- the numbers in flight, with those of loads that were started
pub numbers_started : (place : ℕ) (flights : List FlightOf) (plans : List Planned) → numbers_of (flights ++ map (λ p. flight_for place p.flight) plans) ≡ numbers_of flights ++ map (λ p. p.flight.load) plans
numbers_started place [] [] = refl
numbers_started place [] (p ∷ ps) = ap (λ (ns : List ℕ). p.flight.load ∷ ns) (numbers_started place [] ps)
numbers_started place (f ∷ fs) plans = ap (λ (ns : List ℕ). f.load ∷ ns) (numbers_started place fs plans)

-- the headers of the first loads, with one more
pub headers_more :
    (headers : List Header) (plans : List Planned) (i : ℕ) (p : Planned) → i < length plans → p ≡ get_or plans i p
    → headers ++ map (λ q. q.flight.header) (take (i + 1) plans) ≡ (headers ++ map (λ q. q.flight.header) (take i plans)) ++ p.flight.header ∷ []
headers_more headers plans i p l is =
    ap (λ (ps : List Planned). headers ++ map (λ (q : Planned). q.flight.header) ps) (take_step plans i p l is)
    ∙ ap (λ (hs : List Header). headers ++ hs) (map_push (λ (q : Planned). q.flight.header) (take i plans) p)
    ∙ sym (append_assoc headers (map (λ (q : Planned). q.flight.header) (take i plans)) (p.flight.header ∷ []))

-- one group more is prepared
pub prepared_more :
    (allowing : Allowing) (cache : CacheOf) (who : Who) (wanted : List Cell) (number : ℕ) (cells : List Cell) (plans : List Planned) (next : ℕ) (cell : Cell) (planned : Planned)
    → ArePrepared allowing cache who wanted number cells plans → next ≡ number + length cells → IsPrepared allowing cache who (filter (alike cell) wanted) next cell planned → ArePrepared allowing cache who wanted number (cells ++ cell ∷ []) (plans ++ planned ∷ [])
prepared_more allowing cache who wanted number [] [] next cell planned are at is = (subst (λ (n : ℕ). IsPrepared allowing cache who (filter (alike cell) wanted) n cell planned) (omega (arith, at)) is, tt)
prepared_more allowing cache who wanted number [] (p ∷ ps) next cell planned are at is = absurd are
prepared_more allowing cache who wanted number (c ∷ cs) [] next cell planned are at is = absurd are
prepared_more allowing cache who wanted number (c ∷ cs) (p ∷ ps) next cell planned are at is = (are.0, prepared_more allowing cache who wanted (suc number) cs ps next cell planned are.1 (omega (arith, at)) is)

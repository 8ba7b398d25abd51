-- The parts of the loads of one call are all of its seat.
use Rattle.std.proofs.Common.{◌≡◌, refl, sym, ◌∙◌, ap, subst, ℕ, suc, List, [], ◌∷◌, ◌++◌, filter, length, map, true, ◌==◌, inl, inr, None, Some, All}
use Rattle.std.specs.List.{AllZip, list_all, zip}
use Rattle.std.proofs.lemmas.Bool.{and_from, eq-eqb}
use Rattle.std.proofs.lemmas.List.Elements.{All-cons, All-head, All-map, All-nil, All-tail, All-weaker}
use Rattle.olap_meaning.specs.declared.cells.Cell.{Cell}
use Rattle.olap_meaning.specs.declared.cells.Header.{Header}
use Rattle.olap_meaning.specs.declared.cells.Who.{Who}
use Rattle.olap_meaning.specs.History.{Entry, Load, Start, Done, Drop, started, is_some_and}
use Rattle.segment_load.specs.Loads.{JobOf}
use Rattle.history_core.specs.Cache.{CacheOf}
use Rattle.history_core.specs.Groups.{IsHeaderFor, alike, firsts, load_count, load_with, loads_with, wanted_of}
use Rattle.segment_header.specs.Widening.{Allowing}
use Rattle.history_core.specs.Seats.{actor, is_of_seat, entries_of}
use Rattle.line_session.specs.Desks.{AreEnds, AreHeadersOf, is_start_or_done, is_of_load}
use Rattle.manager_desk.specs.Ends.{AreEndsOf, done_of}

-- an entry is a part of a load of a call
pub record IsPartOf (who : Who) (entry : Entry) : Type 0 where
  pub part : is_of_load entry ≡ true
  pub own : actor entry ≡ Some who

-- the entries of a seat, where all are
pub own_entries : (seat : ℕ) (es : List Entry) → All (λ e. is_of_seat seat e ≡ true) es → entries_of es seat ≡ es
own_entries seat [] all = refl
own_entries seat (e ∷ es) all =
    let here : is_of_seat seat e ≡ true = All-head (λ o. is_of_seat seat o ≡ true) e es all in
    rw here (ap (λ (xs : List Entry). e ∷ xs) (own_entries seat es (All-tail (λ o. is_of_seat seat o ≡ true) e es all)))

pub parts_seat : (who : Who) (seat : ℕ) (es : List Entry) → who.seat ≡ seat → All (IsPartOf who) es → All (λ e. is_of_seat seat e ≡ true) es
parts_seat who seat es at all = All-weaker (IsPartOf who) (λ e. is_of_seat seat e ≡ true) (λ e is. ap (is_some_and (λ (w : Who). w.seat == seat)) is.own ∙ eq-eqb who.seat seat at) es all

pub parts_all : (who : Who) (es : List Entry) → All (IsPartOf who) es → list_all is_of_load es ≡ true
parts_all who [] all = refl
parts_all who (e ∷ es) all = and_from _ _ (All-head (IsPartOf who) e es all).part (parts_all who es (All-tail (IsPartOf who) e es all))

-- the loads of a look are of its call
for_call : (cache : CacheOf) (who : Who) (pairs : List (Cell × Header)) → All (λ load. load.who ≡ who) (map (λ pair. load_with cache who pair.0 pair.1) pairs)
for_call cache who [] = All-nil (λ load. load.who ≡ who)
for_call cache who (pair ∷ pairs) = All-cons (λ load. load.who ≡ who) (load_with cache who pair.0 pair.1) (map (λ p. load_with cache who p.0 p.1) pairs) refl (for_call cache who pairs)

pub loads_own : (cache : CacheOf) (who : Who) (cells : List Cell) (headers : List Header) → All (λ load. load.who ≡ who) (loads_with cache who cells headers)
loads_own cache who cells headers = for_call cache who (zip (firsts [] (wanted_of cache cells)) headers)

-- there is one for each group, where each has its header
pub loads_counted : (allowing : Allowing) (cache : CacheOf) (who : Who) (cells : List Cell) (headers : List Header) → AreHeadersOf allowing cache cells headers → length (loads_with cache who cells headers) ≡ load_count cache cells
loads_counted allowing cache who cells headers own = by (firsts [] (wanted_of cache cells)) headers own
  where
    by : (cs : List Cell) (hs : List Header) → AllZip (λ first header. IsHeaderFor allowing cache.setting.catalog first (filter (alike first) (wanted_of cache cells)) header) cs hs → length (map (λ pair. load_with cache who pair.0 pair.1) (zip cs hs)) ≡ length cs
    by [] [] all = refl
    by [] (h ∷ hs) all = absurd all
    by (c ∷ cs) [] all = absurd all
    by (c ∷ cs) (h ∷ hs) all = ap suc (by cs hs all.1)

pub starts_parts : (who : Who) (loads : List Load) → All (λ load. load.who ≡ who) loads → All (IsPartOf who) (map Start loads)
starts_parts who loads own = All-map (IsPartOf who) Start loads (All-weaker (λ load. load.who ≡ who) (λ load. IsPartOf who (Start load)) (λ load is. record { part = refl; own = ap (λ (w : Who). Some w) is }) loads own)

pub ends_parts : (who : Who) (ns : List ℕ) (es : List Entry) → AreEnds who ns es → All (IsPartOf who) es
ends_parts who [] [] are = All-nil (IsPartOf who)
ends_parts who [] (e ∷ es) are = absurd are
ends_parts who (n ∷ ns) [] are = absurd are
ends_parts who (n ∷ ns) (e ∷ es) are = All-cons (IsPartOf who) e es here (ends_parts who ns es are.1)
  where
    here : IsPartOf who e
    here = elim are.0 [
      | inl done ↦ subst (IsPartOf who) (sym done) (record { part = refl; own = refl })
      | inr dropped ↦ subst (IsPartOf who) (sym dropped) (record { part = refl; own = refl })
    ]

-- and no end starts a load
pub ends_start_none : (who : Who) (ns : List ℕ) (es : List Entry) → AreEnds who ns es → All (λ e. started e ≡ None) es
ends_start_none who [] [] are = All-nil (λ e. started e ≡ None)
ends_start_none who [] (e ∷ es) are = absurd are
ends_start_none who (n ∷ ns) [] are = absurd are
ends_start_none who (n ∷ ns) (e ∷ es) are = All-cons (λ o. started o ≡ None) e es here (ends_start_none who ns es are.1)
  where
    here : started e ≡ None
    here = elim are.0 [ inl done ↦ ap started done | inr dropped ↦ ap started dropped ]

pub dones_are_ends : (who : Who) (ns : List ℕ) → AreEnds who ns (map (Done who) ns)
dones_are_ends who [] = tt
dones_are_ends who (n ∷ ns) = (inl refl, dones_are_ends who ns)

-- what starts and deliveries are
pub delivered_all : (who : Who) (loads : List Load) (ns : List ℕ) → list_all is_start_or_done (map Start loads ++ map (Done who) ns) ≡ true
delivered_all who [] [] = refl
delivered_all who [] (n ∷ ns) = delivered_all who [] ns
delivered_all who (load ∷ loads) ns = delivered_all who loads ns

-- the ends of jobs that are all of one call
pub ends_of_call : (who : Who) (jobs : List JobOf) (es : List Entry) → All (λ job. job.who ≡ who) jobs → AreEndsOf jobs es → AreEnds who (map (λ job. job.load) jobs) es
ends_of_call who [] [] own are = tt
ends_of_call who [] (e ∷ es) own are = absurd are
ends_of_call who (job ∷ jobs) [] own are = absurd are
ends_of_call who (job ∷ jobs) (e ∷ es) own are =
    let is : job.who ≡ who = All-head (λ j. j.who ≡ who) job jobs own in (
      elim are.0 [ inl done ↦ inl (done ∙ ap (λ (w : Who). Done w job.load) is) | inr dropped ↦ inr (dropped ∙ ap (λ (w : Who). Drop w job.load) is) ],
      ends_of_call who jobs es (All-tail (λ j. j.who ≡ who) job jobs own) are.1,
    )

pub dones_of_call : (who : Who) (jobs : List JobOf) → All (λ job. job.who ≡ who) jobs → map done_of jobs ≡ map (Done who) (map (λ job. job.load) jobs)
dones_of_call who [] own = refl
dones_of_call who (job ∷ jobs) own =
    ap (λ (w : Who). Done w job.load ∷ map done_of jobs) (All-head (λ j. j.who ≡ who) job jobs own)
    ∙ ap (λ (es : List Entry). Done who job.load ∷ es) (dones_of_call who jobs (All-tail (λ j. j.who ≡ who) job jobs own))

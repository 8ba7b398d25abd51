-- What the jobs of a look cost is what its loads cost, and each job is of its call.
use Rattle.std.proofs.Common.{◌≡◌, refl, sym, ◌∙◌, ap, subst, ℕ, suc, ◌+◌, ◌==◌, List, [], ◌∷◌, ◌++◌, append_assoc, length, map, Bool, true, Some, arith, All}
use Rattle.std.specs.Prelude.{sum_by, if◌then◌else◌}
use Rattle.std.proofs.lemmas.Bool.{eq-eqb}
use Rattle.std.proofs.lemmas.List.{length-append}
use Rattle.std.proofs.lemmas.List.Elements.{All-cons, All-head, All-nil, All-tail}
use Rattle.std.proofs.lemmas.List.Sums.{sum_by-cons}
use Rattle.olap_meaning.specs.declared.cells.CellSource.{CellSource}
use Rattle.olap_meaning.specs.declared.cells.Who.{Who}
use Rattle.olap_meaning.specs.declared.tables.Catalog.{Catalog}
use Rattle.olap_meaning.specs.declared.tables.Setting.{Setting}
use Rattle.olap_meaning.specs.History.{Entry, Answer, Evict, Start, Load, load_at}
use Rattle.olap_meaning.proofs.Loads.{start_load}
use Rattle.olap_meaning.proofs.Positions.{get_seam}
use Rattle.segment_load.specs.Loads.{JobOf, job_cost}
use Rattle.load_costs.specs.Costs.{cost, seat_cost, seat_costs, start_cost}
use Rattle.load_costs.proofs.CostFacts.{cost_at}
use Rattle.history_core.specs.Groups.{numbers_from}
use Rattle.cache_manager.specs.Jobs.{IsJobOf}
use Rattle.manager_desk.specs.Ends.{done_of}

-- a job of the number of a Start is that of its load
job_load : (setting : Setting) (entries : List Entry) (load : Load) (rest : List Entry) (job : JobOf) (is : IsJobOf (record { setting = setting; entries = entries ++ Start load ∷ rest }) job) → job.load ≡ length entries + 1 → is.load ≡ load
job_load setting entries load rest job is number =
    let e : job.load ≡ suc (length entries) = omega (arith, number) in
    let place : load_at (entries ++ Start load ∷ rest) (suc (length entries)) ≡ Some load = start_load (entries ++ Start load ∷ rest) (suc (length entries)) load (get_seam entries rest (Start load)) in
    let both : Some is.load ≡ Some load = sym is.flies.started ∙ ap (load_at (entries ++ Start load ∷ rest)) e ∙ place in
    cc

-- the jobs of some loads, one for each: of whose calls they are, and what they cost
pub jobs_are :
    (setting : Setting) (entries : List Entry) (loads : List Load) (jobs : List JobOf) (who : Who) (n : ℕ) → n ≡ length entries + 1 → map (λ job. job.load) jobs ≡ numbers_from n (length loads)
    → All (IsJobOf (record { setting = setting; entries = entries ++ map Start loads })) jobs → All (λ load. load.who ≡ who) loads
    → All (λ job. job.who ≡ who) jobs × (who.seat ≡ 1 → sum_by job_cost jobs ≡ seat_costs setting.catalog 1 entries (map Start loads))
jobs_are setting entries [] [] who n at numbers all own = (All-nil (λ job. job.who ≡ who), λ seat. refl)
jobs_are setting entries [] (job ∷ jobs) who n at numbers all own = absurd (cc)
jobs_are setting entries (load ∷ loads) [] who n at numbers all own = absurd (cc)
jobs_are setting entries (load ∷ loads) (job ∷ jobs) who n at numbers all own =
    joined_up (jobs_are setting (entries ++ Start load ∷ []) loads jobs who (suc n))
  where
    whole : List Entry
    whole = entries ++ map Start (load ∷ loads)

    is : IsJobOf (record { setting = setting; entries = whole }) job
    is = All-head (IsJobOf (record { setting = setting; entries = whole })) job jobs all

    number : job.load ≡ n
    number = cc

    later : map (λ j. j.load) jobs ≡ numbers_from (suc n) (length loads)
    later = cc

    first : load.who ≡ who
    first = All-head (λ l. l.who ≡ who) load loads own

    same : is.load ≡ load
    same = job_load setting entries load (map Start loads) job is (number ∙ at)

    whose : job.who ≡ who
    whose = sym is.flies.own ∙ ap (λ (l : Load). l.who) same ∙ first

    joined : (entries ++ Start load ∷ []) ++ map Start loads ≡ whole
    joined = append_assoc entries (Start load ∷ []) (map Start loads)

    here : who.seat ≡ 1 → job_cost job ≡ seat_cost setting.catalog 1 entries (Start load)
    here seat =
        let place : job.load ≡ suc (length entries) = omega (arith, number, at) in
        let mine : (load.who.seat == 1) ≡ true = eq-eqb load.who.seat 1 (ap (λ (w : Who). w.seat) first ∙ seat) in
        is.costs ∙ ap (cost setting.catalog whole) place ∙ cost_at setting.catalog entries (map Start loads) load
        ∙ ap (λ (b : Bool). if b then start_cost setting.catalog entries load else 0) (sym mine)

    joined_up :
        (suc n ≡ length (entries ++ Start load ∷ []) + 1 → map (λ j. j.load) jobs ≡ numbers_from (suc n) (length loads)
        → All (IsJobOf (record { setting = setting; entries = (entries ++ Start load ∷ []) ++ map Start loads })) jobs → All (λ l. l.who ≡ who) loads
        → All (λ j. j.who ≡ who) jobs × (who.seat ≡ 1 → sum_by job_cost jobs ≡ seat_costs setting.catalog 1 (entries ++ Start load ∷ []) (map Start loads)))
        → All (λ j. j.who ≡ who) (job ∷ jobs) × (who.seat ≡ 1 → sum_by job_cost (job ∷ jobs) ≡ seat_costs setting.catalog 1 entries (map Start (load ∷ loads)))
    joined_up more =
        let others =
        more (let l = length-append entries (Start load ∷ []) in omega (arith, at, l)) later
        (subst (λ (es : List Entry). All (IsJobOf (record { setting = setting; entries = es })) jobs) (sym joined) (All-tail (IsJobOf (record { setting = setting; entries = whole })) job jobs all))
        (All-tail (λ l. l.who ≡ who) load loads own) in (
          All-cons (λ j. j.who ≡ who) job jobs whose others.0,
          λ seat.
              sum_by-cons job_cost job jobs ∙ ap (λ (m : ℕ). m + sum_by job_cost jobs) (here seat)
              ∙ ap (λ (m : ℕ). seat_cost setting.catalog 1 entries (Start load) + m) (others.1 seat),
        )

-- neither an answer nor an eviction costs anything
evictions_cost_none : (catalog : Catalog) (before : List Entry) (js : List ℕ) → seat_costs catalog 1 before (map Evict js) ≡ 0
evictions_cost_none catalog before [] = refl
evictions_cost_none catalog before (j ∷ js) = let rest = evictions_cost_none catalog (before ++ Evict j ∷ []) js in omega (arith, rest)

pub answer_costs_none : (catalog : Catalog) (before : List Entry) (who : Who) (cells : List CellSource) (js : List ℕ) → seat_costs catalog 1 before (Answer who cells ∷ map Evict js) ≡ 0
answer_costs_none catalog before who cells js = let rest = evictions_cost_none catalog (before ++ Answer who cells ∷ []) js in omega (arith, rest)

-- a delivery starts no load
pub dones_cost_none : (catalog : Catalog) (before : List Entry) (jobs : List JobOf) → seat_costs catalog 1 before (map done_of jobs) ≡ 0
dones_cost_none catalog before [] = refl
dones_cost_none catalog before (job ∷ jobs) = let rest = dones_cost_none catalog (before ++ done_of job ∷ []) jobs in omega (arith, rest)

-- What is prepared for some loads, and the manager and the jobs after they are started.
use Rattle.std.proofs.Common.{◌≡◌, refl, sym, ◌∙◌, ap, subst, ℕ, suc, ◌+◌, ◌<◌, ◌≤◌, List, [], ◌∷◌, ◌++◌, append_assoc, length, map, filter, Bool, true, false, ◌==◌, inl, inr, arith, All}
use Rattle.std.specs.Prelude.{IsTrue}
use Rattle.std.specs.List.{AllZip, list_any}
use Rattle.std.proofs.lemmas.Bool.{both_ways, false_from_ne_true, or_cases, or_left, or_right}
use Rattle.std.proofs.lemmas.List.{append-nil, length_push}
use Rattle.std.proofs.lemmas.List.Elements.{All-cons, All-nil, All-push, All-weaker, filter-append}
use Rattle.olap_meaning.specs.declared.cells.Cell.{Cell}
use Rattle.olap_meaning.specs.declared.cells.Header.{Header}
use Rattle.olap_meaning.specs.declared.cells.Who.{Who}
use Rattle.olap_meaning.specs.Covering.{among}
use Rattle.olap_meaning.specs.History.{Entry, Start, Load, ends, load_at, rows_of, version}
use Rattle.olap_meaning.specs.declared.regions.Region.{Region}
use Rattle.olap_meaning.specs.Legal.{Legal}
use Rattle.olap_meaning.specs.Worth.{load_rows}
use Rattle.olap_meaning.proofs.Growing.{legal_grows, version_grows}
use Rattle.olap_meaning.proofs.Sources.{unended}
use Rattle.olap_meaning.proofs.Versions.{rows_stay}
use Rattle.fact_versions.specs.Facts.{FactsOf}
use Rattle.history_core.specs.Entries.{entry_of}
use Rattle.fact_reader.specs.BodyRows.{rows_in}
use Rattle.agg_tables.specs.Costs.{cheapest, read_cost}
use Rattle.agg_tables.specs.Tables.{TableOf}
use Rattle.load_costs.proofs.BuiltFacts.{tables_stay}
use Rattle.load_costs.specs.Costs.{builds, cost, reads, start_read, tables_built}
use Rattle.load_costs.proofs.CostFacts.{cost_at, cost_on, reads_at, reads_on}
use Rattle.segment_load.specs.Loads.{JobOf}
use Rattle.cache_flush.specs.Loads.{KeptOf}
use Rattle.load_sharing.specs.Flights.{FlightOf}
use Rattle.cache_manager.specs.declared.starts.Flying.{Flying}
use Rattle.cache_manager.specs.declared.starts.Planned.{Planned}
use Rattle.history_core.specs.Cache.{CacheOf}
use Rattle.history_core.specs.Groups.{IsHeaderFor, alike, load_with, loads_over}
use Rattle.segment_header.specs.Headers.{is_header}
use Rattle.segment_header.specs.Widening.{Allowing}
use Rattle.cache_manager.specs.Jobs.{IsJobOf, IsOwn}
use Rattle.history_core.specs.Seats.{entries_of, is_of_seat}
use Rattle.history_core.specs.Groups.{numbers_from}
use Rattle.cache_manager.specs.Kept.{IsManager, closing}
use Rattle.cache_manager.specs.Plans.{AreLegalSteps, AreNew, ArePrepared, IsPrepared, flight_for}
use Rattle.cache_manager.proofs.Managing.{among_back}
use Rattle.cache_manager.proofs.Moves.{starts}
use Rattle.olap_meaning.proofs.Pushes.{any_none, load_last, load_on, recorded}

-- the step that was prepared
abbrev pub step_of : Planned → Entry
step_of planned = entry_of planned.start

-- places are not asked for
abbrev pub anywhere : List Header → Type 0
anywhere headers = Unit {0}

any_of_filter : {A : Type 0} (keep test : A → Bool) (xs : List A) → list_any test (filter keep xs) ≡ true → list_any test xs ≡ true
any_of_filter keep test [] h = h
any_of_filter keep test (x ∷ xs) h = by (keep x) refl h (any_of_filter keep test xs)
  where
    by : (b : Bool) → keep x ≡ b → list_any test (filter keep (x ∷ xs)) ≡ true → (list_any test (filter keep xs) ≡ true → list_any test xs ≡ true) → list_any test (x ∷ xs) ≡ true
    by true e k rest = elim (or_cases (test x) (list_any test (filter keep xs)) (rw e at k)) [ inl here ↦ or_left _ _ here | inr there ↦ or_right _ _ (rest there) ]
    by false e k rest = or_right _ _ (rest (rw e at k))

-- what no entry ends, no entry of a seat ends
unended_by : (entries : List Entry) (j seat : ℕ) → list_any (ends j) entries ≡ false → list_any (ends j) (entries_of entries seat) ≡ false
unended_by entries j seat none = false_from_ne_true _ (λ h. both_ways _ none (any_of_filter _ (ends j) entries h))

-- the header of the load that was prepared
abbrev pub header_of : Planned → Header
header_of planned = planned.job.header

-- headers are those of the first cells of groups, where the groups are prepared
pub prepared_headers :
    (allowing : Allowing) (cache : CacheOf) (who : Who) (wanted : List Cell) (n : ℕ) (cells : List Cell) (plans : List Planned) → ArePrepared allowing cache who wanted n cells plans
    → AllZip (λ first header. IsHeaderFor allowing cache.setting.catalog first (filter (alike first) wanted) header) cells (map header_of plans)
prepared_headers allowing cache who wanted n [] [] are = tt
prepared_headers allowing cache who wanted n [] (p ∷ ps) are = absurd are
prepared_headers allowing cache who wanted n (c ∷ cs) [] are = absurd are
prepared_headers allowing cache who wanted n (c ∷ cs) (p ∷ ps) are = (are.0.allowed, prepared_headers allowing cache who wanted (suc n) cs ps are.1)

-- the header of each load that is prepared is well formed
pub prepared_formed :
    (allowing : Allowing) (cache : CacheOf) (who : Who) (wanted : List Cell) (n : ℕ) (cells : List Cell) (plans : List Planned) → ArePrepared allowing cache who wanted n cells plans → All (λ p. IsTrue (is_header p.flight.header)) plans
prepared_formed allowing cache who wanted n [] [] are = All-nil (λ p. IsTrue (is_header p.flight.header))
prepared_formed allowing cache who wanted n [] (p ∷ ps) are = absurd are
prepared_formed allowing cache who wanted n (c ∷ cs) [] are = absurd are
prepared_formed allowing cache who wanted n (c ∷ cs) (p ∷ ps) are = All-cons (λ p. IsTrue (is_header p.flight.header)) p ps are.0.formed (prepared_formed allowing cache who wanted (suc n) cs ps are.1)

module _ (allowing : Allowing) (cache : CacheOf) (who : Who) (wanted : List Cell) where
  abbrev load_of : Cell → Planned → Load
  load_of cell planned = load_with cache who cell planned.job.header

  pub planned_steps : (n : ℕ) (cells : List Cell) (plans : List Planned) → ArePrepared allowing cache who wanted n cells plans → map step_of plans ≡ map Start (loads_over cache who cells (map header_of plans))
  planned_steps n [] [] are = refl
  planned_steps n [] (p ∷ ps) are = absurd are
  planned_steps n (c ∷ cs) [] are = absurd are
  planned_steps n (c ∷ cs) (p ∷ ps) are = ap (λ (e : Entry). e ∷ map step_of ps) are.0.start ∙ ap (λ (es : List Entry). Start (load_of c p) ∷ es) (planned_steps (suc n) cs ps are.1)

  pub planned_numbers : (n : ℕ) (cells : List Cell) (plans : List Planned) → ArePrepared allowing cache who wanted n cells plans → map (λ job. job.load) (map (λ p. p.job) plans) ≡ numbers_from n (length cells)
  planned_numbers n [] [] are = refl
  planned_numbers n [] (p ∷ ps) are = absurd are
  planned_numbers n (c ∷ cs) [] are = absurd are
  planned_numbers n (c ∷ cs) (p ∷ ps) are = ap (λ (m : ℕ). m ∷ map (λ job. job.load) (map (λ p. p.job) ps)) are.0.load ∙ ap (λ (ns : List ℕ). n ∷ ns) (planned_numbers (suc n) cs ps are.1)

  -- each of their numbers is new after those below
  pub planned_new :
      (n : ℕ) (cells : List Cell) (plans : List Planned) (before : List ℕ) → ArePrepared allowing cache who wanted n cells plans → ((i : ℕ) → among before i ≡ true → i < n) → AreNew before (map (λ p. p.flight.load) plans)
  planned_new n [] [] before are below = tt
  planned_new n [] (p ∷ ps) before are below = absurd are
  planned_new n (c ∷ cs) [] before are below = absurd are
  planned_new n (c ∷ cs) (p ∷ ps) before are below =
      let number : p.flight.load ≡ n = ap (λ (f : Flying). f.load) are.0.flight in (
        false_from_ne_true _ (λ h. let l : p.flight.load < n = below p.flight.load h in omega (arith, l, number)),
        planned_new (suc n) cs ps (before ++ p.flight.load ∷ []) are.1
            (λ i h. elim (among_back before p.flight.load i h) [ inl old ↦ let l : i < n = below i old in omega (arith, l) | inr new ↦ omega (arith, new, number) ]),
      )

  -- the manager after the loads are started
  pub all_started :
      (facts : FactsOf) (regions : List Region) (held : List KeptOf) (tables : List TableOf) (left : ℕ) (plans : List Planned) (entries : List Entry) (flights : List FlightOf) (n : ℕ) (cells : List Cell) → Legal cache.setting entries → AreLegalSteps cache.setting entries (map step_of plans)
      → ArePrepared allowing cache who wanted n cells plans → n ≡ suc (length entries) → IsManager cache.setting entries left facts regions held anywhere flights tables → closing flights held + length plans + length plans ≤ left
      → IsManager cache.setting (entries ++ map step_of plans) left facts regions held anywhere (flights ++ map (λ p. flight_for (length regions) p.flight) plans) tables
  all_started facts regions held tables left [] entries flights n cells legal steps are number is room = rw (append-nil entries, append-nil flights) is
  all_started facts regions held tables left (p ∷ ps) entries flights n [] legal steps are number is room = absurd are
  all_started facts regions held tables left (p ∷ ps) entries flights n (c ∷ cs) legal steps are number is room =
      let made : flight_for (length regions) p.flight ≡ record { load = suc (length entries); who = who; header = p.job.header; version = version cache.entries c.cube; place = length regions } =
      ap (flight_for (length regions)) are.0.flight ∙ ap (λ (m : ℕ). flight_for (length regions) (record { load = m; who = who; header = p.job.header; version = version cache.entries c.cube })) number in
      let first : IsManager cache.setting (entries ++ step_of p ∷ []) left facts regions held anywhere (flights ++ flight_for (length regions) p.flight ∷ []) tables =
      subst (λ (e : Entry). IsManager cache.setting (entries ++ e ∷ []) left facts regions held anywhere (flights ++ flight_for (length regions) p.flight ∷ []) tables) (sym are.0.start)
      (starts cache.setting entries facts regions held anywhere flights tables legal left left (load_of c p) (flight_for (length regions) p.flight) is (omega (arith, room)) tt made) in
      rw (← append_assoc entries (step_of p ∷ []) (map step_of ps), ← append_assoc flights (flight_for (length regions) p.flight ∷ []) (map (λ q. flight_for (length regions) q.flight) ps))
      (all_started facts regions held tables left ps (entries ++ step_of p ∷ []) (flights ++ flight_for (length regions) p.flight ∷ []) (suc n) cs (legal_grows cache.setting entries (step_of p) legal steps.0) steps.1 are.1
      (let long = length_push entries (step_of p) in omega (arith, long, number)) first
      (let more = length_push flights (flight_for (length regions) p.flight) in omega (arith, more, room)))

  -- the cache at some entries
  abbrev at : List Entry → CacheOf
  at entries = record { setting = cache.setting; entries = entries }

  own_on : (entries : List Entry) (load : Load) (w : Who) (j : ℕ) (own : Load) → IsOwn (at entries) w j own → IsOwn (at (entries ++ Start load ∷ [])) w j own
  own_on entries load w j own is = record {
    started = load_on entries (Start load) j own is.started;
    own = is.own;
    unended = unended_on;
  }
    where
      unended_on : list_any (ends j) (entries_of (entries ++ Start load ∷ []) w.seat) ≡ false
      unended_on = rw (filter-append (is_of_seat w.seat) entries (Start load ∷ [])) (by ((load.who).seat == w.seat) refl)
        where
          by : (b : Bool) → (load.who.seat == w.seat) ≡ b → list_any (ends j) (entries_of entries w.seat ++ entries_of (Start load ∷ []) w.seat) ≡ false
          by true e = rw e (any_none (ends j) (entries_of entries w.seat) (Start load) is.unended refl)
          by false e = rw (e, append-nil (entries_of entries w.seat)) is.unended

  -- a job stays one of the cache's
  job_on : (entries : List Entry) (load : Load) (job : JobOf) → Legal cache.setting entries → IsJobOf (at entries) job → IsJobOf (at (entries ++ Start load ∷ [])) job
  job_on entries load job legal is =
      let rows : rows_of (entries ++ Start load ∷ []) is.load.header.cube is.load.version ≡ rows_of entries is.load.header.cube is.load.version =
      rows_stay entries (Start load) is.load.header.cube is.load.version (recorded cache.setting entries job.load is.load legal is.flies.started) in
      record {
        load = is.load;
        catalog = is.catalog;
        flies = own_on entries load job.who job.load is.load is.flies;
        header = is.header;
        rows = is.rows ∙ sym rows;
        version = is.version;
        read = is.read ∙ sym (reads_on cache.setting.catalog entries (Start load ∷ []) job.load is.load is.flies.started);
        costs = is.costs ∙ sym (cost_on cache.setting.catalog entries (Start load ∷ []) job.load is.load is.flies.started);
      }

  -- a job that was prepared is one of the cache's, once its load is started
  job_new :
      (entries : List Entry) (n : ℕ) (c : Cell) (p : Planned) → Legal cache.setting entries → tables_built cache.setting.catalog entries ≡ tables_built cache.setting.catalog cache.entries → IsPrepared allowing cache who (filter (alike c) wanted) n c p → n ≡ suc (length entries) → version entries c.cube ≡ version cache.entries c.cube
      → rows_of entries c.cube (version cache.entries c.cube) ≡ rows_of cache.entries c.cube (version cache.entries c.cube) → IsJobOf (at (entries ++ Start (load_of c p) ∷ [])) p.job
  job_new entries n c p legal built is number present same =
      let place : p.job.load ≡ suc (length entries) = is.load ∙ number in
      let rows : rows_in p.job.snapshot ≡ rows_of (entries ++ Start (load_of c p) ∷ []) p.job.header.cube (version cache.entries c.cube) =
      is.rows ∙ sym same ∙ sym (rows_stay entries (Start (load_of c p)) c.cube (version cache.entries c.cube) (omega (arith, present)))
      ∙ ap (λ (cube : ℕ). rows_of (entries ++ Start (load_of c p) ∷ []) cube (version cache.entries c.cube)) (sym is.allowed.cube) in
      let many : length (rows_of cache.entries c.cube (version cache.entries c.cube)) ≡ load_rows entries (load_of c p) =
      ap length (sym same ∙ ap (λ (cube : ℕ). rows_of entries cube (version cache.entries c.cube)) (sym is.allowed.cube)) in
      let chosen : p.job.read ≡ start_read cache.setting.catalog entries (load_of c p) =
      is.read
      ∙ ap (λ n. cheapest p.job.header (version cache.entries c.cube) n (tables_built cache.setting.catalog cache.entries)) many
      ∙ ap (λ (tables : List TableOf). cheapest p.job.header (version cache.entries c.cube) (load_rows entries (load_of c p)) tables) (sym built) in
      record {
        load = load_of c p;
        catalog = is.catalog;
        flies = record {
          started = ap (load_at (entries ++ Start (load_of c p) ∷ [])) place ∙ load_last entries (Start (load_of c p));
          own = sym is.who_is;
          unended = unended_by (entries ++ Start (load_of c p) ∷ []) p.job.load p.job.who.seat (rw place (any_none (ends (suc (length entries))) entries (Start (load_of c p)) (unended cache.setting entries legal) refl));
        };
        header = refl;
        rows = rows;
        version = is.version_is;
        read = chosen ∙ sym (reads_at cache.setting.catalog entries [] (load_of c p)) ∙ ap (reads cache.setting.catalog (entries ++ Start (load_of c p) ∷ [])) (sym place);
        costs =
            ap (λ read. read_cost (length (rows_in p.job.snapshot)) read) chosen
            ∙ ap (λ n. read_cost n (start_read cache.setting.catalog entries (load_of c p))) (ap length is.rows ∙ many)
            ∙ sym (cost_at cache.setting.catalog entries [] (load_of c p))
            ∙ ap (cost cache.setting.catalog (entries ++ Start (load_of c p) ∷ [])) (sym place);
      }

  -- the jobs after their loads are started
  pub all_jobs :
      (plans : List Planned) (entries : List Entry) (jobs : List JobOf) (n : ℕ) (cells : List Cell) → Legal cache.setting entries → tables_built cache.setting.catalog entries ≡ tables_built cache.setting.catalog cache.entries → AreLegalSteps cache.setting entries (map step_of plans) → ArePrepared allowing cache who wanted n cells plans → n ≡ suc (length entries)
      → ((cube : ℕ) → version entries cube ≡ version cache.entries cube) → ((cube : ℕ) → rows_of entries cube (version cache.entries cube) ≡ rows_of cache.entries cube (version cache.entries cube))
      → All (IsJobOf (at entries)) jobs → All (IsJobOf (at (entries ++ map step_of plans))) (jobs ++ map (λ p. p.job) plans)
  all_jobs [] entries jobs n cells legal built steps are number present same all = rw (append-nil entries, append-nil jobs) all
  all_jobs (p ∷ ps) entries jobs n [] legal built steps are number present same all = absurd are
  all_jobs (p ∷ ps) entries jobs n (c ∷ cs) legal built steps are number present same all =
      rw (← append_assoc entries (step_of p ∷ []) (map step_of ps), ← append_assoc jobs (p.job ∷ []) (map (λ q. q.job) ps))
      (all_jobs ps (entries ++ step_of p ∷ []) (jobs ++ p.job ∷ []) (suc n) cs (legal_grows cache.setting entries (step_of p) legal steps.0) (tables_stay cache.setting entries (step_of p) legal (ap builds are.0.start) ∙ built) steps.1 are.1
      (let long = length_push entries (step_of p) in omega (arith, long, number))
      (λ cube. later_version cube) (λ cube. later_rows cube)
      (subst (λ (e : Entry). All (IsJobOf (at (entries ++ e ∷ []))) (jobs ++ p.job ∷ [])) (sym are.0.start)
      (All-push (IsJobOf (at (entries ++ Start (load_of c p) ∷ []))) jobs p.job (All-weaker (IsJobOf (at entries)) (IsJobOf (at (entries ++ Start (load_of c p) ∷ []))) (λ job is. job_on entries (load_of c p) job legal is) jobs all) (job_new entries n c p legal built are.0 number (present c.cube) (same c.cube)))))
    where
      later_version : (cube : ℕ) → version (entries ++ step_of p ∷ []) cube ≡ version cache.entries cube
      later_version cube =
          ap (λ (e : Entry). version (entries ++ e ∷ []) cube) are.0.start ∙ version_grows entries (Start (load_of c p)) cube
          ∙ (let zero_more : version entries cube + 0 ≡ version entries cube = omega arith in zero_more) ∙ present cube

      later_rows : (cube : ℕ) → rows_of (entries ++ step_of p ∷ []) cube (version cache.entries cube) ≡ rows_of cache.entries cube (version cache.entries cube)
      later_rows cube =
          ap (λ (e : Entry). rows_of (entries ++ e ∷ []) cube (version cache.entries cube)) are.0.start
          ∙ rows_stay entries (Start (load_of c p)) cube (version cache.entries cube) (omega (arith, present cube)) ∙ same cube

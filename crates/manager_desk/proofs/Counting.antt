-- What was delivered in a history has cost what it did while it goes on, and each delivery adds what its load cost.
use Rattle.std.proofs.Common.{◌≡◌, refl, sym, ◌∙◌, ap, subst, ℕ, ◌+◌, ◌≤◌, List, [], ◌∷◌, ◌++◌, length, map, take, Bool, true, false, ◌==◌, Some, slice_get, arith, All}
use Rattle.std.specs.Prelude.{sum_by, if◌then◌else◌}
use Rattle.std.proofs.lemmas.Bool.{eq-eqb}
use Rattle.std.proofs.lemmas.List.{length-append}
use Rattle.std.proofs.lemmas.List.Elements.{All-cons, All-nil}
use Rattle.std.proofs.lemmas.List.Sums.{sum_by-append, sum_by-cons}
use Rattle.olap_meaning.specs.declared.cells.Who.{Who}
use Rattle.olap_meaning.specs.declared.tables.Catalog.{Catalog}
use Rattle.olap_meaning.specs.declared.tables.Setting.{Setting}
use Rattle.olap_meaning.specs.declared.TheConstants.{ROW_LIMIT}
use Rattle.olap_meaning.specs.History.{Entry, Append, Agg, Flush, Start, Done, Drop, Evict, Answer, Saw, Load, load_at, version}
use Rattle.olap_meaning.specs.Legal.{Legal}
use Rattle.olap_meaning.proofs.Loads.{load_start, start_load}
use Rattle.olap_meaning.proofs.Positions.{entry_from-take}
use Rattle.segment_load.specs.Loads.{JobOf, job_cost}
use Rattle.history_core.specs.Cache.{CacheOf}
use Rattle.history_core.specs.Seats.{is_of_seat, entries_of}
use Rattle.cache_manager.specs.Jobs.{IsJobOf}
use Rattle.load_costs.specs.Costs.{cost}
use Rattle.load_costs.proofs.CostFacts.{cost_on}
use Rattle.manager_desk.specs.Delivered.{cost_by, costs_delivered}
use Rattle.manager_desk.specs.Keeping.{IsCount}
use Rattle.manager_desk.proofs.Lists.{sum_none, sum_same}
use Rattle.olap_meaning.proofs.Pushes.{flying_parts}
use Rattle.manager_desk.proofs.Seeing.{all_evictions}
use Rattle.olap_meaning.specs.declared.cells.CellSource.{CellSource}

-- a delivered load was started
done_started : (setting : Setting) (entries : List Entry) (i : ℕ) (who : Who) (j : ℕ) → Legal setting entries → slice_get entries i ≡ Some (Done who j) → (load : Load) × (load_at entries j ≡ Some load)
done_started setting entries i who j legal at =
    let parts = flying_parts (take i entries) j (legal i (Done who j) at).flies in
    let stood = entry_from-take i entries j (Start parts.0) (load_start (take i entries) j parts.0 parts.1) in
    (parts.0, start_load entries j parts.0 stood.0)

-- what an entry delivers has cost what it did
cost_by_stay : (setting : Setting) (entries more : List Entry) (seat : ℕ) → Legal setting entries → (i : ℕ) (e : Entry) → slice_get entries i ≡ Some e → cost_by setting.catalog (entries ++ more) seat e ≡ cost_by setting.catalog entries seat e
cost_by_stay setting entries more seat legal i (Append who cube version rows) at = refl
cost_by_stay setting entries more seat legal i (Agg who table v) at = refl
cost_by_stay setting entries more seat legal i (Flush who region) at = refl
cost_by_stay setting entries more seat legal i (Start load) at = refl
cost_by_stay setting entries more seat legal i (Drop who j) at = refl
cost_by_stay setting entries more seat legal i (Evict j) at = refl
cost_by_stay setting entries more seat legal i (Answer who cells) at = refl
cost_by_stay setting entries more seat legal i (Saw who) at = refl
cost_by_stay setting entries more seat legal i (Done who j) at =
    let load = done_started setting entries i who j legal at in
    ap (λ (n : ℕ). if who.seat == seat then n else 0) (cost_on setting.catalog entries more j load.0 load.1)

-- what was delivered in a history that goes on
delivered_on : (setting : Setting) (entries more : List Entry) (seat : ℕ) → Legal setting entries → costs_delivered setting.catalog seat (entries ++ more) ≡ costs_delivered setting.catalog seat entries + sum_by (cost_by setting.catalog (entries ++ more) seat) more
delivered_on setting entries more seat legal =
    sum_by-append (cost_by setting.catalog (entries ++ more) seat) entries more
    ∙ ap (λ (n : ℕ). n + sum_by (cost_by setting.catalog (entries ++ more) seat) more) (sum_same (cost_by setting.catalog (entries ++ more) seat) (cost_by setting.catalog entries seat) entries (cost_by_stay setting entries more seat legal))

-- entries that deliver nothing leave the count as it is
pub count_on : (setting : Setting) (entries more after : List Entry) (read : ℕ) → Legal setting entries → All (λ e. cost_by setting.catalog after 1 e ≡ 0) more → after ≡ entries ++ more → IsCount setting.catalog entries read → IsCount setting.catalog after read
count_on setting entries more after read legal none grown count =
    let whole : costs_delivered setting.catalog 1 (entries ++ more) ≡ costs_delivered setting.catalog 1 entries + sum_by (cost_by setting.catalog (entries ++ more) 1) more = delivered_on setting entries more 1 legal in
    let nothing : sum_by (cost_by setting.catalog (entries ++ more) 1) more ≡ 0 = ap (λ (es : List Entry). sum_by (cost_by setting.catalog es 1) more) (sym grown) ∙ sum_none (cost_by setting.catalog after 1) more none in
    let long : length (entries ++ more) ≡ length entries + length more = length-append entries more in
    let held : read ≡ costs_delivered setting.catalog 1 entries = count.counted in
    let is : IsCount setting.catalog (entries ++ more) read = record { counted = omega (arith, whole, nothing, held); small = omega (arith, long, count.small) } in
    subst (λ (es : List Entry). IsCount setting.catalog es read) (sym grown) is

pub count_starts : (setting : Setting) (entries after : List Entry) (loads : List Load) (read : ℕ) → Legal setting entries → after ≡ entries ++ map Start loads → IsCount setting.catalog entries read → IsCount setting.catalog after read
count_starts setting entries after loads read legal grown count = count_on setting entries (map Start loads) after read legal (none loads) grown count
  where
    none : (some : List Load) → All (λ e. cost_by setting.catalog after 1 e ≡ 0) (map Start some)
    none [] = All-nil (λ e. cost_by setting.catalog after 1 e ≡ 0)
    none (load ∷ others) = All-cons (λ e. cost_by setting.catalog after 1 e ≡ 0) (Start load) (map Start others) refl (none others)

pub count_one : (setting : Setting) (entries after : List Entry) (entry : Entry) (read : ℕ) → Legal setting entries → cost_by setting.catalog after 1 entry ≡ 0 → after ≡ entries ++ entry ∷ [] → IsCount setting.catalog entries read → IsCount setting.catalog after read
count_one setting entries after entry read legal none grown count =
    count_on setting entries (entry ∷ []) after read legal (All-cons (λ e. cost_by setting.catalog after 1 e ≡ 0) entry [] none (All-nil (λ e. cost_by setting.catalog after 1 e ≡ 0))) grown count

-- nor do an answer and evictions
pub count_answer :
    (setting : Setting) (entries after : List Entry) (who : Who) (cells : List CellSource) (evicted : List ℕ) (read : ℕ) → Legal setting entries → after ≡ entries ++ Answer who cells ∷ map Evict evicted → IsCount setting.catalog entries read
    → IsCount setting.catalog after read
count_answer setting entries after who cells evicted read legal grown count =
    count_on setting entries (Answer who cells ∷ map Evict evicted) after read legal
    (All-cons (λ e. cost_by setting.catalog after 1 e ≡ 0) (Answer who cells) (map Evict evicted) refl (all_evictions (λ e. cost_by setting.catalog after 1 e ≡ 0) (λ j. refl) evicted)) grown count

-- a delivery adds what its job has cost
pub count_done :
    (before after : CacheOf) (job : JobOf) (read : ℕ) → Legal before.setting before.entries → IsJobOf before job → job.who.seat ≡ 1 → job_cost job ≤ ROW_LIMIT
    → after.entries ≡ before.entries ++ Done job.who job.load ∷ [] → IsCount before.setting.catalog before.entries read → IsCount before.setting.catalog after.entries (read + job_cost job)
count_done before after job read legal is seat small grown count =
    let catalog = before.setting.catalog in
    let final = before.entries ++ Done job.who job.load ∷ [] in
    let here : cost_by catalog final 1 (Done job.who job.load) ≡ job_cost job =
    ap (λ (b : Bool). if b then cost catalog final job.load else 0) (eq-eqb job.who.seat 1 seat)
    ∙ cost_on catalog before.entries (Done job.who job.load ∷ []) job.load is.load is.flies.started
    ∙ sym is.costs in
    let one : sum_by (cost_by catalog final 1) (Done job.who job.load ∷ []) ≡ cost_by catalog final 1 (Done job.who job.load) + 0 = sum_by-cons (cost_by catalog final 1) (Done job.who job.load) [] in
    let whole = delivered_on before.setting before.entries (Done job.who job.load ∷ []) 1 legal in
    let long : length final ≡ length before.entries + 1 = length-append before.entries (Done job.who job.load ∷ []) in
    let held : read ≡ costs_delivered catalog 1 before.entries = count.counted in
    let next : IsCount catalog final (read + job_cost job) = record {
      counted = omega (arith, whole, one, here, held);
      small = omega (arith, long, count.small, small);
    } in
    subst (λ (es : List Entry). IsCount catalog es (read + job_cost job)) (sym grown) next

idle_cost : (catalog : Catalog) (entries : List Entry) (e : Entry) → is_of_seat 1 e ≡ false → cost_by catalog entries 1 e ≡ 0
idle_cost catalog entries (Append who cube version rows) other = refl
idle_cost catalog entries (Agg who table v) other = refl
idle_cost catalog entries (Flush who region) other = refl
idle_cost catalog entries (Start load) other = refl
idle_cost catalog entries (Drop who j) other = refl
idle_cost catalog entries (Evict j) other = refl
idle_cost catalog entries (Answer who cells) other = refl
idle_cost catalog entries (Saw who) other = refl
idle_cost catalog entries (Done who j) other = ap (λ (b : Bool). if b then cost catalog entries j else 0) other

none_delivered : (catalog : Catalog) (entries es : List Entry) → entries_of es 1 ≡ [] → All (λ e. cost_by catalog entries 1 e ≡ 0) es
none_delivered catalog entries [] unused = All-nil (λ e. cost_by catalog entries 1 e ≡ 0)
none_delivered catalog entries (e ∷ es) unused = by (is_of_seat 1 e) refl unused (none_delivered catalog entries es)
  where
    by : (b : Bool) → is_of_seat 1 e ≡ b → entries_of (e ∷ es) 1 ≡ [] → (entries_of es 1 ≡ [] → All (λ o. cost_by catalog entries 1 o ≡ 0) es) → All (λ o. cost_by catalog entries 1 o ≡ 0) (e ∷ es)
    by true at some rest = let has : e ∷ entries_of es 1 ≡ [] = rw at at some in absurd (cc)
    by false at some rest = All-cons (λ o. cost_by catalog entries 1 o ≡ 0) e es (idle_cost catalog entries e at) (rest (rw at at some))

-- a seat that has done nothing has had nothing delivered
pub unused_count : (catalog : Catalog) (entries : List Entry) → entries_of entries 1 ≡ [] → IsCount catalog entries 0
unused_count catalog entries unused = record { counted = sym (sum_none (cost_by catalog entries 1) entries (none_delivered catalog entries entries unused)); small = omega arith }

-- Where a run stands after one more call.
use Rattle.std.proofs.Common.{◌≡◌, refl, sym, ◌∙◌, ap, subst, ℕ, zero, suc, ◌+◌, ◌<◌, ◌≤◌, drop, take, List, [], ◌∷◌, ◌++◌, length, map, filter, Bool, true, false, not, ◌==◌, ◌||◌, inl, inr, Option, Some, None, get_or, arith, All, nat_lt}
use Rattle.std.specs.Prelude.{flat_map, insert, option_map, option_to_list, remove}
use Rattle.std.specs.List.{list_all, list_any}
use Rattle.std.proofs.lemmas.Bool.{and_from, and_parts, both_ways, eqb-true, eq-eqb, false_from_ne_true, lt-ltb, ltb-true, not-true, not_from_false, or_cases, or_left, or_right}
use Rattle.std.proofs.lemmas.List.{append-nil, map-append}
use Rattle.std.proofs.lemmas.List.Elements.{All-append, All-cons, All-head, All-nil, All-tail}
use Rattle.std.proofs.lemmas.List.Folds.{list_all-append}
use Rattle.olap_meaning.specs.declared.cells.Who.{Who}
use Rattle.olap_meaning.specs.declared.tables.Setting.{Setting}
use Rattle.olap_meaning.specs.Covering.{among}
use Rattle.olap_meaning.specs.History.{Entry, Drop, Start, Load, ends, is_some_and, load_at}
use Rattle.olap_meaning.specs.Legal.{Legal, caller, is_call_below, is_call_of, is_next_call}
use Rattle.segment_header.specs.Widening.{Allowing}
use Rattle.segment_load.specs.Loads.{JobOf, job_cost}
use Rattle.history_core.specs.Cache.{CacheOf}
use Rattle.cache_manager.specs.Jobs.{IsJobOf, apart}
use Rattle.history_core.specs.Groups.{numbers_from}
use Rattle.manager_calls.specs.Runs.{IsRun, IsStopped, MayReply, MayReplyAll, MayStart, Stage, drop_of, ended, ending, first_stage, is_below, next_stage, rows_of_job, rows_over, rows_tried, stage_after, stage_of}
use Rattle.manager_calls.specs.declared.calls.Call.{Call}
use Rattle.manager_calls.specs.declared.calls.Reply.{Reply}
use Rattle.history_core.proofs.SeatFacts.{none_of_seat}
use Rattle.cache_manager.specs.Laws.{JobsStay}
use Rattle.manager_calls.proofs.Numbers.{apart_joined, load_within, other_loads}

below_next : (n : ℕ) (o : Option Who) → is_below n o ≡ true → is_below (n + 1) o ≡ true
below_next n None h = refl
below_next n (Some who) h = let l : who.call < n = ltb-true who.call n h in lt-ltb who.call (n + 1) (omega (arith, l))

all_below_next : (n : ℕ) (entries : List Entry) → list_all (λ entry. is_below n (caller entry)) entries ≡ true → list_all (λ entry. is_below (n + 1) (caller entry)) entries ≡ true
all_below_next n [] all = refl
all_below_next n (e ∷ es) all = and_from _ _ (below_next n (caller e) (and_parts _ _ all).0) (all_below_next n es (and_parts _ _ all).1)

-- nothing was done
pub run_later : (cache : CacheOf) (jobs : List JobOf) (n : ℕ) → IsRun cache jobs n → IsRun cache jobs (n + 1)
run_later cache jobs n run = record { jobs_are = run.jobs_are; jobs_apart = run.jobs_apart; below = all_below_next n cache.entries run.below }

-- a call with the number of the next is the next of its seat
pub next_call : (who : Who) (entries : List Entry) → list_all (λ entry. is_below who.call (caller entry)) entries ≡ true → is_next_call entries who ≡ true
next_call who [] all = refl
next_call who (e ∷ es) all = by (caller e) refl (and_parts _ _ all).0 (next_call who es (and_parts _ _ all).1)
  where
    by : (o : Option Who) → caller e ≡ o → is_below who.call o ≡ true → list_all (is_call_below who.call) (filter (is_call_of who.seat) es) ≡ true → list_all (is_call_below who.call) (filter (is_call_of who.seat) (e ∷ es)) ≡ true
    by None told h rest = rw told rest
    by (Some other) told h rest = mine (other.seat == who.seat) refl
      where
        mine : (b : Bool) → (other.seat == who.seat) ≡ b → list_all (is_call_below who.call) (filter (is_call_of who.seat) (e ∷ es)) ≡ true
        mine true own = rw (told, own) (and_from (is_call_below who.call e) (list_all (is_call_below who.call) (filter (is_call_of who.seat) es)) (ap (is_some_and (λ (w : Who). nat_lt w.call who.call)) told ∙ h) rest)
        mine false own = rw (told, own) rest

module _ (before after : CacheOf) (later : List Entry) (same : after.setting ≡ before.setting) (grown : after.entries ≡ before.entries ++ later) (legal : Legal after.setting after.entries) (stay : JobsStay) where
  -- a job stays one of the cache's, where the entries do not end its load
  pub job_stays : (job : JobOf) → list_any (ends job.load) later ≡ false → IsJobOf before job → IsJobOf after job
  job_stays job none is =
      let lawful : Legal before.setting (before.entries ++ later) = subst (Legal before.setting) grown (subst (λ (s : Setting). Legal s after.entries) same legal) in
      let there : IsJobOf (record { setting = before.setting; entries = before.entries ++ later }) job = stay before job later lawful (none_of_seat (ends job.load) later job.who.seat none) is in
      subst (λ (s : Setting). IsJobOf (record { setting = s; entries = after.entries }) job) (sym same)
      (subst (λ (es : List Entry). IsJobOf (record { setting = before.setting; entries = es }) job) (sym grown) there)

  -- and so do jobs, where they end none of their loads
  pub jobs_stay : (jobs : List JobOf) → All (λ job. list_any (ends job.load) later ≡ false) jobs → All (IsJobOf before) jobs → All (IsJobOf after) jobs
  jobs_stay [] others all = All-nil (IsJobOf after)
  jobs_stay (job ∷ jobs) others all =
      All-cons (IsJobOf after) job jobs (job_stays job (All-head (λ j. list_any (ends j.load) later ≡ false) job jobs others) (All-head (IsJobOf before) job jobs all))
      (jobs_stay jobs (All-tail (λ j. list_any (ends j.load) later ≡ false) job jobs others) (All-tail (IsJobOf before) job jobs all))

  below_on : (n : ℕ) → list_all (λ e. is_below (n + 1) (caller e)) later ≡ true → list_all (λ e. is_below n (caller e)) before.entries ≡ true → list_all (λ e. is_below (n + 1) (caller e)) after.entries ≡ true
  below_on n here all =
      ap (list_all (λ e. is_below (n + 1) (caller e))) grown ∙ list_all-append (λ e. is_below (n + 1) (caller e)) before.entries later ∙ and_from _ _ (all_below_next n before.entries all) here

  -- more entries, which end no load that is out
  pub run_on : (jobs : List JobOf) (n : ℕ) → All (λ job. list_any (ends job.load) later ≡ false) jobs → list_all (λ e. is_below (n + 1) (caller e)) later ≡ true → IsRun before jobs n → IsRun after jobs (n + 1)
  run_on jobs n others here run = record { jobs_are = jobs_stay jobs others run.jobs_are; jobs_apart = run.jobs_apart; below = below_on n here run.below }

  -- more entries, which end the load of a job that is taken out
  pub run_ended : (jobs : List JobOf) (i n : ℕ) (job : JobOf) → i < length jobs → job ≡ get_or jobs i job → ((j : ℕ) → list_any (ends j) later ≡ ((job.load == j) || false)) → list_all (λ e. is_below (n + 1) (caller e)) later ≡ true → IsRun before jobs n → IsRun after (remove jobs i) (n + 1)
  run_ended jobs i n job l at just uncalled run =
      let out = taken_out jobs i job l at run.jobs_apart in
      record {
        jobs_are = jobs_stay (remove jobs i) (λ k d m. just _ ∙ ap (λ (b : Bool). b || false) (out.1 k d m)) (All-removed (IsJobOf before) jobs i run.jobs_are);
        jobs_apart = out.0;
        below = below_on n uncalled run.below;
      }
    where
      All-removed : {A : Type 0} (P : A → Type 0) (xs : List A) (i : ℕ) → All P xs → All P (remove xs i)
      All-removed P [] zero all = all
      All-removed P [] (suc i) all = all
      All-removed P (x ∷ xs) zero all = All-tail P x xs all
      All-removed P (x ∷ xs) (suc i) all = All-cons P x (remove xs i) (All-head P x xs all) (All-removed P xs i (All-tail P x xs all))

      among_removed : (jobs : List JobOf) (i v : ℕ) → among (map (λ job. job.load) (remove jobs i)) v ≡ true → among (map (λ job. job.load) jobs) v ≡ true
      among_removed [] zero v h = h
      among_removed [] (suc i) v h = h
      among_removed (x ∷ xs) zero v h = or_right (x.load == v) (among (map (λ job. job.load) xs) v) h
      among_removed (x ∷ xs) (suc i) v h =
          elim (or_cases (x.load == v) (among (map (λ job. job.load) (remove xs i)) v) h) [
            | inl here ↦ or_left (x.load == v) (among (map (λ job. job.load) xs) v) here
            | inr there ↦ or_right (x.load == v) (among (map (λ job. job.load) xs) v) (among_removed xs i v there)
          ]

      load_there : (jobs : List JobOf) (i : ℕ) (job : JobOf) → i < length jobs → job ≡ get_or jobs i job → among (map (λ j. j.load) jobs) job.load ≡ true
      load_there [] i job l at = absurd (omega (arith, l))
      load_there (x ∷ xs) zero job l at = or_left _ _ (eq-eqb x.load job.load (ap (λ (j : JobOf). j.load) (sym at)))
      load_there (x ∷ xs) (suc i) job l at = or_right (x.load == job.load) (among (map (λ j. j.load) xs) job.load) (load_there xs i job (omega (arith, l)) at)

      taken_out : (jobs : List JobOf) (i : ℕ) (job : JobOf) → i < length jobs → job ≡ get_or jobs i job → apart (map (λ j. j.load) jobs) ≡ true
          → (apart (map (λ j. j.load) (remove jobs i)) ≡ true) × All (λ j. (job.load == j.load) ≡ false) (remove jobs i)
      taken_out [] i job l at h = absurd (omega (arith, l))
      taken_out (x ∷ xs) zero job l at h =
          let parts = and_parts (not (among (map (λ j. j.load) xs) x.load)) (apart (map (λ j. j.load) xs)) h in
          let none : among (map (λ j. j.load) xs) job.load ≡ false = ap (λ (j : JobOf). among (map (λ o. o.load) xs) j.load) at ∙ not-true _ parts.0 in
          (parts.1, other_loads job.load xs none)
      taken_out (x ∷ xs) (suc i) job l at h =
          let parts = and_parts (not (among (map (λ j. j.load) xs) x.load)) (apart (map (λ j. j.load) xs)) h in
          let rest = taken_out xs i job (omega (arith, l)) at parts.1 in
          let new : among (map (λ j. j.load) xs) x.load ≡ false = not-true _ parts.0 in
          let still : among (map (λ j. j.load) (remove xs i)) x.load ≡ false = false_from_ne_true _ (λ k. both_ways _ new (among_removed xs i x.load k)) in
          let differs : (job.load == x.load) ≡ false = false_from_ne_true (job.load == x.load)
          (λ k. both_ways _ new (ap (among (map (λ j. j.load) xs)) (sym (eqb-true job.load x.load k)) ∙ load_there xs i job (omega (arith, l)) at)) in
          (and_from _ _ (not_from_false _ still) rest.0, All-cons (λ j. (job.load == j.load) ≡ false) x (remove xs i) differs rest.1)

-- a job that is put back where it was
pub put_back : {A : Type 0} (xs : List A) (i : ℕ) (x : A) → i < length xs → x ≡ get_or xs i x → insert (remove xs i) i x ≡ xs
put_back [] i x l at = absurd (omega (arith, l))
put_back (y ∷ ys) zero x l at = ap (λ z. z ∷ ys) at
put_back (y ∷ ys) (suc i) x l at = ap (λ zs. y ∷ zs) (put_back ys i x (omega (arith, l)) at)

starts_below : (n : ℕ) (loads : List Load) → list_all (λ e. is_below n (caller e)) (map Start loads) ≡ true
starts_below n [] = refl
starts_below n (load ∷ loads) = starts_below n loads

no_end_starts : (j : ℕ) (loads : List Load) → list_any (ends j) (map Start loads) ≡ false
no_end_starts j [] = refl
no_end_starts j (load ∷ loads) = no_end_starts j loads

loads_within : (cache : CacheOf) (jobs : List JobOf) → All (IsJobOf cache) jobs → list_all (λ n. nat_lt n (length cache.entries + 1)) (map (λ job. job.load) jobs) ≡ true
loads_within cache [] all = refl
loads_within cache (x ∷ xs) all =
    let is : IsJobOf cache x = All-head (IsJobOf cache) x xs all in
    and_from _ _ (load_within cache.entries x.load is.load is.flies.started) (loads_within cache xs (All-tail (IsJobOf cache) x xs all))

-- the jobs of a look are out, beside those that were
pub run_started :
    (before after : CacheOf) (old jobs : List JobOf) (n count : ℕ) (loads : List Load) → after.setting ≡ before.setting → after.entries ≡ before.entries ++ map Start loads → Legal after.setting after.entries → JobsStay
    → All (IsJobOf after) jobs → map (λ job. job.load) jobs ≡ numbers_from (length before.entries + 1) count → IsRun before old n
    → IsRun after (old ++ jobs) (n + 1)
run_started before after old jobs n count loads same grown legal stay all numbers run =
    let on : IsRun after old (n + 1) = run_on before after (map Start loads) same grown legal stay old n (λ k d l. no_end_starts _ loads) (starts_below (n + 1) loads) run in
    record {
      jobs_are = All-append (IsJobOf after) old jobs on.jobs_are all;
      jobs_apart =
          ap apart (map-append (λ job. job.load) old jobs ∙ ap (λ (ns : List ℕ). map (λ job. job.load) old ++ ns) numbers)
          ∙ apart_joined (map (λ job. job.load) old) (length before.entries + 1) count (loads_within before old run.jobs_are) run.jobs_apart;
      below = on.below;
    }

-- a run that stands so
abbrev at : CacheOf → List ℕ → ℕ → Stage
at cache out n = record { cache = cache; out = out; number = n }

-- a cache with more entries
abbrev with_more : CacheOf → List Entry → CacheOf
with_more cache more = record { setting = cache.setting; entries = cache.entries ++ more }

-- a run goes on to this: the same setting, these entries and these jobs
pub goes_on : (before after : CacheOf) (out out' : List ℕ) (n : ℕ) (more : List Entry) → after.setting ≡ before.setting → after.entries ≡ before.entries ++ more → out ≡ out' → at after out n ≡ at (with_more before more) out' n
goes_on before after out out' n more same grown left =
    ap (λ (s : Setting). at (record { setting = s; entries = after.entries }) out n) same
    ∙ ap (λ (es : List Entry). at (record { setting = before.setting; entries = es }) out n) grown
    ∙ ap (λ (ns : List ℕ). at (with_more before more) ns n) left

-- nothing was done
pub stays : (cache : CacheOf) (out : List ℕ) (n : ℕ) → at cache out n ≡ at (with_more cache []) out n
stays cache out n = ap (λ (es : List Entry). at (record { setting = cache.setting; entries = es }) out n) (sym (append-nil cache.entries))

pub map_remove : {A B : Type 0} (f : A → B) (xs : List A) (i : ℕ) → map f (remove xs i) ≡ remove (map f xs) i
map_remove f [] zero = refl
map_remove f [] (suc i) = refl
map_remove f (x ∷ xs) zero = refl
map_remove f (x ∷ xs) (suc i) = ap (λ ys. f x ∷ ys) (map_remove f xs i)

-- the entry that ends the load of a job that is out
pub ending_is : (cache : CacheOf) (jobs : List JobOf) (n i : ℕ) (job : JobOf) (end : Who → ℕ → Entry) → All (IsJobOf cache) jobs → i < length jobs → job ≡ get_or jobs i job → ending end (stage_of cache jobs n) i ≡ end job.who job.load ∷ []
ending_is cache [] n i job end all l at = absurd (omega (arith, l))
ending_is cache (x ∷ xs) n zero job end all l at =
    let is : IsJobOf cache x = All-head (IsJobOf cache) x xs all in
    ap (λ (o : Option Load). option_to_list (option_map (λ load. end load.who x.load) o)) is.flies.started
    ∙ ap (λ (w : Who). end w x.load ∷ []) is.flies.own ∙ ap (λ (j : JobOf). end j.who j.load ∷ []) (sym at)
ending_is cache (x ∷ xs) n (suc i) job end all l at = ending_is cache xs n i job end (All-tail (IsJobOf cache) x xs all) (omega (arith, l)) at

-- the rows of the load of a job that is out
pub rows_are : (cache : CacheOf) (jobs : List JobOf) (n i : ℕ) (job : JobOf) → All (IsJobOf cache) jobs → i < length jobs → job ≡ get_or jobs i job → rows_of_job (stage_of cache jobs n) i ≡ job_cost job
rows_are cache [] n i job all l at = absurd (omega (arith, l))
rows_are cache (x ∷ xs) n zero job all l at =
    let is : IsJobOf cache x = All-head (IsJobOf cache) x xs all in
    sym is.costs ∙ ap job_cost (sym at)
rows_are cache (x ∷ xs) n (suc i) job all l at = rows_are cache xs n i job (All-tail (IsJobOf cache) x xs all) (omega (arith, l)) at

-- a call may have this reply, and the loads that it starts their headers
abbrev pub MayFollow : Allowing → Stage → Call → Reply → Type 0
MayFollow allowing stage call reply = MayReply stage call reply × MayStart allowing stage call reply

-- the rows of calls, and those of one more
pub rows_more : (allowing : Allowing) (rows : Stage → Call → Reply → ℕ) (stage : Stage) (calls : List Call) (replies : List Reply) (call : Call) (reply : Reply) → MayReplyAll allowing stage calls replies
    → rows_over rows stage (calls ++ call ∷ []) (replies ++ reply ∷ []) ≡ rows_over rows stage calls replies + rows (stage_after stage calls replies) call reply
rows_more allowing rows stage [] [] call reply all = omega arith
rows_more allowing rows stage [] (r ∷ rs) call reply all = absurd all
rows_more allowing rows stage (c ∷ cs) [] call reply all = absurd all
rows_more allowing rows stage (c ∷ cs) (r ∷ rs) call reply all =
    let rest = rows_more allowing rows (next_stage stage c r) cs rs call reply all.1 in
    omega (arith, rest)

-- replies that may be, and one more
pub replies_more : (allowing : Allowing) (stage : Stage) (calls : List Call) (replies : List Reply) (call : Call) (reply : Reply) → MayReplyAll allowing stage calls replies → MayFollow allowing (stage_after stage calls replies) call reply
    → MayReplyAll allowing stage (calls ++ call ∷ []) (replies ++ reply ∷ []) × (stage_after stage (calls ++ call ∷ []) (replies ++ reply ∷ []) ≡ next_stage (stage_after stage calls replies) call reply)
replies_more allowing stage [] [] call reply all may = ((may, tt), refl)
replies_more allowing stage [] (r ∷ rs) call reply all may = absurd all
replies_more allowing stage (c ∷ cs) [] call reply all may = absurd all
replies_more allowing stage (c ∷ cs) (r ∷ rs) call reply all may =
    let rest = replies_more allowing (next_stage stage c r) cs rs call reply all.1 may in
    ((all.0, rest.0), rest.1)

-- what has come so far, the one that comes now, and the others
front_turn : {A : Type 0} (all xs : List A) (x : A) → xs ≡ take (length xs) all → length xs < length all → x ≡ get_or all (length xs) x → all ≡ (xs ++ x ∷ []) ++ drop (suc (length xs)) all
front_turn [] xs x e l here = absurd (omega (arith, l))
front_turn (y ∷ ys) [] x e l here = ap (λ z. z ∷ ys) (sym here)
front_turn (y ∷ ys) (z ∷ zs) x e l here =
    let first : y ≡ z = cc in
    let rest : zs ≡ take (length zs) ys = cc in
    rw (← first) (ap (λ vs. y ∷ vs) (front_turn ys zs x rest (omega (arith, l)) here))

map_same : {A : Type 0} (xs : List A) → map (λ x. x) xs ≡ xs
map_same [] = refl
map_same (x ∷ xs) = ap (λ ys. x ∷ ys) (map_same xs)

-- a run stops after a call, of which the reply is lost
pub stopped : (allowing : Allowing) (s t : Setting) (calls made : List Call) (replies : List Reply) (call : Call) (reply : Reply) (stage : Stage) (before middle after : ℕ) → t ≡ s → map (λ (k : Call). k) made ≡ take (length made) calls → length made < length calls → call ≡ get_or calls (length made) call
    → MayReplyAll allowing (first_stage t) made replies → stage ≡ stage_after (first_stage t) made replies → MayFollow allowing stage call reply → middle ≤ before + rows_over rows_tried (first_stage t) made replies → after ≤ middle + rows_tried stage call reply
    → IsStopped allowing (first_stage s) calls before after
stopped allowing s t calls made replies call reply stage before middle after same front within here all placed may most more =
    let P : Stage → Type 0 = λ st. MayFollow allowing st call reply in
    let next = replies_more allowing (first_stage t) made replies call reply all (subst P placed may) in
    let rows = rows_more allowing rows_tried (first_stage t) made replies call reply all in
    let one = ap (λ (st : Stage). rows_tried st call reply) placed in
    let Q : Setting → Type 0 = λ k. IsStopped allowing (first_stage k) calls before after in
    subst Q same
    (record {
      made = made ++ call ∷ [];
      left = drop (suc (length made)) calls;
      replies = replies ++ reply ∷ [];
      front = front_turn calls made call (sym (map_same made) ∙ front) within here;
      may = next.0;
      at_most = omega (arith, rows, one, most, more);
    })

drops_are : (cache : CacheOf) (jobs : List JobOf) → All (IsJobOf cache) jobs
    → flat_map (λ j. option_to_list (option_map (λ load. Drop load.who j) (load_at cache.entries j))) (map (λ job. job.load) jobs) ≡ map drop_of jobs
drops_are cache [] all = refl
drops_are cache (x ∷ xs) all =
    let is : IsJobOf cache x = All-head (IsJobOf cache) x xs all in
    ap (λ (o : Option Load). option_to_list (option_map (λ load. Drop load.who x.load) o) ++ flat_map (λ j. option_to_list (option_map (λ load. Drop load.who j) (load_at cache.entries j))) (map (λ job. job.load) xs)) is.flies.started
    ∙ ap (λ (w : Who). Drop w x.load ∷ flat_map (λ j. option_to_list (option_map (λ load. Drop load.who j) (load_at cache.entries j))) (map (λ job. job.load) xs)) is.flies.own
    ∙ ap (λ (es : List Entry). drop_of x ∷ es) (drops_are cache xs (All-tail (IsJobOf cache) x xs all))

-- a run ends once the jobs that are out are abandoned
pub ended_is : (cache after : CacheOf) (jobs : List JobOf) (n : ℕ) → All (IsJobOf cache) jobs → after.setting ≡ cache.setting → after.entries ≡ cache.entries ++ map drop_of jobs → after ≡ ended (stage_of cache jobs n)
ended_is cache after jobs n all same grown =
    ap (λ (s : Setting). with_entries s after.entries) same
    ∙ ap (with_entries cache.setting) (grown ∙ ap (λ (es : List Entry). cache.entries ++ es) (sym (drops_are cache jobs all)))
  where
    with_entries : Setting → List Entry → CacheOf
    with_entries s es = record { setting = s; entries = es }

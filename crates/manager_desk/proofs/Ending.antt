-- Jobs that are out stay so, while one after another is ended.
use Rattle.std.proofs.Common.{◌≡◌, refl, sym, ◌∙◌, ap, subst, arith, ℕ, zero, suc, ◌+◌, ◌<◌, ◌≤◌, length, List, [], ◌∷◌, ◌++◌, append_assoc, map, Bool, true, false, not, ◌==◌, inl, inr, None, All, is_some}
use Rattle.std.specs.List.{list_all}
use Rattle.std.specs.Prelude.{sum_by}
use Rattle.std.proofs.lemmas.Bool.{and_parts, both_ways, false_from_ne_true, not-true, or_cases, or_from}
use Rattle.std.proofs.lemmas.List.{append-nil, map_push}
use Rattle.std.proofs.lemmas.List.Elements.{All-cons, All-head, All-nil, All-tail, All-weaker}
use Rattle.std.proofs.lemmas.List.Sums.{sum_by_push}
use Rattle.olap_meaning.specs.declared.tables.Setting.{Setting}
use Rattle.olap_meaning.specs.Covering.{among}
use Rattle.olap_meaning.specs.History.{Agg, Answer, Append, Done, Drop, Entry, Evict, Flush, Saw, Start, ends, flying, started}
use Rattle.olap_meaning.specs.Legal.{Legal}
use Rattle.segment_load.specs.Loads.{JobOf, job_cost}
use Rattle.history_core.specs.Cache.{CacheOf}
use Rattle.history_core.specs.Seats.{NoneFlies}
use Rattle.cache_manager.specs.Jobs.{IsJobOf, apart}
use Rattle.history_core.proofs.SeatFacts.{none_of_seat}
use Rattle.cache_manager.specs.Laws.{JobsStay}
use Rattle.line_session.specs.Desks.{drops_are_last, is_drop, with_more}
use Rattle.manager_desk.specs.Ends.{AreEndsOf, AreOut, EndsJobs, done_of, end_of}
use Rattle.manager_desk.specs.Keeping.{IsCount}
use Rattle.manager_desk.proofs.Joining.{same_cache}
use Rattle.olap_meaning.proofs.Pushes.{flying_back}
use Rattle.manager_desk.proofs.Seeing.{other_loads}

end_ends : (job : JobOf) (b : Bool) (j : ℕ) → ends j (end_of job b) ≡ (job.load == j)
end_ends job true j = refl
end_ends job false j = refl

end_starts : (job : JobOf) (b : Bool) → started (end_of job b) ≡ None
end_starts job true = refl
end_starts job false = refl

-- jobs stay those of their loads, where an entry ends none of these
jobs_stay :
    (law : JobsStay) (before after : CacheOf) (entry : Entry) → after.setting ≡ before.setting → after.entries ≡ before.entries ++ entry ∷ [] → Legal after.setting after.entries
    → (jobs : List JobOf) → All (λ job. ends job.load entry ≡ false) jobs → All (IsJobOf before) jobs → All (IsJobOf after) jobs
jobs_stay law before after entry same grown legal jobs others all =
    let is : after ≡ with_more before (entry ∷ []) = same_cache after (with_more before (entry ∷ [])) same grown in
    let after_legal : Legal before.setting (before.entries ++ entry ∷ []) = subst (λ (cache : CacheOf). Legal cache.setting cache.entries) is legal in
    subst (λ (cache : CacheOf). All (IsJobOf cache) jobs) (sym is) (each after_legal jobs others all)
  where
    each : Legal before.setting (before.entries ++ entry ∷ []) → (js : List JobOf) → All (λ job. ends job.load entry ≡ false) js → All (IsJobOf before) js → All (IsJobOf (with_more before (entry ∷ []))) js
    each legal [] others all = All-nil (IsJobOf (with_more before (entry ∷ [])))
    each legal (job ∷ js) others all =
        let other : ends job.load entry ≡ false = All-head (λ j. ends j.load entry ≡ false) job js others in
        All-cons (IsJobOf (with_more before (entry ∷ []))) job js
        (law before job (entry ∷ []) legal (none_of_seat (ends job.load) (entry ∷ []) job.who.seat (or_from _ _ other refl)) (All-head (IsJobOf before) job js all))
        (each legal js (All-tail (λ j. ends j.load entry ≡ false) job js others) (All-tail (IsJobOf before) job js all))

-- the jobs after one that was ended
rest_out :
    (law : JobsStay) (before after : CacheOf) (job : JobOf) (rest : List JobOf) (b : Bool) → after.setting ≡ before.setting → after.entries ≡ before.entries ++ end_of job b ∷ [] → Legal after.setting after.entries → All (IsJobOf before) (job ∷ rest) → apart (map (λ j. j.load) (job ∷ rest)) ≡ true → AreOut before.entries (job ∷ rest)
    → All (IsJobOf after) rest × (apart (map (λ j. j.load) rest) ≡ true) × AreOut after.entries rest
rest_out law before after job rest b same grown legal all different out =
    let parts = and_parts (not (among (map (λ j. j.load) rest) job.load)) (apart (map (λ j. j.load) rest)) different in
    let others : All (λ o. ends o.load (end_of job b) ≡ false) rest =
    All-weaker (λ o. (job.load == o.load) ≡ false) (λ o. ends o.load (end_of job b) ≡ false) (λ o other. end_ends job b o.load ∙ other) rest (other_loads job.load rest (not-true _ parts.0)) in (
      jobs_stay law before after (end_of job b) same grown legal rest others (All-tail (IsJobOf before) job rest all),
      parts.1,
      λ j flies.
          let back = flying_back before.entries (end_of job b) j (ap (λ (es : List Entry). flying es j) (sym grown) ∙ flies) in
          let other : (job.load == j) ≡ false = sym (end_ends job b j) ∙ back.0 in
          elim back.1 [
            | inl old ↦ elim (or_cases (job.load == j) (among (map (λ o. o.load) rest) j) (out j old)) [ inl here ↦ absurd (both_ways _ other here) | inr there ↦ there ]
            | inr new ↦ let none : is_some (started (end_of job b)) ≡ false = ap is_some (end_starts job b) in absurd (both_ways _ none new.1)
          ],
    )

ends_push : (jobs : List JobOf) (es : List Entry) (job : JobOf) (b : Bool) → AreEndsOf jobs es → AreEndsOf (jobs ++ job ∷ []) (es ++ end_of job b ∷ [])
ends_push [] [] job true are = (inl refl, tt)
ends_push [] [] job false are = (inr refl, tt)
ends_push [] (e ∷ es) job b are = absurd are
ends_push (j ∷ js) [] job b are = absurd are
ends_push (j ∷ js) (e ∷ es) job b are = (are.0, ends_push js es job b are.1)

-- one more that is given up stands last
drop_last : (es : List Entry) (job : JobOf) → drops_are_last es ≡ true → drops_are_last (es ++ end_of job false ∷ []) ≡ true
drop_last [] job last = refl
drop_last (Drop who load ∷ es) job last = all_drops es last
  where
    all_drops : (es : List Entry) → list_all is_drop es ≡ true → list_all is_drop (es ++ end_of job false ∷ []) ≡ true
    all_drops [] all = refl
    all_drops (e ∷ es) all = let parts = and_parts (is_drop e) (list_all is_drop es) all in rw (parts.0) (all_drops es parts.1)
drop_last (Start load ∷ es) job last = drop_last es job last
drop_last (Done who load ∷ es) job last = drop_last es job last
drop_last (Append who cube version rows ∷ es) job last = drop_last es job last
drop_last (Flush who region ∷ es) job last = drop_last es job last
drop_last (Answer who sources ∷ es) job last = drop_last es job last
drop_last (Evict load ∷ es) job last = drop_last es job last
drop_last (Agg who table version ∷ es) job last = drop_last es job last
drop_last (Saw who ∷ es) job last = drop_last es job last

-- where all are delivered, none is given up
dones_last : (jobs : List JobOf) → drops_are_last (map done_of jobs) ≡ true
dones_last [] = refl
dones_last (job ∷ jobs) = dones_last jobs

dones_end : (jobs : List JobOf) → AreEndsOf jobs (map done_of jobs)
dones_end [] = tt
dones_end (job ∷ jobs) = (inl refl, dones_end jobs)

all_done : (before after : List Entry) (jobs : List JobOf) → after ≡ before ++ map done_of jobs → EndsJobs before after jobs
all_done before after jobs is = record { ends = map done_of jobs; are = dones_end jobs; given_up = dones_last jobs; entries = is }

-- one more job was given up, or all so far are delivered, and one more is
ended_more :
    (before middle after : List Entry) (jobs : List JobOf) (job : JobOf) (b : Bool) → EndsJobs before middle jobs → after ≡ middle ++ end_of job b ∷ [] → (b ≡ true → after ≡ before ++ map done_of (jobs ++ job ∷ [])) → EndsJobs before after (jobs ++ job ∷ [])
ended_more before middle after jobs job true so_far end delivered = all_done before after (jobs ++ job ∷ []) (delivered refl)
ended_more before middle after jobs job false so_far end delivered = record {
  ends = so_far.ends ++ end_of job false ∷ [];
  are = ends_push jobs so_far.ends job false so_far.are;
  given_up = drop_last so_far.ends job so_far.given_up;
  entries = end ∙ ap (λ (es : List Entry). es ++ end_of job false ∷ []) so_far.entries ∙ append_assoc before so_far.ends (end_of job false ∷ []);
}

-- some jobs are ended, one after another: those so far are ended, and the others are out
pub record IsEnding (before now : CacheOf) (jobs rest : List JobOf) (run : Bool) (first steps read : ℕ) : Type 0 where
  pub done : List JobOf
  pub whole : jobs ≡ done ++ rest
  pub setting : now.setting ≡ before.setting
  pub are : All (IsJobOf now) rest
  pub seats : All (λ job. job.who.seat ≡ 1) rest
  pub different : apart (map (λ job. job.load) rest) ≡ true
  pub complete : AreOut now.entries rest
  pub ended : EndsJobs before.entries now.entries done
  pub delivered : run ≡ true → now.entries ≡ before.entries ++ map done_of done
  pub count : IsCount before.setting.catalog now.entries read
  pub cost : run ≡ true → steps ≡ first + sum_by job_cost done
  pub at_least : first ≤ steps
  pub at_most : steps ≤ first + sum_by job_cost done

-- at first all are out
pub none_ended :
    (before : CacheOf) (jobs : List JobOf) (first read : ℕ) → All (IsJobOf before) jobs → All (λ job. job.who.seat ≡ 1) jobs → apart (map (λ job. job.load) jobs) ≡ true → AreOut before.entries jobs → IsCount before.setting.catalog before.entries read
    → IsEnding before before jobs jobs true first first read
none_ended before jobs first read are seats different complete count = record {
  done = [];
  whole = refl;
  setting = refl;
  are = are;
  seats = seats;
  different = different;
  complete = complete;
  ended = record { ends = []; are = tt; given_up = refl; entries = sym (append-nil before.entries) };
  delivered = λ run. sym (append-nil before.entries);
  count = count;
  cost = λ run. omega arith;
  at_least = omega arith;
  at_most = omega arith;
}

-- then the first that is out is ended
pub one_ended :
    (law : JobsStay) (before now after : CacheOf) (jobs rest : List JobOf) (job : JobOf) (run b : Bool) (first steps stepped read counted : ℕ) → IsEnding before now jobs (job ∷ rest) run first steps read
    → after.setting ≡ now.setting → after.entries ≡ now.entries ++ end_of job b ∷ [] → Legal after.setting after.entries → IsCount now.setting.catalog after.entries counted
    → (b ≡ true → run ≡ true) → (b ≡ true → stepped ≡ steps + job_cost job) → steps ≤ stepped → stepped ≤ steps + job_cost job → IsEnding before after jobs rest b first stepped counted
one_ended law before now after jobs rest job run b first steps stepped read counted so_far same grown legal count failed cost least most =
    let out = rest_out law now after job rest b same grown legal so_far.are so_far.different so_far.complete in
    let sums = sum_by_push job_cost so_far.done job in
    let delivered : b ≡ true → after.entries ≡ before.entries ++ map done_of (so_far.done ++ job ∷ []) = λ all.
    grown
    ∙ ap (λ (c : Bool). now.entries ++ end_of job c ∷ []) all
    ∙ ap (λ (es : List Entry). es ++ done_of job ∷ []) (so_far.delivered (failed all))
    ∙ append_assoc before.entries (map done_of so_far.done) (done_of job ∷ [])
    ∙ ap (λ (es : List Entry). before.entries ++ es) (sym (map_push done_of so_far.done job)) in
    record {
      done = so_far.done ++ job ∷ [];
      whole = so_far.whole ∙ sym (append_assoc so_far.done (job ∷ []) rest);
      setting = same ∙ so_far.setting;
      are = out.0;
      seats = All-tail (λ j. j.who.seat ≡ 1) job rest so_far.seats;
      different = out.1;
      complete = out.2;
      ended = ended_more before.entries now.entries after.entries so_far.done job b so_far.ended grown delivered;
      delivered = delivered;
      count = subst (λ (s : Setting). IsCount s.catalog after.entries counted) so_far.setting count;
      cost = λ all. let here = cost all in let before_it = so_far.cost (failed all) in omega (arith, here, before_it, sums);
      at_least = omega (arith, least, so_far.at_least);
      at_most = omega (arith, most, so_far.at_most, sums);
    }

-- and where none is left, all are
pub none_left : (n : ℕ) → (0 < n → ⊥) → n ≡ 0
none_left zero some = refl
none_left (suc n) some = absurd (some (omega arith))

pub all_ended :
    (before now : CacheOf) (jobs rest : List JobOf) (run : Bool) (first steps read n : ℕ) → n ≡ length rest → n ≡ 0 → IsEnding before now jobs rest run first steps read → IsEnding before now jobs [] run first steps read
all_ended before now jobs [] run first steps read n long none is = is
all_ended before now jobs (job ∷ rest) run first steps read n long none is = absurd (omega (arith, long, none))

pub whole_done : (before now : CacheOf) (jobs : List JobOf) (run : Bool) (first steps read : ℕ) (is : IsEnding before now jobs [] run first steps read) → is.done ≡ jobs
whole_done before now jobs run first steps read is = sym (is.whole ∙ append-nil is.done)

-- then none flies
pub all_closed : (entries : List Entry) → AreOut entries [] → NoneFlies entries
all_closed entries out j = false_from_ne_true _ (λ flies. both_ways _ refl (out j flies))

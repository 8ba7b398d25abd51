-- A load that is one's own flies, as far as one's own entries tell.
use Rattle.std.proofs.Common.{◌≡◌, refl, sym, ◌∙◌, ap, ℕ, zero, suc, ◌<◌, List, [], ◌∷◌, take, filter, Bool, true, false, ◌==◌, Option, Some, None, slice_get, option_map}
use Rattle.std.specs.List.{list_any}
use Rattle.std.proofs.lemmas.Bool.{both_ways, eqb-true, eq-eqb, false_from_ne_true, or_left, or_right}
use Rattle.olap_meaning.specs.declared.cells.Who.{Who}
use Rattle.olap_meaning.specs.declared.tables.Setting.{Setting}
use Rattle.olap_meaning.specs.History.{Entry, Append, Agg, Flush, Start, Done, Drop, Evict, Answer, Saw, Load, entry_at, is_some_and, load_at, starter, ends, flying}
use Rattle.olap_meaning.specs.Legal.{Legal, LegalStep, IsLegalEnd}
use Rattle.olap_meaning.proofs.Positions.{after_passes, entry_from-take}
use Rattle.olap_meaning.proofs.Loads.{load_start, start_load}
use Rattle.history_core.specs.Cache.{CacheOf}
use Rattle.cache_manager.specs.Jobs.{IsOwn}
use Rattle.history_core.specs.Seats.{actor, is_of_seat}
use Rattle.olap_meaning.proofs.Pushes.{flying_from}

any_filtered : {A : Type 0} (keep test : A → Bool) (xs : List A) (i : ℕ) (x : A) → slice_get xs i ≡ Some x → keep x ≡ true → test x ≡ true → list_any test (filter keep xs) ≡ true
any_filtered keep test [] i x at k t = absurd (cc)
any_filtered keep test (y ∷ ys) zero x at k t =
    let same : y ≡ x = cc in
    let keeps : keep y ≡ true = ap keep same ∙ k in
    rw keeps (or_left _ _ (ap test same ∙ t))
any_filtered keep test (y ∷ ys) (suc i) x at k t = by (keep y) refl (any_filtered keep test ys i x at k t)
  where
    by : (b : Bool) → keep y ≡ b → list_any test (filter keep ys) ≡ true → list_any test (filter keep (y ∷ ys)) ≡ true
    by true e rest = rw e (or_right _ _ rest)
    by false e rest = rw e rest

-- who ends a load in a legal history is who started it
end_own : (setting : Setting) (history : List Entry) (e : Entry) (j : ℕ) → LegalStep setting history e → ends j e ≡ true → (w : Who) × (actor e ≡ Some w) × (starter history j ≡ Some w)
end_own setting history (Append w c v r) j step h = absurd (cc)
end_own setting history (Agg w t v) j step h = absurd (cc)
end_own setting history (Flush w r) j step h = absurd (cc)
end_own setting history (Start l) j step h = absurd (cc)
end_own setting history (Done w k) j step h = (w, refl, ap (starter history) (sym (eqb-true k j h)) ∙ step.own)
end_own setting history (Drop w k) j step h = (w, refl, ap (starter history) (sym (eqb-true k j h)) ∙ step.own)
end_own setting history (Evict k) j step h = absurd (cc)
end_own setting history (Answer w cs) j step h = absurd (cc)
end_own setting history (Saw w) j step h = absurd (cc)

some_starter : (o : Option Load) (who : Who) → option_map (λ (load : Load). load.who) o ≡ Some who → (load : Load) × (o ≡ Some load) × (load.who ≡ who)
some_starter None who h = absurd (cc)
some_starter (Some load) who h = (load, refl, cc)

pub own_flies : (cache : CacheOf) (who : Who) (j : ℕ) (load : Load) → Legal cache.setting cache.entries → IsOwn cache who j load → flying cache.entries j ≡ true
own_flies cache who j load legal own = flying_from cache.entries j load own.started (false_from_ne_true _ none)
  where
    by : (q : ℕ) (e : Entry) → entry_at cache.entries q ≡ Some e → ends j e ≡ true → ⊥
    by zero e at f = absurd (cc)
    by (suc b) e at f =
        let ended = end_own cache.setting (take b cache.entries) e j (legal b e at) f in
        let started = some_starter (load_at (take b cache.entries) j) ended.0 ended.2 in
        let stood = entry_from-take b cache.entries j (Start started.0) (load_start (take b cache.entries) j started.0 started.1) in
        let loads : Some started.0 ≡ Some load = sym (start_load cache.entries j started.0 stood.0) ∙ own.started in
        let same : started.0 ≡ load = cc in
        let seats : ended.0.seat ≡ who.seat = ap (λ (w : Who). w.seat) (sym started.2 ∙ ap (λ (l : Load). l.who) same ∙ own.own) in
        let mine : is_of_seat who.seat e ≡ true = ap (is_some_and (λ (w : Who). w.seat == who.seat)) ended.1 ∙ eq-eqb ended.0.seat who.seat seats in
        both_ways _ own.unended (any_filtered (is_of_seat who.seat) (ends j) cache.entries b e at mine f)

    none : list_any (ends j) cache.entries ≡ true → ⊥
    none h =
        let found : (q : ℕ) × (e : Entry) × (entry_at cache.entries q ≡ Some e) × (0 < q) × (ends j e ≡ true) = after_passes (ends j) 0 cache.entries h in
        by found.0 found.1 found.2 found.4

-- and it may be ended
pub own_ends : (cache : CacheOf) (who : Who) (j : ℕ) (load : Load) → Legal cache.setting cache.entries → IsOwn cache who j load → IsLegalEnd cache.entries who j
own_ends cache who j load legal own = record {
  flies = own_flies cache who j load legal own;
  own = ap (option_map (λ (l : Load). l.who)) own.started ∙ ap Some own.own;
}

-- What was found on the shelf is what the history says.
use Rattle.std.proofs.Common.{◌≡◌, ◌∙◌, ap, subst, length, sym, arith, All, List, false, filter}
use Rattle.std.specs.Vec.{vec_len}
use Rattle.std.proofs.lemmas.Bool.{eqb-false, eqb-true}
use Rattle.history_core.specs.Cache.{CacheOf}
use Rattle.history_core.specs.Groups.{wanting}
use Rattle.cache_manager.specs.Found.{AreServed, IsPlaced, cells_of, wants}
use Rattle.cell_groups.specs.Lent.{lent}
use Rattle.cell_groups.proofs.GroupFacts.{length-lent}
use Rattle.cache_manager.specs.Rollups.{AreKept}
use Rattle.cache_manager.specs.declared.findings.Hit.{Hit}
use Rattle.cache_manager.specs.declared.rollups.Rollup.{Rollup}
use Rattle.cache_manager.proofs.Ends.{cache_of}
use Rattle.cache_manager.proofs.Searching.{all_found, all_placed, all_served, wanted_found}
use Rattle.cache_manager.proofs.manager.Manager.find.Goals as goal

pub returns-then-not-is_empty : goal.returns-then-not-is_empty
returns-then-not-is_empty c =
    let kept : AreKept c.self.inside.history.setting.catalog c.self.inside.history.entries c.self.inside.shelf.loads = record { are = c.self.invariant.kept_are; every = c.self.invariant.kept_all } in
    let wanted : lent c.in_ok-wanted.wanted.items ≡ cells_of (filter wants c.in_ok-found.found.hits.items) = c.in_ok-wanted.ensures ∙ ap (λ (hits : List Hit). cells_of (filter wants hits)) c.deref.ensures.value in
    let told : lent c.in_ok-wanted.wanted.items ≡ wanting c.self.inside.history.setting.catalog c.self.inside.history.entries c.args.cells.now =
    wanted_found (cache_of c.self.inside.history) c.self.inside.shelf.loads kept c.args.cells.now c.in_ok-found.found.hits.items c.in_ok-found.found.rollups.items c.in_ok-found.ensures.cells c.in_ok-found.ensures.hits c.in_ok-found.ensures.rollups c.in_ok-wanted.wanted.items wanted in
    let here : lent c.in_ok-wanted.wanted.items ≡ wanting c.args.self.now.setting.catalog c.args.self.now.entries c.args.cells.now = told ∙ ap (λ (k : CacheOf). wanting k.setting.catalog k.entries c.args.cells.now) c.self.view_is in
    let some = eqb-false (vec_len c.in_ok-wanted.wanted) 0 (sym c.is_empty.ensures ∙ c.if-not-is_empty.true) in
    let many : length (wanting c.args.self.now.setting.catalog c.args.self.now.entries c.args.cells.now) ≡ vec_len c.in_ok-wanted.wanted = sym (ap length here) ∙ length-lent c.in_ok-wanted.wanted.items ∙ sym c.in_ok-wanted.wanted.ok.0 in
    (here, omega (arith, many, some))

pub all_answered-requires-clause-served : goal.all_answered-requires-clause-served
all_answered-requires-clause-served c =
    let kept : AreKept c.self.inside.history.setting.catalog c.self.inside.history.entries c.self.inside.shelf.loads = record { are = c.self.invariant.kept_are; every = c.self.invariant.kept_all } in
    let wanted : lent c.in_ok-wanted.wanted.items ≡ cells_of (filter wants c.in_ok-found.found.hits.items) = c.in_ok-wanted.ensures ∙ ap (λ (hits : List Hit). cells_of (filter wants hits)) c.deref.ensures.value in
    let empty : vec_len c.in_ok-wanted.wanted ≡ 0 = eqb-true _ 0 (sym c.is_empty.ensures ∙ c.if-not-is_empty.false) in
    subst (All (λ hit. wants hit ≡ false)) (sym c.deref-3.ensures.value)
    (all_found (cache_of c.self.inside.history) c.self.inside.shelf.loads kept c.args.cells.now c.in_ok-found.found.hits.items c.in_ok-found.found.rollups.items c.in_ok-found.ensures.cells c.in_ok-found.ensures.hits c.in_ok-found.ensures.rollups c.in_ok-wanted.wanted.items wanted
    (sym c.in_ok-wanted.wanted.ok.0 ∙ empty))

pub all_sources-requires-clause-served : goal.all_sources-requires-clause-served
all_sources-requires-clause-served c =
    let kept : AreKept c.self.inside.history.setting.catalog c.self.inside.history.entries c.self.inside.shelf.loads = record { are = c.self.invariant.kept_are; every = c.self.invariant.kept_all } in
    let wanted : lent c.in_ok-wanted.wanted.items ≡ cells_of (filter wants c.in_ok-found.found.hits.items) = c.in_ok-wanted.ensures ∙ ap (λ (hits : List Hit). cells_of (filter wants hits)) c.deref.ensures.value in
    let empty : vec_len c.in_ok-wanted.wanted ≡ 0 = eqb-true _ 0 (sym c.is_empty.ensures ∙ c.if-not-is_empty.false) in
    subst (All (λ hit. wants hit ≡ false)) (sym c.deref-6.ensures.value)
    (all_found (cache_of c.self.inside.history) c.self.inside.shelf.loads kept c.args.cells.now c.in_ok-found.found.hits.items c.in_ok-found.found.rollups.items c.in_ok-found.ensures.cells c.in_ok-found.ensures.hits c.in_ok-found.ensures.rollups c.in_ok-wanted.wanted.items wanted
    (sym c.in_ok-wanted.wanted.ok.0 ∙ empty))

pub all_sources-requires-clause-placed : goal.all_sources-requires-clause-placed
all_sources-requires-clause-placed c =
    let kept : AreKept c.self.inside.history.setting.catalog c.self.inside.history.entries c.self.inside.shelf.loads = record { are = c.self.invariant.kept_are; every = c.self.invariant.kept_all } in
    subst (λ (rollups : List Rollup). All (λ hit. IsPlaced rollups hit.found) c.deref-6.result.now) (sym c.deref-7.ensures.value)
    (subst (All (λ hit. IsPlaced c.in_ok-found.found.rollups.items hit.found)) (sym c.deref-6.ensures.value)
    (all_placed (cache_of c.self.inside.history) c.self.inside.shelf.loads kept c.args.cells.now c.in_ok-found.found.hits.items c.in_ok-found.found.rollups.items c.in_ok-found.ensures.cells c.in_ok-found.ensures.hits c.in_ok-found.ensures.rollups))

pub returns : goal.returns
returns c =
    let kept : AreKept c.self.inside.history.setting.catalog c.self.inside.history.entries c.self.inside.shelf.loads = record { are = c.self.invariant.kept_are; every = c.self.invariant.kept_all } in
    let wanted : lent c.in_ok-wanted.wanted.items ≡ cells_of (filter wants c.in_ok-found.found.hits.items) = c.in_ok-wanted.ensures ∙ ap (λ (hits : List Hit). cells_of (filter wants hits)) c.deref.ensures.value in
    let empty : vec_len c.in_ok-wanted.wanted ≡ 0 = eqb-true _ 0 (sym c.is_empty.ensures ∙ c.if-not-is_empty.false) in
    let some =
    all_found (cache_of c.self.inside.history) c.self.inside.shelf.loads kept c.args.cells.now c.in_ok-found.found.hits.items c.in_ok-found.found.rollups.items c.in_ok-found.ensures.cells c.in_ok-found.ensures.hits c.in_ok-found.ensures.rollups c.in_ok-wanted.wanted.items wanted
    (sym c.in_ok-wanted.wanted.ok.0 ∙ empty) in
    subst (λ (k : CacheOf). AreServed k c.args.cells.now c.in_ok-all_answered.field-0 c.in_ok-all_sources.field-0) c.self.view_is
    (all_served (cache_of c.self.inside.history) c.self.inside.shelf.loads kept c.args.cells.now c.in_ok-found.found.hits.items c.in_ok-found.found.rollups.items c.in_ok-found.ensures.cells c.in_ok-found.ensures.hits c.in_ok-found.ensures.rollups c.in_ok-all_answered.field-0 c.in_ok-all_sources.field-0 c.in_ok-found.ensures.firsts some
    (rw (c.deref-6.ensures.value, c.deref-7.ensures.value) at c.in_ok-all_sources.ensures) (rw (c.deref-3.ensures.value, c.deref-4.ensures.value) at c.in_ok-all_answered.ensures.values)
    (rw (c.deref-3.ensures.value, c.deref-4.ensures.value) at c.in_ok-all_answered.ensures.versions))

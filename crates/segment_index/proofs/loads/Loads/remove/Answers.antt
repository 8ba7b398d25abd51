-- That `remove` takes the load out of the map, and its number and its groups out of what is counted.
use Rattle.std.proofs.Common.{◌≡◌, ◌∙◌, ◌≤◌, ℕ, Some, ap, find, length, nat_eq, option_map, sym, arith}
use Rattle.std.proofs.lemmas.List.Elements.{All-from_recursion, recursion_from_All}
use Rattle.std.specs.Prelude.{◌==◌}
use Rattle.cache_flush.specs.Loads.{KeptOf, kept_in}
use Rattle.cache_flush.specs.declared.kept.Kept.{Kept}
use Rattle.segment_index.proofs.LeftFacts.{groups_enough, left_different, left_held, left_just, left_loads, left_numbered}
use Rattle.segment_index.proofs.LoadFacts.{load_looked, loads_of}
use Rattle.segment_index.proofs.SwapFacts.{all_swapped}
use Rattle.segment_index.proofs.loads.Loads.remove.Goals as goal

pub returns-in_err-kept-clause-taken : goal.returns-in_err-kept-clause-taken
returns-in_err-kept-clause-taken c =
    let (numbered, differ, just, held, within) = c.self.invariant in
    let looked = load_looked c.self.inside.shut.regions c.self.inside.by_number.entries c.args.load numbered in
    rw (c.from_residual.ensures, ← c.self.view_is) (ap (option_map (kept_in c.self.inside.shut.regions)) (sym c.in_err-kept.was ∙ c.swap_remove.ensures.value) ∙ looked)

pub returns-in_err-kept-clause-left : goal.returns-in_err-kept-clause-left
returns-in_err-kept-clause-left c =
    let (numbered, differ, just, held, within) = c.self.invariant in
    rw (c.swap_remove.ensures.entries, ← c.self.view_is) (left_loads c.self.inside.shut.regions c.self.inside.by_number.entries c.args.load numbered differ)

pub overflow_sub-self : goal.overflow_sub-self
overflow_sub-self c =
    let (numbered, differ, just, held, within) = c.self.invariant in
    let es = c.self.inside.by_number.entries in
    let found : find (λ (kept : KeptOf). kept.load == c.args.load) (loads_of c.self.inside.shut.regions es) ≡ Some (kept_in c.self.inside.shut.regions c.in_ok-kept.kept) =
    sym (load_looked c.self.inside.shut.regions es c.args.load numbered) ∙ ap (option_map (kept_in c.self.inside.shut.regions)) (sym c.swap_remove.ensures.value ∙ c.in_ok-kept.was) in
    let enough = groups_enough c.self.inside.shut.regions es c.args.load numbered differ c.self.inside.groups (kept_in c.self.inside.shut.regions c.in_ok-kept.kept) held found in
    omega (arith, enough, c.from.ensures, c.groups.ensures.count)

pub invariant_of-self-2 : goal.invariant_of-self-2
invariant_of-self-2 c =
    let (numbered, differ, just, held, within) = c.self.invariant in
    let es = c.self.inside.by_number.entries in
    let found : find (λ (kept : KeptOf). kept.load == c.args.load) (loads_of c.self.inside.shut.regions es) ≡ Some (kept_in c.self.inside.shut.regions c.in_ok-kept.kept) =
    sym (load_looked c.self.inside.shut.regions es c.args.load numbered) ∙ ap (option_map (kept_in c.self.inside.shut.regions)) (sym c.swap_remove.ensures.value ∙ c.in_ok-kept.was) in
    rw c.swap_remove.ensures.entries (
      left_numbered c.self.inside.shut.regions es c.args.load numbered,
      left_different c.self.inside.shut.regions es c.args.load numbered (rw c.swap_remove.ensures.entries at c.swap_remove.ensures.unique),
      left_just c.self.inside.shut.regions es c.args.load numbered differ c.self.inside.numbers.items c.remove.new.self.items just c.remove.ensures.members,
      rw (c.from.ensures, c.groups.ensures.count) (left_held c.self.inside.shut.regions es c.args.load numbered differ c.self.inside.groups (kept_in c.self.inside.shut.regions c.in_ok-kept.kept) held found),
      All-from_recursion (λ (e : ℕ × Kept). e.1.place ≤ length c.self.inside.shut.regions) _ (all_swapped (λ (e : ℕ × Kept). e.1.place ≤ length c.self.inside.shut.regions) (nat_eq c.args.load) es (recursion_from_All (λ (e : ℕ × Kept). e.1.place ≤ length c.self.inside.shut.regions) es within)),
    )

pub returns-clause-taken : goal.returns-clause-taken
returns-clause-taken c =
    let (numbered, differ, just, held, within) = c.self.invariant in
    rw (← c.self.view_is) (sym (sym (load_looked c.self.inside.shut.regions c.self.inside.by_number.entries c.args.load numbered) ∙ ap (option_map (kept_in c.self.inside.shut.regions)) (sym c.swap_remove.ensures.value ∙ c.in_ok-kept.was)))

pub returns-clause-left : goal.returns-clause-left
returns-clause-left c =
    let (numbered, differ, just, held, within) = c.self.invariant in
    rw (c.swap_remove.ensures.entries, ← c.self.view_is) (left_loads c.self.inside.shut.regions c.self.inside.by_number.entries c.args.load numbered differ)

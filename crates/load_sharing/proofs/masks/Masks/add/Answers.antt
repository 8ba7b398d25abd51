-- That `add` counts one more, and for no other mask.
use Rattle.std.proofs.Common.{◌≡◌, ◌<◌, ◌∙◌, ◌+◌, ◌^◌, ap, sym, refl, Some, None, nat_eq, rules, arith}
use Rattle.std.specs.Option.{option_copied_mut}
use Rattle.std.specs.Map.{lookup}
use Rattle.load_sharing.proofs.CountFacts.{count_found, counts_changed, on_ok}
use Rattle.load_sharing.proofs.masks.Masks.add.Goals as goal

pub overflow_add-count : goal.overflow_add-count
overflow_add-count c =
    let had : lookup (nat_eq c.args.mask) c.self.inside.by_mask.entries ≡ Some c.in-Some.count.now = sym c.get_mut.ensures.value ∙ ap option_copied_mut c.in-Some.is in
    let fits : c.in-Some.count.now + 1 < 2 ^ 64 = rw (← c.self.view_is, count_found c.self.inside.by_mask.entries c.args.mask, had) at c.requires.fits in
    omega (arith, fits)

pub returns-in-Some-clause-counts : goal.returns-in-Some-clause-counts
returns-in-Some-clause-counts c =
    let had : lookup (nat_eq c.args.mask) c.self.inside.by_mask.entries ≡ Some c.in-Some.count.now = sym c.get_mut.ensures.value ∙ ap option_copied_mut c.in-Some.is in
    let written = (c.get_mut.follows.holds (c.in-Some.count.now + 1)).3 (search rules) in
    rw (← c.self.view_is) (counts_changed (λ n. n + 1) c.self.inside.by_mask.entries _ c.args.mask (Some c.in-Some.count.now) _ had written.0 refl)

pub returns-clause-counts : goal.returns-clause-counts
returns-clause-counts c =
    let had : lookup (nat_eq c.args.mask) c.self.inside.by_mask.entries ≡ None = sym c.get_mut.ensures.value ∙ ap option_copied_mut c.in_default.is in
    let ok = sym c.is_ok.ensures.value ∙ c.if-prove.false in
    let updates = rw c.get_mut.follows.holds-at-none at (on_ok c.insert-added.result ok c.insert-added.ensures.updates) in
    rw (← c.self.view_is) (counts_changed (λ n. n + 1) c.self.inside.by_mask.entries _ c.args.mask None (Some 1) had updates.0 refl)

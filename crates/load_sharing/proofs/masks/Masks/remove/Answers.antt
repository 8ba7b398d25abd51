-- That `remove` counts one less, and for no other mask.
use Rattle.std.proofs.Common.{◌≡◌, ◌∙◌, ◌-◌, ap, sym, refl, Some, None, nat_eq, cond, rules, arith}
use Rattle.std.specs.Option.{option_copied_mut}
use Rattle.std.specs.Map.{lookup}
use Rattle.load_sharing.proofs.CountFacts.{counts_changed, taken_out}
use Rattle.load_sharing.proofs.masks.Masks.remove.Goals as goal
use Rattle.load_sharing.proofs.masks.Masks.remove.Goals.{in-Some+else-count-gt1, in_default}

pub returns-then-count-gt1-clause-counts : goal.returns-then-count-gt1-clause-counts
returns-then-count-gt1-clause-counts c =
    let had : lookup (nat_eq c.args.mask) c.self.inside.by_mask.entries ≡ Some c.in-Some.count.now = sym c.get_mut.ensures.value ∙ ap option_copied_mut c.in-Some.is in
    let written = (c.get_mut.follows.holds (c.in-Some.count.now - 1)).3 (search rules) in
    rw (← c.self.view_is) (counts_changed (λ n. n - 1) c.self.inside.by_mask.entries _ c.args.mask (Some c.in-Some.count.now) _ had written.0 refl)

pub returns-clause-counts : goal.returns-clause-counts
returns-clause-counts c =
    elim c.match-get_mut.branch [
      | in-Some+else-count-gt1 w ↦
          let had : lookup (nat_eq c.args.mask) c.self.inside.by_mask.entries ≡ Some w.in-Some.count.now = sym c.get_mut.ensures.value ∙ ap option_copied_mut w.in-Some.is in
          let written = (c.get_mut.follows.holds w.in-Some.count.now).3 (search rules) in
          let updates = rw w.self-inside-is at c.swap_remove.ensures.updates in
          let none_left : 0 ≡ w.in-Some.count.now - 1 = let last = w.if-count-gt1.false in omega (arith, last) in
          rw (← c.self.view_is)
          (counts_changed (λ n. n - 1) c.self.inside.by_mask.entries c.swap_remove.new.self.entries c.args.mask (Some w.in-Some.count.now) None had
          (λ q. updates.0 q ∙ ap (cond (nat_eq c.args.mask q) None) (written.0 q) ∙ taken_out (nat_eq c.args.mask q) (Some w.in-Some.count.now) (lookup (nat_eq q) c.self.inside.by_mask.entries)) none_left)
      | in_default w ↦
          let had : lookup (nat_eq c.args.mask) c.self.inside.by_mask.entries ≡ None = sym c.get_mut.ensures.value ∙ ap option_copied_mut w.in_default.is in
          let updates = rw (w.self-inside-is, c.get_mut.follows.holds-at-none) at c.swap_remove.ensures.updates in
          rw (← c.self.view_is) (counts_changed (λ n. n - 1) c.self.inside.by_mask.entries c.swap_remove.new.self.entries c.args.mask None None had updates.0 refl)
    ]

-- That `insert` puts the load last, and its number in its place.
use Rattle.std.proofs.Common.{◌∙◌, ◌≤◌, ℕ, nat_eq, arith, length, sym}
use Rattle.std.proofs.lemmas.List.Elements.{All-push}
use Rattle.indexmap.proofs.CallerLemmas.{insert_entry-new}
use Rattle.cache_flush.specs.Loads.{kept_in}
use Rattle.cache_flush.specs.declared.kept.Kept.{Kept}
use Rattle.segment_index.proofs.LeftFacts.{groups_fit, more_held, more_just}
use Rattle.segment_index.proofs.LoadFacts.{differ_push, load_absent, loads_length, loads_of, loads_push, numbered_push, on_ok}
use Rattle.segment_index.proofs.loads.Loads.insert.Goals as goal

pub overflow_add-self : goal.overflow_add-self
overflow_add-self c =
    let same = loads_length c.self.inside.shut.regions c.self.inside.by_number.entries in
    let fits = groups_fit (loads_of c.self.inside.shut.regions c.self.inside.by_number.entries) c.self.inside.groups c.from.result c.self.invariant.3 (omega (arith, same, c.len-held.ensures.len)) (omega (arith, c.from.ensures)) in
    omega (arith, fits)

pub invariant_of-self : goal.invariant_of-self
invariant_of-self c =
    let (numbered, differ, just, held, within) = c.self.invariant in
    let another = rw (← c.self.view_is) at c.requires.another in
    let none = load_absent c.self.inside.shut.regions c.self.inside.by_number.entries c.args.kept.load numbered another in
    let entries = on_ok c.insert-added.result (sym c.is_ok.ensures.value ∙ c.if-prove.false) c.insert-added.ensures.entries ∙ insert_entry-new nat_eq c.self.inside.by_number c.args.kept.load c.args.kept none in
    rw entries (
      numbered_push c.self.inside.shut.regions c.self.inside.by_number.entries c.args.kept numbered,
      differ_push c.self.inside.shut.regions c.self.inside.by_number.entries c.args.kept differ another,
      rw (loads_push c.self.inside.shut.regions c.self.inside.by_number.entries c.args.kept) (more_just (loads_of c.self.inside.shut.regions c.self.inside.by_number.entries) (kept_in c.self.inside.shut.regions c.args.kept) c.self.inside.numbers.items c.insert.new.self.items just c.insert.ensures.members),
      rw (loads_push c.self.inside.shut.regions c.self.inside.by_number.entries c.args.kept, c.from.ensures, c.groups.ensures.count)
          (more_held (loads_of c.self.inside.shut.regions c.self.inside.by_number.entries) (kept_in c.self.inside.shut.regions c.args.kept) c.self.inside.groups held (omega (arith, c.groups.ensures.count))),
      All-push (λ (e : ℕ × Kept). e.1.place ≤ length c.self.inside.shut.regions) c.self.inside.by_number.entries (c.args.kept.load, c.args.kept) within (rw (← c.self.view_is) at c.requires.since),
    )

pub returns-clause-loads : goal.returns-clause-loads
returns-clause-loads c =
    let another = rw (← c.self.view_is) at c.requires.another in
    let none = load_absent c.self.inside.shut.regions c.self.inside.by_number.entries c.args.kept.load c.self.invariant.0 another in
    let entries = on_ok c.insert-added.result (sym c.is_ok.ensures.value ∙ c.if-prove.false) c.insert-added.ensures.entries ∙ insert_entry-new nat_eq c.self.inside.by_number c.args.kept.load c.args.kept none in
    rw (entries, ← c.self.view_is) (loads_push c.self.inside.shut.regions c.self.inside.by_number.entries c.args.kept)

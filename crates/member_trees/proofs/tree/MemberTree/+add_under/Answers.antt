use Rattle.std.proofs.Common.{◌≡◌, ◌+◌, ◌-◌, ◌<◌, ◌≤◌, ℕ, suc, List, [], ◌∷◌, ◌++◌, ap, ◌∙◌, sym, length, get_or, flat_map, take, append-nil, arith}
use Rattle.olap_meaning.specs.Catalog.{at_depth, below, under}
use Rattle.member_trees.specs.Trees.{TreeOf}
use Rattle.member_trees.proofs.Steps.{next-is, next-long, span-next, add-step, add-all}
use Rattle.member_trees.proofs.Under.{under-none}
use Rattle.member_trees.proofs.tree.MemberTree.+add_under.Goals as goal
use Rattle.member_trees.proofs.tree.MemberTree.+add_under.Goals.{then-depth-self+in_ok-copied+in_ok-push+in_ok-add_under, else-depth-self+in_ok-push-2}

pub loop-place-init : goal.loop-place-init
loop-place-init t c =
    let leaves = c.args.self.now.leaves in
    let none : c.args.span.start - c.args.span.start ≡ 0 = omega arith in
    sym (ap (λ (n : ℕ). c.args.paths.now ++ flat_map (λ next. next ∷ under leaves (c.args.self.now.levels - suc (length c.args.path.now)) next) (take n (below leaves c.args.path.now))) none ∙ append-nil c.args.paths.now)

pub add_under-requires : goal.add_under-requires
add_under-requires t c =
    let leaves = c.args.self.now.leaves in
    let path = c.args.path.now in
    let next = c.in_ok-next.next in
    let value = (get_or c.row-row.result.now c.loop-place.place c.index-row-place.result).value in
    let long : length next ≡ suc (length path) = next-long path next value c.in_ok-next.ensures in
    let is : next ≡ get_or (at_depth leaves (suc (length path))) c.loop-place.place [] = c.in_ok-next.ensures ∙ next-is c.requires.at c.row-row.result.now c.index-row-place.result c.loop-place.place c.row-row.ensures.nodes c.loop-place.auto.place c.loop-place-test.true in
    let at-next : next ≡ get_or (at_depth leaves (length next)) c.loop-place.place [] = is ∙ ap (λ (d : ℕ). get_or (at_depth leaves d) c.loop-place.place []) (sym long) in
    let now : c.as_slice-then-depth-self.result.now ≡ next = c.as_slice-then-depth-self.ensures in
    let levels : c.self.inside.levels ≡ c.args.self.now.levels = ap (λ (t : TreeOf). t.levels) c.self.view_is in
    let len : length c.as_slice-then-depth-self.result.now ≡ length next = ap length now in
    let in' : length path + 1 < c.self.inside.levels = c.if-depth-self.true in
    let is-t : c.args.self.now.levels - length path ≡ t = c.decreases in
    let above = c.requires.above_leaves in
    let smaller : c.args.self.now.levels - length c.as_slice-then-depth-self.result.now < t = omega (arith, is-t, len, long, above) in
    let depth : length path + 1 ≡ length next = omega (arith, long) in (
      smaller,
      (omega (arith, len, long, in', levels), span-next leaves (length path + 1) c.loop-place.place c.span_at.result.start c.span_at.result.end next c.as_slice-then-depth-self.result.now depth now at-next c.span_at.ensures),
    )

pub loop-place-preserved : goal.loop-place-preserved
loop-place-preserved t c =
    let leaves = c.args.self.now.leaves in
    let path = c.args.path.now in
    let next = c.in_ok-next.next in
    let value = (get_or c.row-row.result.now c.loop-place.place c.index-row-place.result).value in
    let long : length next ≡ suc (length path) = next-long path next value c.in_ok-next.ensures in
    let is : next ≡ get_or (at_depth leaves (suc (length path))) c.loop-place.place [] = c.in_ok-next.ensures ∙ next-is c.requires.at c.row-row.result.now c.index-row-place.result c.loop-place.place c.row-row.ensures.nodes c.loop-place.auto.place c.loop-place-test.true in
    let levels : c.self.inside.levels ≡ c.args.self.now.levels = ap (λ (t : TreeOf). t.levels) c.self.view_is in
    let new : c.if-depth-self.paths ≡ (c.loop-place.paths ++ next ∷ []) ++ under leaves (c.args.self.now.levels - length next) next =
    elim c.if-depth-self.branch [
      | then-depth-self+in_ok-copied+in_ok-push+in_ok-add_under w ↦
          let copy : w.in_ok-copied.field-0 ≡ next = w.in_ok-copied.ensures ∙ w.as_slice.ensures in
          let pushed : w.push.new.self ≡ c.loop-place.paths ++ w.in_ok-copied.field-0 ∷ [] = w.in_ok-push.ensures.ok in
          let now : w.as_slice-then-depth-self.result.now ≡ next = w.as_slice-then-depth-self.ensures in
          let added : w.add_under.new.paths ≡ w.push.new.self ++ under leaves (c.args.self.now.levels - length w.as_slice-then-depth-self.result.now) w.as_slice-then-depth-self.result.now = w.in_ok-add_under.ensures in
          w.paths-is ∙ added
          ∙ ap (λ (one : List ℕ). w.push.new.self ++ under leaves (c.args.self.now.levels - length one) one) now
          ∙ ap (λ (xs : List (List ℕ)). xs ++ under leaves (c.args.self.now.levels - length next) next) (pushed ∙ ap (λ (x : List ℕ). c.loop-place.paths ++ x ∷ []) copy)
      | else-depth-self+in_ok-push-2 w ↦
          let past : c.self.inside.levels ≤ length path + 1 = w.if-depth-self.false in
          let pushed : w.push-else-depth-self.new.self ≡ c.loop-place.paths ++ next ∷ [] = w.in_ok-push-2.ensures.ok in
          w.paths-is ∙ pushed ∙ sym (append-nil (c.loop-place.paths ++ next ∷ []))
          ∙ ap (λ (xs : List (List ℕ)). (c.loop-place.paths ++ next ∷ []) ++ xs) (sym (under-none leaves c.args.self.now.levels (length next) next (omega (arith, long, past, levels))))
    ] in
    add-step c.requires.at c.args.self.now.levels c.loop-place.place next c.args.paths.now c.loop-place.paths c.if-depth-self.paths c.loop-place.auto.place c.loop-place-test.true long is c.loop-place.invariant new

pub returns : goal.returns
returns t c =
    c.loop-place.invariant ∙ ap (λ (xs : List (List ℕ)). c.args.paths.now ++ xs) (add-all c.requires.at c.args.self.now.levels c.loop-place.place c.loop-place-test.false c.requires.above_leaves)

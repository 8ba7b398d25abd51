-- That `crossed` ensures `ok` and `own`.
use Rattle.std.proofs.Common.{◌≡◌, ◌∙◌, ◌++◌, sym, ap, if◌then◌else◌, true}
use Rattle.query_meaning.specs.Resolution.{twice}
use Rattle.cell_request.proofs.PartFacts.{crossed_count, crossing_is, crossing_own}
use Rattle.cell_request.proofs.parts.crossed.Goals as goal
use Rattle.cell_request.proofs.parts.crossed.Goals.{then-first, else-first}

pub returns-clause-ok : goal.returns-clause-ok
returns-clause-ok c =
    let first = c.args.first in
    let second = c.args.second in
    let roots : c.share_roots.new.roots ≡ first.roots ++ second.roots = c.in_ok-share_roots.ensures.added ∙ ap (λ r. first.roots ++ r) c.as_slice.ensures in
    let is_open : c.if-first.result ≡ (if first.is_open then true else second.is_open) = elim c.if-first.branch [
      | then-first w ↦ w.result-is ∙ w.if-first.true ∙ sym (ap (λ b. if b then true else second.is_open) w.if-first.true)
      | else-first w ↦ w.result-is ∙ sym (ap (λ b. if b then true else second.is_open) w.if-first.false)
    ] in
    crossing_is c.args.catalog.now c.args.cube first second (record { roots = c.share_roots.new.roots; is_open = c.if-first.result; count = c.saturating_mul-count.result; plan = c.in_ok-plan.plan }) roots
    (c.in_ok-plan.ensures.listed c.args.catalog.now c.args.cube (crossed_count c.args.catalog.now c.args.cube first second _ c.requires.first c.requires.second c.saturating_mul-count.ensures))
    is_open (ap (λ r. twice c.args.catalog.now (first.roots ++ r)) (sym c.as_slice.ensures) ∙ c.in_ok-share_roots.ensures.ok)

pub returns-clause-own : goal.returns-clause-own
returns-clause-own c =
    let first = c.args.first in
    let second = c.args.second in
    let count = crossed_count c.args.catalog.now c.args.cube first second c.saturating_mul-count.result c.requires.first c.requires.second c.saturating_mul-count.ensures in
    crossing_own c.args.catalog.now c.args.cube first second (record { roots = c.share_roots.new.roots; is_open = c.if-first.result; count = c.saturating_mul-count.result; plan = c.in_ok-plan.plan })
    (c.in_ok-share_roots.ensures.added ∙ ap (λ r. first.roots ++ r) c.as_slice.ensures) (c.in_ok-plan.ensures.listed c.args.catalog.now c.args.cube count) c.requires.first c.requires.second
    (c.in_ok-plan.ensures.own c.args.catalog.now c.args.cube c.requires.first.plan c.requires.second.plan) count

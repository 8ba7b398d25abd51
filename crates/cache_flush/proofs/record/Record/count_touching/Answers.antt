-- Nothing is counted where the region does not touch the header, or was not flushed after the place.
use Rattle.std.proofs.Common.{◌≡◌, ◌∙◌, false, refl, sym}
use Rattle.olap_meaning.specs.Covering.{region_touches}
use Rattle.cache_flush.proofs.Recording.{none_after}
use Rattle.cache_flush.proofs.record.Record.count_touching.Goals as goal
use Rattle.cache_flush.proofs.record.Record.count_touching.Goals.{else-is_after-via-then-is_after+else-touches, else-is_after-via-else-is_after}

pub returns-else-is_after : goal.returns-else-is_after
returns-else-is_after c =
    elim c.else-is_after.branch [
      | else-is_after-via-then-is_after+else-touches w ↦
          let out : region_touches c.args.self.now.region c.args.header.now ≡ false = sym w.touches.ensures ∙ w.if-touches.false in
          rw out refl
      | else-is_after-via-else-is_after w ↦
          sym (none_after (λ region. region_touches region c.args.header.now) c.args.since c.args.self.now (sym c.is_after.ensures ∙ w.if-is_after.false))
    ]

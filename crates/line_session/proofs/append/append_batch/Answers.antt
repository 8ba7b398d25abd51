-- An append that stands is replied to with its version.
use Rattle.std.proofs.Common.{refl, Some, inl}
use Rattle.line_session.proofs.append.append_batch.Goals as goal

pub returns-in-Ok : goal.returns-in-Ok
returns-in-Ok g c asked = (Some c.in-Ok.appended.position, inl (record { told = c.in-Ok.appended; appends = c.in-Ok.ensures.appended; position_is = refl; text = c.reply_to_appended.ensures }))

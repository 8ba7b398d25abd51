-- The item is the one at the place.
use Rattle.std.proofs.Common.{refl}
use Rattle.std.proofs.lemmas.Option.{slice_get_read}
use Rattle.cache_manager.proofs.answers.told_at.Goals as goal

pub returns : goal.returns
returns c = slice_get_read c.args.told.now _ c.args.place c.index-told-place.result refl c.requires c.index-told-place.is

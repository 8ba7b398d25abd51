-- Of the bytes that may be lines fewer are left after each line.
use Rattle.std.proofs.Common.{◌≡◌, refl, ◌∙◌, ℕ, ◌+◌, ◌-◌, ◌<◌, ◌≤◌, List, ◌++◌, length, arith}
use Rattle.std.specs.Prelude.{Ok}
use Rattle.std.proofs.lemmas.List.{length-append}
use Rattle.outside.specs.Event.{Event}
use Rattle.input_lines.specs.declared.next.Next.TheVariants as next
use Rattle.input_lines.specs.Reader.{GivesHeldLine, Heard, Hears, Reading, SaysNext, Tells, allowed, at_end, beyond, cut_off, ends, enough, fails, known, over, piece, piece_beyond, spent}
use Rattle.input_lines.proofs.Fronts.{shorter}

more_held : (held bytes : List ℕ) (room : ℕ) → length bytes ≤ room → length (held ++ bytes) + (room - length bytes) ≡ length held + room
more_held held bytes room within = let size = length-append held bytes in omega (arith, size, within)

-- whatever is heard, as many bytes may be lines
hears_allowed : {reading all : Reading} {events : List Event} {heard : Heard} → Hears reading events all heard → allowed all ≡ allowed reading
hears_allowed (known needs) = refl
hears_allowed (beyond needs some) = refl
hears_allowed (over needs none is) = refl
hears_allowed (ends needs may) = refl
hears_allowed (fails needs may) = refl
hears_allowed {reading} (piece bytes needs may some within rest) = hears_allowed rest ∙ more_held reading.held bytes reading.room within
hears_allowed {reading} (piece_beyond bytes last needs may within rest) = hears_allowed rest ∙ more_held reading.held bytes reading.room (omega (arith, within))

gives_fewer : (all after : Reading) → GivesHeldLine all after → allowed after < allowed all
gives_fewer all after gives = let fewer = shorter gives.begins in omega (arith, fewer, gives.rest.room)

says_fewer : (heard : Heard) (all after : Reading) → SaysNext heard all after (Ok next.Line) → allowed after < allowed all
says_fewer enough all after says = gives_fewer all after says
says_fewer at_end all after says = gives_fewer all after says
says_fewer spent all after says = absurd says
says_fewer cut_off all after says = absurd says

-- after a line fewer bytes may be lines
pub tells_fewer : (before after : Reading) (events : List Event) → Tells before events after (Ok next.Line) → allowed after < allowed before
tells_fewer before after events tells =
    let same = hears_allowed tells.hears in
    let fewer = says_fewer tells.heard tells.all after tells.answer in
    omega (arith, same, fewer)

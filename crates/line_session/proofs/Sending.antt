-- What is taken of a link while a session is served.
use Rattle.std.proofs.Common.{◌≡◌, refl, ◌∙◌, ap, ℕ, List, [], ◌∷◌, ◌++◌, take, append-nil}
use Rattle.std.specs.Prelude.{Result}
use Rattle.outside.specs.Event.{Event}
use Rattle.outside.specs.Talks.{taken}
use Rattle.outside.specs.Told.{TakesFront}
use Rattle.outside.specs.declared.source.Failed.{Failed}
use Rattle.outside.proofs.TalkFacts.{taken-append}
use Rattle.input_lines.specs.Reader.{Heard, Hears, Reading, Tells, beyond, ends, fails, known, over, piece, piece_beyond}
use Rattle.input_lines.specs.declared.next.Next.{Next}
use Rattle.line_session.specs.Conversations.{IsCutOff, sent}

-- what was taken where a reply was sent whole
taken_sent : (reply : List ℕ) → taken (sent reply) ≡ reply
taken_sent [] = refl
taken_sent (b ∷ bs) = append-nil (b ∷ bs)

-- nothing is taken while a reader hears
hears_takes_none : {reading all : Reading} {events : List Event} {heard : Heard} → Hears reading events all heard → taken events ≡ []
hears_takes_none (known needs) = refl
hears_takes_none (beyond needs some) = refl
hears_takes_none (over needs none is) = refl
hears_takes_none (ends needs may) = refl
hears_takes_none (fails needs may) = refl
hears_takes_none (piece bytes needs may some within rest) = hears_takes_none rest
hears_takes_none (piece_beyond bytes last needs may within rest) = hears_takes_none rest

-- what is taken while a reader hears and then more passes is what is taken of this
pub taken_behind : (a b : List Event) (reading then : Reading) (told : Result Next Failed) (heard last : List Event) → Tells reading heard then told → b ≡ a ++ (heard ++ last) → taken b ≡ taken a ++ taken last
taken_behind a b reading then told heard last tells passed =
    ap taken passed ∙ taken-append a (heard ++ last) ∙ ap (λ (bs : List ℕ). taken a ++ bs) (taken-append heard last ∙ ap (λ (bs : List ℕ). bs ++ taken last) (hears_takes_none tells.hears))

-- a reply that was sent whole
pub sent_whole : (before after : List ℕ) (last : List Event) (reply : List ℕ) → after ≡ before ++ taken last → last ≡ sent reply → after ≡ before ++ reply
sent_whole before after last reply passed is = passed ∙ ap (λ (es : List Event). before ++ taken es) is ∙ ap (λ (bs : List ℕ). before ++ bs) (taken_sent reply)

-- one that was cut off
pub sent_front : (before after : List ℕ) (last : List Event) (reply : List ℕ) → after ≡ before ++ taken last → IsCutOff reply last → TakesFront before after reply
sent_front before after last reply passed is = (is.taken, passed ∙ ap (λ (es : List Event). before ++ taken es) is.events_are ∙ ap (λ (bs : List ℕ). before ++ bs) (append-nil (take is.taken reply)))

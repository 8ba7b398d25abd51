-- What a reader hears, one receive after another.
use Rattle.std.proofs.Common.{◌≡◌, ◌≢◌, refl, sym, ◌∙◌, ap, subst, ℕ, ◌+◌, ◌<◌, ◌≤◌, inl, inr, List, [], ◌∷◌, ◌++◌, length, take, get_or, true, arith, append_assoc, append-nil}
use Rattle.std.proofs.lemmas.Bool.{cases_lt}
use Rattle.std.proofs.lemmas.List.{length-take-le}
use Rattle.std.proofs.lemmas.List.Sums.{prefix_len-le-length}
use Rattle.std.specs.Prelude.{not, Option, Result, Ok, Err}
use Rattle.outside.specs.Event.{Event, gave, ended, gave_not}
use Rattle.outside.specs.declared.source.Failed.{Failed}
use Rattle.input_lines.specs.declared.next.Next.{Next}
use Rattle.input_lines.specs.declared.next.Next.TheVariants as next
use Rattle.input_lines.specs.declared.next.Found.{Found}
use Rattle.input_lines.specs.declared.next.Found.TheVariants as found
use Rattle.input_lines.specs.Reader.{Finds, GivesHeldLine, HasHeard, HasReceived, Heard, Hears, IsFound, Keeps, KeepsRoom, MayReceive, NeedsNoMore, NeedsNothing, Reading, SaysNext, Tells, at_end, beyond, cut_off, ends, enough, fails, heard_of, is_lf, known, line_length, over, piece, piece_beyond, received, spent, with_received}
use Rattle.input_lines.proofs.Receiving.{beyond_split, with_received-beyond, with_received-few, with_received-none}

-- what has passed so far: what is heard from here on is, with it, what is heard from the start on
pub record SoFar (start now : List Event) (old new : Reading) : Type 0 where
  pub events : List Event
  pub passed : now ≡ start ++ events
  pub on : (more : List Event) (all : Reading) (heard : Heard) → Hears new more all heard → Hears old (events ++ more) all heard

-- nothing has passed
pub none_so_far : (talk : List Event) (reading : Reading) → SoFar talk talk reading reading
none_so_far talk reading = record { events = []; passed = sym (append-nil talk); on = λ more all heard hears. hears }

some_received : (bytes : List ℕ) → 0 < length bytes → received bytes ≡ gave bytes ∷ []
some_received [] some = absurd (omega arith)
some_received (b ∷ bs) some = refl

some_bytes : (bytes : List ℕ) → 0 < length bytes → bytes ≢ []
some_bytes bytes some none = omega (arith, some, ap length none)

none_received : (bytes : List ℕ) → length bytes ≡ 0 → received bytes ≡ ended ∷ []
none_received [] none = refl
none_received (b ∷ bs) none = absurd (omega (arith, none))

-- a receive that gives bytes
step : (reading all : Reading) (bytes : List ℕ) (events : List Event) (heard : Heard) → ¬ NeedsNoMore reading.held → MayReceive reading → 0 < length bytes → length bytes ≤ reading.room + 1 → Hears (with_received reading bytes) events all heard → Hears reading (gave bytes ∷ events) all heard
step reading all bytes events heard needs may some few hears = elim (cases_lt reading.room (length bytes)) [
  | inl many ↦
      let size : length bytes ≡ reading.room + 1 = omega arith in
      let front : length (take reading.room bytes) ≡ reading.room = length-take-le reading.room bytes (omega arith) in
      subst (λ (bs : List ℕ). Hears reading (gave bs ∷ events) all heard) (sym (beyond_split reading.room bytes size))
      (piece_beyond (take reading.room bytes) (get_or bytes reading.room 0) needs may front
      (subst (λ (r : Reading). Hears r events all heard) (with_received-beyond reading bytes size may.1) hears))
  | inr within ↦
      piece bytes needs may (some_bytes bytes some) within
      (subst (λ (r : Reading). Hears r events all heard) (with_received-few reading bytes some within may.0 may.1) hears)
]

-- bytes have come
pub more_so_far :
    (left rest : Option (List ℕ)) (start middle now : List Event) (old mid new : Reading) (n : ℕ) → SoFar start middle old mid → MayReceive mid → ¬ NeedsNoMore mid.held → HasReceived left rest middle now n mid new → 0 < n → SoFar start now old new
more_so_far left rest start middle now old mid new n before may needs has some =
    let gives : received has.bytes ≡ gave has.bytes ∷ [] = some_received has.bytes (omega (arith, some, has.size)) in
    record {
      events = before.events ++ gave has.bytes ∷ [];
      passed = has.passed ∙ ap (λ (es : List Event). middle ++ es) gives ∙ ap (λ (es : List Event). es ++ gave has.bytes ∷ []) before.passed ∙ append_assoc start before.events (gave has.bytes ∷ []);
      on = λ more all heard hears.
          let here : Hears (with_received mid has.bytes) more all heard = subst (λ (r : Reading). Hears r more all heard) has.now hears in
          let there : Hears mid (gave has.bytes ∷ more) all heard = step mid all has.bytes more heard needs may (omega (arith, some, has.size)) (omega (arith, has.few, has.size)) here in
          subst (λ (es : List Event). Hears old es all heard) (sym (append_assoc before.events (gave has.bytes ∷ []) more)) (before.on (gave has.bytes ∷ more) all heard there);
    }

-- nothing more is heard
stopped : (start now : List Event) (old new : Reading) (heard : Heard) → SoFar start now old new → Hears new [] new heard → HasHeard start now old new heard
stopped start now old new heard before hears = record {
  events = before.events ++ [];
  passed = before.passed ∙ ap (λ (es : List Event). start ++ es) (sym (append-nil before.events));
  hears = before.on [] new heard hears;
}

-- where neither was found, more is needed
pub needs_more : (held : List ℕ) → IsFound found.Neither held → ¬ NeedsNoMore held
needs_more held is (inl there) = omega (arith, is.0, there)
needs_more held is (inr many) = omega (arith, is.1, many)

-- all that may be lines has come
pub spent_now : (start now : List Event) (old new : Reading) → SoFar start now old new → ¬ NeedsNoMore new.held → new.beyond ≢ [] → HasHeard start now old new spent
spent_now start now old new before needs some = stopped start now old new spent before (beyond needs some)

-- the end has come before
pub over_now : (start now : List Event) (old new : Reading) → SoFar start now old new → ¬ NeedsNoMore new.held → new.beyond ≡ [] → new.ended ≡ true → HasHeard start now old new at_end
over_now start now old new before needs none is_over = stopped start now old new at_end before (over needs none is_over)

-- one thing more is heard, and it is the last
last_heard : (start middle now : List Event) (event : Event) (old mid new : Reading) (heard : Heard) → SoFar start middle old mid → now ≡ middle ++ event ∷ [] → Hears mid (event ∷ []) new heard → HasHeard start now old new heard
last_heard start middle now event old mid new heard before passed hears = record {
  events = before.events ++ event ∷ [];
  passed = passed ∙ ap (λ (es : List Event). es ++ event ∷ []) before.passed ∙ append_assoc start before.events (event ∷ []);
  hears = before.on (event ∷ []) new heard hears;
}

-- the end has come
pub ends_now :
    (left rest : Option (List ℕ)) (start middle now : List Event) (old mid new : Reading) (n : ℕ) → SoFar start middle old mid → MayReceive mid → ¬ NeedsNoMore mid.held → HasReceived left rest middle now n mid new → n ≡ 0 → HasHeard start now old new at_end
ends_now left rest start middle now old mid new n before may needs has is =
    let none : length has.bytes ≡ 0 = has.size ∙ is in
    last_heard start middle now ended old mid new at_end before (has.passed ∙ ap (λ (es : List Event). middle ++ es) (none_received has.bytes none))
    (subst (λ (r : Reading). Hears mid (ended ∷ []) r at_end) (sym (with_received-none mid has.bytes none may.0) ∙ sym has.now) (ends needs may))

-- the receive has failed
pub fails_now : (start middle now : List Event) (old mid new : Reading) → SoFar start middle old mid → MayReceive mid → ¬ NeedsNoMore mid.held → now ≡ middle ++ gave_not ∷ [] → new ≡ mid → HasHeard start now old new cut_off
fails_now start middle now old mid new before may needs passed same =
    last_heard start middle now gave_not old mid new cut_off before passed (subst (λ (r : Reading). Hears mid (gave_not ∷ []) r cut_off) (sym same) (fails needs may))

-- what was found in what is held says what comes next
pub known_now : (start now : List Event) (old new : Reading) → SoFar start now old new → NeedsNoMore new.held → HasHeard start now old new enough
known_now start now old new before needs = stopped start now old new enough before (known needs)

-- a reader hears the same, whatever line it gave last
Hears-line : {reading all : Reading} {events : List Event} {heard : Heard} (text : List ℕ) → Hears reading events all heard → Hears (record reading { line = text }) events (record all { line = text }) heard
Hears-line text (known needs) = known needs
Hears-line text (beyond needs some) = beyond needs some
Hears-line text (over needs none is) = over needs none is
Hears-line text (ends needs may) = ends needs may
Hears-line text (fails needs may) = fails needs may
Hears-line text (piece bytes needs may some within rest) = piece bytes needs may some within (Hears-line text rest)
Hears-line text (piece_beyond bytes last needs may within rest) = piece_beyond bytes last needs may within (Hears-line text rest)

KeepsRoom-line : (all after : Reading) (text : List ℕ) → KeepsRoom all after → KeepsRoom (record all { line = text }) after
KeepsRoom-line all after text keeps = record { room = keeps.room; beyond = keeps.beyond; ended = keeps.ended }

Keeps-line : (all after : Reading) (text : List ℕ) → Keeps all after → Keeps (record all { line = text }) after
Keeps-line all after text keeps = record { line = keeps.line; held = keeps.held; rest = KeepsRoom-line all after text keeps.rest }

GivesHeldLine-line : (all after : Reading) (text : List ℕ) → GivesHeldLine all after → GivesHeldLine (record all { line = text }) after
GivesHeldLine-line all after text gives = record { begins = gives.begins; rest = KeepsRoom-line all after text gives.rest }

-- an answer says the same
SaysNext-line : (heard : Heard) (all after : Reading) (told : Result Next Failed) (text : List ℕ) → SaysNext heard all after told → SaysNext heard (record all { line = text }) after told
SaysNext-line enough all after (Ok next.Line) text says = GivesHeldLine-line all after text says
SaysNext-line enough all after (Ok next.TooLong) text says = (says.0, Keeps-line all after text says.1)
SaysNext-line at_end all after (Ok next.Line) text says = GivesHeldLine-line all after text says
SaysNext-line at_end all after (Ok next.End) text says = (says.0, Keeps-line all after text says.1)
SaysNext-line spent all after (Ok next.Spent) text says = Keeps-line all after text says
SaysNext-line cut_off all after (Err e) text says = Keeps-line all after text says
SaysNext-line _ all after _ text says = absurd says

-- an answer is told, of a reader that has forgotten its line
pub told_next :
    (start now : List Event) (old clear mid new : Reading) (heard : Heard) (told : Result Next Failed) → clear ≡ record old { line = [] } → HasHeard start now clear mid heard → SaysNext heard mid new told → (events : List Event) × (now ≡ start ++ events) × Tells old events new told
told_next start now old clear mid new heard told is has says = (
  has.events,
  has.passed,
  record {
    all = record mid { line = old.line };
    heard = heard;
    hears = subst (λ (r : Reading). Hears (record r { line = old.line }) has.events (record mid { line = old.line }) heard) is (Hears-line old.line has.hears);
    answer = SaysNext-line heard mid new told old.line says;
  },
)

-- what look finds, is found
pub finds_now : (f : Found) (reading : Reading) → (f ≡ found.Neither → ⊥) → IsFound f reading.held → Finds f reading
finds_now (found.Lf n) reading other is = is
finds_now found.TooLong reading other is = is
finds_now found.Neither reading other is = absurd (other refl)
finds_now found.Spent reading other is = absurd is

pub found_now : (start now : List Event) (old new : Reading) (f : Found) → SoFar start now old new → (f ≡ found.Neither → ⊥) → IsFound f new.held → HasHeard start now old new (heard_of (Ok f))
found_now start now old new (found.Lf n) before other is = known_now start now old new before (inl (omega (arith, is.0, is.1)))
found_now start now old new found.TooLong before other is =
    let within : line_length new.held ≤ length new.held = prefix_len-le-length (λ x. not (is_lf x)) new.held in
    known_now start now old new before (inr (omega (arith, is, within)))
found_now start now old new found.Neither before other is = absurd (other refl)
found_now start now old new found.Spent before other is = absurd is

-- where more is needed, so it was at first
pub needs_something : (old now : Reading) → (NeedsNothing old → now ≡ old) → ¬ NeedsNoMore now.held → now.beyond ≡ [] → ¬ NeedsNothing old
needs_something old now same needs none nothing =
    by (subst (λ (r : Reading). NeedsNothing r) (sym (same nothing)) nothing)
  where
    by : NeedsNothing now → ⊥
    by (inl no_more) = needs no_more
    by (inr some) = some none

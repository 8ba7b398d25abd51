-- A turn, from what comes next and what is answered.
use Rattle.std.proofs.Common.{◌≡◌, refl, sym, ◌∙◌, ap, subst, ℕ, ◌+◌, List, [], ◌∷◌, ◌++◌, append_assoc, append-nil, inl, inr, ◌⊎◌, Option, Some, None, arith}
use Rattle.std.specs.Prelude.{IfOk, Result, Ok}
use Rattle.std.proofs.lemmas.List.Elements.{All-nil}
use Rattle.query_meaning.specs.Replies.{too_long_reply}
use Rattle.outside.specs.Event.{Event, took}
use Rattle.outside.specs.Fetched.{Fetched}
use Rattle.outside.specs.Told.{AreTheirs, Files, IsOf}
use Rattle.outside.specs.declared.source.Failed.{Failed}
use Rattle.input_lines.specs.Reader.{IsAtEnd, Reading, Tells, TellsFront, allowed, not_given}
use Rattle.input_lines.specs.declared.next.Next.{Next}
use Rattle.input_lines.specs.declared.next.Next.TheVariants as next
use Rattle.line_session.specs.Desks.{DeskOf}
use Rattle.line_session.specs.Conversations.{IsCutOff}
use Rattle.line_session.specs.Tools.{ToolsOf}
use Rattle.line_session.specs.Turns.{Answers, HasPassed, Replies, Turn}
use Rattle.line_session.specs.declared.end.SessionEnd.{SessionEnd}
use Rattle.line_session.specs.declared.end.SessionEnd.TheVariants.{LongLine, SendFault}

-- what passes between two states, and then more
pub on_from : (a b c : List Event) (first last : List Event) → b ≡ a ++ first → c ≡ b ++ last → c ≡ a ++ (first ++ last)
on_from a b c first last here then = then ∙ ap (λ (es : List Event). es ++ last) here ∙ append_assoc a first last

-- a depot that was not asked answered nothing
none_theirs : (files : Option Files) → AreTheirs files []
none_theirs None = tt
none_theirs (Some all) = All-nil (IsOf all)

-- what has passed over a link alone
link_passed : (a b : List Event) (answers : List Fetched) (files : Option Files) (events : List Event) → b ≡ a ++ events → HasPassed a b answers answers files events []
link_passed a b answers files events passed = record { passed = passed; answered = sym (append-nil answers); theirs = none_theirs files }

-- nothing more was read
none_more : (steps : ℕ) → steps ≡ steps + 0
none_more steps = omega arith

-- what is heard, and then more
heard_then : (a b c : List Event) (answers answered : List Fetched) (files : Option Files) (heard last : List Event) (asked : List Fetched) → b ≡ a ++ heard → HasPassed b c answers answered files last asked → HasPassed a c answers answered files (heard ++ last) asked
heard_then a b c answers answered files heard last asked here then = record { passed = on_from a b c heard last here then.passed; answered = then.answered; theirs = then.theirs }

-- what a turn says that it was told
abbrev FirstTold : Reading → Reading → Option (List ℕ) → Option (List ℕ) → Next → Type 0
FirstTold reading then left rest next = IsAtEnd reading.ended left → TellsFront (not_given reading left) (allowed reading) next then.line (not_given then rest) (allowed then)

module _ (tools : ToolsOf) where
  -- a line came, and was answered
  pub line_turn :
      (reading then : Reading) (before after : DeskOf) (a b c : List Event) (answers answered : List Fetched) (files : Option Files) (left rest behind : Option (List ℕ)) (line : List ℕ) (end : Option SessionEnd) (start finish : ℕ) → line ≡ then.line → behind ≡ rest → (events : List Event) × (b ≡ a ++ events) × Tells reading events then (Ok next.Line)
      → (IsAtEnd reading.ended left → TellsFront (not_given reading left) (allowed reading) next.Line then.line (not_given then rest) (allowed then))
      → (events : List Event) × (asked : List Fetched) × (read : ℕ) × (finish ≡ start + read) × HasPassed b c answers answered files events asked × Replies tools (record { before = before; after = after; asked = asked }) line read events end
      → (events : List Event) × (asked : List Fetched) × (read : ℕ) × (finish ≡ start + read) × HasPassed a c answers answered files events asked × Turn tools reading then (record { before = before; after = after; asked = asked }) read events left behind end
  line_turn reading then before after a b c answers answered files left rest behind line end start finish same unread (heard, here, tells) first (last, asked, read, steps, passed, replies) = (
    heard ++ last,
    asked,
    read,
    steps,
    heard_then a b c answers answered files heard last asked here passed,
    record {
      told = Ok next.Line;
      heard = heard;
      last = last;
      tells = tells;
      first = subst (λ (l : Option (List ℕ)). FirstTold reading then left l next.Line) (sym unread) first;
      events_are = refl;
      answers = subst (λ (l : List ℕ). Replies tools (record { before = before; after = after; asked = asked }) l read last end) same replies;
    },
  )

  -- too long a line came
  pub long_turn :
      (reading then : Reading) (desk : DeskOf) (a b c : List Event) (answers : List Fetched) (files : Option Files) (left rest behind : Option (List ℕ)) (end : SessionEnd) (steps : ℕ) → behind ≡ rest → (events : List Event) × (b ≡ a ++ events) × Tells reading events then (Ok next.TooLong)
      → (IsAtEnd reading.ended left → TellsFront (not_given reading left) (allowed reading) next.TooLong then.line (not_given then rest) (allowed then))
      → (end ≡ LongLine) ⊎ (end ≡ SendFault) → (end ≡ LongLine → c ≡ b ++ took too_long_reply ∷ []) → (end ≡ SendFault → (last : List Event) × (c ≡ b ++ last) × IsCutOff too_long_reply last)
      → (events : List Event) × (asked : List Fetched) × (read : ℕ) × (steps ≡ steps + read) × HasPassed a c answers answers files events asked × Turn tools reading then (record { before = desk; after = desk; asked = asked }) read events left behind (Some end)
  long_turn reading then desk a b c answers files left rest behind end steps unread (heard, here, tells) first (inl is) all front = (
    heard ++ took too_long_reply ∷ [],
    [],
    0,
    none_more steps,
    link_passed a c answers files (heard ++ took too_long_reply ∷ []) (on_from a b c heard (took too_long_reply ∷ []) here (all is)),
    record {
      told = Ok next.TooLong;
      heard = heard;
      last = took too_long_reply ∷ [];
      tells = tells;
      first = subst (λ (l : Option (List ℕ)). FirstTold reading then left l next.TooLong) (sym unread) first;
      events_are = refl;
      answers = subst (λ (e : SessionEnd). Answers tools (Ok next.TooLong) (record { before = desk; after = desk; asked = [] }) then.line 0 (took too_long_reply ∷ []) (Some e)) (sym is) ((refl, refl, refl), refl);
    },
  )
  long_turn reading then desk a b c answers files left rest behind end steps unread (heard, here, tells) first (inr is) all front =
      let cut : (last : List Event) × (c ≡ b ++ last) × IsCutOff too_long_reply last = front is in (
        heard ++ cut.0,
        [],
        0,
        none_more steps,
        link_passed a c answers files (heard ++ cut.0) (on_from a b c heard cut.0 here cut.1),
        record {
          told = Ok next.TooLong;
          heard = heard;
          last = cut.0;
          tells = tells;
          first = subst (λ (l : Option (List ℕ)). FirstTold reading then left l next.TooLong) (sym unread) first;
          events_are = refl;
          answers = subst (λ (e : SessionEnd). Answers tools (Ok next.TooLong) (record { before = desk; after = desk; asked = [] }) then.line 0 cut.0 (Some e)) (sym is) ((refl, refl, refl), cut.2);
        },
      )

  -- the session ends at what came, and nothing is answered
  pub still_turn :
      (reading then : Reading) (desk : DeskOf) (a b : List Event) (answers : List Fetched) (files : Option Files) (left rest : Option (List ℕ)) (told : Result Next Failed) (end : SessionEnd) (steps : ℕ) → (events : List Event) × (b ≡ a ++ events) × Tells reading events then told → IfOk told (FirstTold reading then left rest)
      → Answers tools told (record { before = desk; after = desk; asked = [] }) then.line 0 [] (Some end)
      → (events : List Event) × (asked : List Fetched) × (read : ℕ) × (steps ≡ steps + read) × HasPassed a b answers answers files events asked × Turn tools reading then (record { before = desk; after = desk; asked = asked }) read events left rest (Some end)
  still_turn reading then desk a b answers files left rest told end steps (heard, here, tells) first answered = (
    heard,
    [],
    0,
    none_more steps,
    link_passed a b answers files heard here,
    record { told = told; heard = heard; last = []; tells = tells; first = first; events_are = sym (append-nil heard); answers = answered },
  )

-- One turn of a conversation after another.
use Rattle.std.proofs.Common.{◌≡◌, refl, sym, ◌∙◌, ap, subst, ℕ, ◌+◌, ◌<◌, List, [], ◌∷◌, ◌++◌, append_assoc, append-nil, Option, Some, None}
use Rattle.std.specs.Prelude.{Result, Ok, Err}
use Rattle.std.proofs.lemmas.List.Elements.{All-append}
use Rattle.outside.specs.Event.{Event}
use Rattle.outside.specs.Fetched.{Fetched}
use Rattle.outside.specs.Told.{AreTheirs, Files, IsOf}
use Rattle.outside.specs.declared.source.Failed.{Failed}
use Rattle.input_lines.specs.Reader.{Reading, Tells, allowed}
use Rattle.input_lines.proofs.Falling.{tells_fewer}
use Rattle.input_lines.specs.declared.next.Next.{Next}
use Rattle.input_lines.specs.declared.next.Next.TheVariants as next
use Rattle.line_session.specs.Desks.{DeskOf}
use Rattle.line_session.specs.Replies.{Dealing, Handled}
use Rattle.line_session.specs.Tools.{ToolsOf}
use Rattle.line_session.specs.Conversations.{Converses, HasConversed, turn, quits, cut_off, too_long, too_long_cut_off, ends, spends, fails}
use Rattle.line_session.specs.Turns.{Answers, HasPassed, IsStill, Turn}
use Rattle.line_session.specs.declared.end.SessionEnd.{SessionEnd}
use Rattle.line_session.specs.declared.end.SessionEnd.TheVariants.{Quit, EndOfInput, LongLine, Budget, ReceiveFault, SendFault}
use Rattle.line_session.proofs.Taking.{on_from}
use Rattle.line_session.proofs.TurnLines.{handled_by, handled_on}

module _ (tools : ToolsOf) where
  -- a conversation for which nothing was asked
  still : (reading : Reading) (around : Dealing) (events last given : List Event) (end : SessionEnd) (read : ℕ) → IsStill around read → last ≡ given → Converses tools reading around.before (events ++ given) [] [] around.before end → Converses tools reading around.before (events ++ last) around.asked [] around.after end
  still reading around events last given end read is same passes =
      subst (λ (es : List Event). Converses tools reading around.before (events ++ es) around.asked [] around.after end) (sym same)
      (subst (λ (asked : List Fetched). Converses tools reading around.before (events ++ given) asked [] around.after end) (sym is.1)
      (subst (λ (desk : DeskOf). Converses tools reading around.before (events ++ given) [] [] desk end) (sym is.0) passes))

  -- where nothing is answered
  quiet : (reading : Reading) (around : Dealing) (events last : List Event) (end : SessionEnd) (read : ℕ) → IsStill around read → last ≡ [] → Converses tools reading around.before events [] [] around.before end → Converses tools reading around.before (events ++ last) around.asked [] around.after end
  quiet reading around events last end read is same passes =
      still reading around events last [] end read is same (subst (λ (es : List Event). Converses tools reading around.before es [] [] around.before end) (sym (append-nil events)) passes)

  -- what ends a session is a conversation
  ended_by : (reading then : Reading) (around : Dealing) (heard last : List Event) (told : Result Next Failed) (end : SessionEnd) (read : ℕ) → Tells reading heard then told → (answers : Answers tools told around then.line read last (Some end)) → Converses tools reading around.before (heard ++ last) around.asked (handled_by tools around then.line read last told end answers) around.after end
  ended_by reading then around heard last (Ok next.Line) Quit read tells answers =
      subst (λ (es : List Event). Converses tools reading around.before (heard ++ es) around.asked (record { line = then.line; position = answers.position; reply = answers.reply; read = read } ∷ []) around.after Quit) (sym answers.ends.1) (quits heard around.asked answers.position answers.reply read tells answers.handles answers.ends.0)
  ended_by reading then around heard last (Ok next.Line) SendFault read tells answers =
      cut_off heard last around.asked answers.position answers.reply read tells answers.handles answers.ends
  ended_by reading then around heard last (Ok next.Line) _ read tells answers = absurd answers.ends
  ended_by reading then around heard last (Ok next.TooLong) LongLine read tells answers = still reading around heard last _ LongLine read answers.0 answers.1 (too_long heard tells)
  ended_by reading then around heard last (Ok next.TooLong) SendFault read tells answers = still reading around heard last last SendFault read answers.0 refl (too_long_cut_off heard last tells answers.1)
  ended_by reading then around heard last (Ok next.End) EndOfInput read tells answers = quiet reading around heard last EndOfInput read answers.0 answers.1 (ends heard tells)
  ended_by reading then around heard last (Ok next.Spent) Budget read tells answers = quiet reading around heard last Budget read answers.0 answers.1 (spends heard tells)
  ended_by reading then around heard last (Err e) ReceiveFault read tells answers = quiet reading around heard last ReceiveFault read answers.0 answers.1 (fails heard e tells)
  ended_by reading then around heard last _ _ read tells answers = absurd answers

  -- a turn that ends the session
  pub turn_ends :
      (reading then : Reading) (around : Dealing) (a b : List Event) (answers answered : List Fetched) (files : Option Files) (left rest : Option (List ℕ)) (end : SessionEnd) (events : List Event) (read : ℕ) → HasPassed a b answers answered files events around.asked
      → (one : Turn tools reading then around read events left rest (Some end)) → HasConversed tools a b answers answered files reading around.before around.after end (handled_by tools around then.line read one.last one.told end one.answers)
  turn_ends reading then around a b answers answered files left rest end events read passed one = record {
    events = events;
    passed = passed.passed;
    asked = around.asked;
    answered = passed.answered;
    theirs = passed.theirs;
    converses = subst (λ (es : List Event). Converses tools reading around.before es around.asked (handled_by tools around then.line read one.last one.told end one.answers) around.after end) (sym one.events_are) (ended_by reading then around one.heard one.last one.told end read one.tells one.answers);
  }

-- what was asked for, first and then
all_theirs : (files : Option Files) (first later : List Fetched) → AreTheirs files first → AreTheirs files later → AreTheirs files (first ++ later)
all_theirs None first later one other = tt
all_theirs (Some all) first later one other = All-append (IsOf all) first later one other

pub asked_from : (a b c : List Fetched) (first last : List Fetched) → b ≡ a ++ first → c ≡ b ++ last → c ≡ a ++ (first ++ last)
asked_from a b c first last here then = then ∙ ap (λ (es : List Fetched). es ++ last) here ∙ append_assoc a first last

-- a turn that goes on, and then a conversation
module _ (tools : ToolsOf) where
  goes_on_by : (reading then : Reading) (around : Dealing) (after : DeskOf) (heard last more : List Event) (later : List Fetched) (lines : List Handled) (told : Result Next Failed) (end : SessionEnd) (read : ℕ) → Tells reading heard then told → (answers : Answers tools told around then.line read last None)
      → Converses tools then around.after more later lines after end → Converses tools reading around.before ((heard ++ last) ++ more) (around.asked ++ later) (handled_on tools around then.line read last told answers ∷ lines) after end
  goes_on_by reading then around after heard last more later lines (Ok next.Line) end read tells answers rest =
      subst (λ (es : List Event). Converses tools reading around.before ((heard ++ es) ++ more) (around.asked ++ later) (record { line = then.line; position = answers.position; reply = answers.reply; read = read } ∷ lines) after end) (sym answers.ends.1)
      (turn heard more around.asked later answers.position answers.reply read lines tells answers.handles answers.ends.0 rest)
  goes_on_by reading then around after heard last more later lines _ end read tells answers rest = absurd answers

  pub turn_goes_on :
      (reading then : Reading) (around : Dealing) (after : DeskOf) (a b c : List Event) (answers answered told : List Fetched) (files : Option Files) (left rest : Option (List ℕ)) (end : SessionEnd) (events : List Event) (read : ℕ) (lines : List Handled) → HasPassed a b answers answered files events around.asked
      → (one : Turn tools reading then around read events left rest None) → HasConversed tools b c answered told files then around.after after end lines → HasConversed tools a c answers told files reading around.before after end (handled_on tools around then.line read one.last one.told one.answers ∷ lines)
  turn_goes_on reading then around after a b c answers answered told files left rest end events read lines passed one later = record {
    events = events ++ later.events;
    passed = on_from a b c events later.events passed.passed later.passed;
    asked = around.asked ++ later.asked;
    answered = asked_from answers answered told around.asked later.asked passed.answered later.answered;
    theirs = all_theirs files around.asked later.asked passed.theirs later.theirs;
    converses =
        subst (λ (es : List Event). Converses tools reading around.before (es ++ later.events) (around.asked ++ later.asked) (handled_on tools around then.line read one.last one.told one.answers ∷ lines) after end) (sym one.events_are)
        (goes_on_by reading then around after one.heard one.last later.events later.asked lines one.told end read one.tells one.answers later.converses);
  }

  -- a turn that goes on gave a line, and so fewer bytes may be lines
  line_told : (around : Dealing) (line : List ℕ) (last : List Event) (told : Result Next Failed) (read : ℕ) → Answers tools told around line read last None → told ≡ Ok next.Line
  line_told around line last (Ok next.Line) read answers = refl
  line_told around line last _ read answers = absurd answers

  pub turn_fewer :
      (reading then : Reading) (before after : DeskOf) (a b : List Event) (answers answered : List Fetched) (files : Option Files) (left rest : Option (List ℕ)) (start finish : ℕ)
      → (events : List Event) × (asked : List Fetched) × (read : ℕ) × (finish ≡ start + read) × HasPassed a b answers answered files events asked × Turn tools reading then (record { before = before; after = after; asked = asked }) read events left rest None
      → allowed then < allowed reading
  turn_fewer reading then before after a b answers answered files left rest start finish (events, asked, read, steps, passed, one) =
      tells_fewer reading then one.heard (subst (λ (told : Result Next Failed). Tells reading one.heard then told) (line_told (record { before = before; after = after; asked = asked }) then.line one.last one.told read one.answers) one.tells)

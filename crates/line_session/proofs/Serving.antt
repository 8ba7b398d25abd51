-- One turn of a session after another.
use Rattle.std.proofs.Common.{◌≡◌, ◌≢◌, refl, sym, ◌∙◌, ap, subst, ℕ, ◌+◌, ◌-◌, List, [], ◌∷◌, ◌++◌, append_assoc, append-nil, length, take, map, flat_map, Bool, true, false, inl, inr, ◌⊎◌, Option, Some, None, arith}
use Rattle.std.specs.Prelude.{IfOk, IfSome, Result, Ok, Err}
use Rattle.std.proofs.lemmas.Bool.{and_from, not_from_false}
use Rattle.std.proofs.lemmas.List.Sums.{sum_by-cons}
use Rattle.std.proofs.Math.Seq.{take-append-add}
use Rattle.query_meaning.specs.Replies.{too_long_reply}
use Rattle.outside.specs.Event.{Event}
use Rattle.outside.specs.Fetched.{Fetched}
use Rattle.outside.specs.Talks.{taken}
use Rattle.outside.specs.Told.{Files, TakesFront}
use Rattle.outside.specs.declared.source.Failed.{Failed}
use Rattle.input_lines.specs.Reader.{GivesLine, IsAtEnd, Reading, TellsFront, TellsOf, allowed, not_given}
use Rattle.input_lines.specs.declared.next.Next.{Next}
use Rattle.input_lines.specs.declared.next.Next.TheVariants as next
use Rattle.line_session.specs.Conversations.{HasConversed, fresh}
use Rattle.line_session.specs.Desks.{DeskOf}
use Rattle.line_session.specs.Replies.{Dealing, Handled}
use Rattle.line_session.specs.Tools.{ToolsOf}
use Rattle.line_session.specs.Sessions.{AreFirst, none, line as first_line, AreHandled, AreSent, EndsAtLast, IsServed, ReadsFew, all_read, ends_session, go_on}
use Rattle.line_session.specs.Turns.{Answers, HasPassed, IsStill, Replies, Turn}
use Rattle.line_session.specs.declared.end.SessionEnd.{SessionEnd}
use Rattle.line_session.specs.declared.end.SessionEnd.TheVariants.{Quit, EndOfInput, LongLine, Budget, ReceiveFault, SendFault, Memory}
use Rattle.line_session.proofs.Conversing.{turn_ends, turn_goes_on}
use Rattle.line_session.proofs.SessionReads.{reads_few}
use Rattle.line_session.proofs.Sending.{sent_front, sent_whole, taken_behind}
use Rattle.line_session.proofs.TurnLines.{handled_by, handled_on, read_by, read_on}

-- of bytes, and a front of others, a front of both was taken
front_past : (before middle after : List ℕ) (first more : List ℕ) → middle ≡ before ++ first → TakesFront middle after more → TakesFront before after (first ++ more)
front_past before middle after first more sent front =
    (length first + front.0, front.1 ∙ ap (λ taken. taken ++ take front.0 more) sent ∙ append_assoc before first (take front.0 more) ∙ ap (λ (bs : List ℕ). before ++ bs) (sym (take-append-add first more front.0)))

sent_past : (before middle after : List ℕ) (first more : List ℕ) → middle ≡ before ++ first → after ≡ middle ++ more → after ≡ before ++ (first ++ more)
sent_past before middle after first more sent then = then ∙ ap (λ taken. taken ++ more) sent ∙ append_assoc before first more

-- a line that does not end the session before others that do not
going : (text : List ℕ) (lines : List (List ℕ)) → ends_session text ≡ false → go_on lines ≡ true → go_on (text ∷ lines) ≡ true
going text lines goes on = and_from _ _ (not_from_false _ goes) on

last_then : (text : List ℕ) (lines : List (List ℕ)) → ends_session text ≡ false → EndsAtLast lines → EndsAtLast (text ∷ lines)
last_then text lines goes end = record {
  before = text ∷ end.before;
  last = end.last;
  are = ap (λ ls. text ∷ ls) end.are;
  earlier = going text end.before goes end.earlier;
  ends = end.ends;
}

-- a line alone, which ends the session
only_last : (text : List ℕ) → ends_session text ≡ true → EndsAtLast (text ∷ [])
only_last text is = record { before = []; last = text; are = refl; earlier = refl; ends = is }

-- a line, and then others
first_then : (most n left : ℕ) (text : List ℕ) (lines : List (List ℕ)) (bytes behind rest : List ℕ) → GivesLine bytes most text behind n → AreFirst n behind lines left rest → AreFirst most bytes (text ∷ lines) left rest
first_then most n left text lines bytes behind rest gives are =
    let same : n ≡ most - gives.size = omega (arith, gives.within) in
    first_line text behind gives.begins gives.size_is (omega (arith, gives.within)) (subst (λ (k : ℕ). AreFirst k behind lines left rest) same are)

handled_then : (most n : ℕ) (end : SessionEnd) (text : List ℕ) (lines : List (List ℕ)) (bytes behind : List ℕ) → end ≢ Memory → ends_session text ≡ false → GivesLine bytes most text behind n → AreHandled n end lines behind → AreHandled most end (text ∷ lines) bytes
handled_then most n Quit text lines bytes behind other goes gives (left, rest, are, last) = (left, rest, first_then most n left text lines bytes behind rest gives are, last_then text lines goes last)
handled_then most n EndOfInput text lines bytes behind other goes gives (left, rest, are, on, is) = (left, rest, first_then most n left text lines bytes behind rest gives are, going text lines goes on, is)
handled_then most n LongLine text lines bytes behind other goes gives (left, rest, are, on, is) = (left, rest, first_then most n left text lines bytes behind rest gives are, going text lines goes on, is)
handled_then most n Budget text lines bytes behind other goes gives (left, rest, are, on, is) = (left, rest, first_then most n left text lines bytes behind rest gives are, going text lines goes on, is)
handled_then most n ReceiveFault text lines bytes behind other goes gives (left, rest, are, on) = (left, rest, first_then most n left text lines bytes behind rest gives are, going text lines goes on)
handled_then most n SendFault text lines bytes behind other goes gives (left, rest, are, inl on) = (left, rest, first_then most n left text lines bytes behind rest gives are, inl (going text lines goes on))
handled_then most n SendFault text lines bytes behind other goes gives (left, rest, are, inr last) = (left, rest, first_then most n left text lines bytes behind rest gives are, inr (last_then text lines goes last))
handled_then most n Memory text lines bytes behind other goes gives are = absurd (other refl)

-- what holds of the bytes that are left, where what comes next of them is told
told_of : (P : List ℕ → Type 0) (most n : ℕ) (next : Next) (left rest : Option (List ℕ)) (text : List ℕ) → ((bytes behind : List ℕ) → TellsOf bytes most next text behind n → P bytes) → TellsFront left most next text rest n → IfSome left P
told_of P most n next None rest text holds told = tt
told_of P most n next (Some bytes) None text holds told = absurd told
told_of P most n next (Some bytes) (Some behind) text holds told = holds bytes behind told

-- what holds of the bytes after a line, and so of them and it
told_then : (P Q : List ℕ → Type 0) (most n : ℕ) (left rest : Option (List ℕ)) (text : List ℕ) → ((bytes behind : List ℕ) → GivesLine bytes most text behind n → P behind → Q bytes) → TellsFront left most next.Line text rest n → IfSome rest P → IfSome left Q
told_then P Q most n None rest text step told holds = tt
told_then P Q most n (Some bytes) None text step told holds = absurd told
told_then P Q most n (Some bytes) (Some behind) text step told holds = step bytes behind told holds

sent_then :
    (most n : ℕ) (end : SessionEnd) (left rest : Option (List ℕ)) (text : List ℕ) (lines : List (List ℕ)) (before middle after reply replies : List ℕ) → ends_session text ≡ false → TellsFront left most next.Line text rest n → middle ≡ before ++ reply → AreSent n end rest lines middle after replies
    → AreSent most end left (text ∷ lines) before after (reply ++ replies)
sent_then most n LongLine left rest text lines before middle after reply replies goes first sent then =
    sent_past before middle after reply (replies ++ too_long_reply) sent then ∙ ap (λ (bs : List ℕ). before ++ bs) (sym (append_assoc reply replies too_long_reply))
sent_then most n SendFault left rest text lines before middle after reply replies goes first sent (inl front) = inl (front_past before middle after reply replies sent front)
sent_then most n SendFault left rest text lines before middle after reply replies goes first sent (inr (all, front)) =
    inr (
      told_then (AreHandled n LongLine lines) (AreHandled most LongLine (text ∷ lines)) most n left rest text (λ bytes behind gives are. handled_then most n LongLine text lines bytes behind (λ e. absurd (cc e)) goes gives are) first all,
      subst (TakesFront before after) (sym (append_assoc reply replies too_long_reply)) (front_past before middle after reply (replies ++ too_long_reply) sent front),
    )
sent_then most n Quit left rest text lines before middle after reply replies goes first sent then = sent_past before middle after reply replies sent then
sent_then most n EndOfInput left rest text lines before middle after reply replies goes first sent then = sent_past before middle after reply replies sent then
sent_then most n Budget left rest text lines before middle after reply replies goes first sent then = sent_past before middle after reply replies sent then
sent_then most n ReceiveFault left rest text lines before middle after reply replies goes first sent then = sent_past before middle after reply replies sent then
sent_then most n Memory left rest text lines before middle after reply replies goes first sent then = sent_past before middle after reply replies sent then

module _ (tools : ToolsOf) where
  -- a line that goes on was answered, and then a session is served
  line_then :
      (most n : ℕ) (end : SessionEnd) (around : Dealing) (after : DeskOf) (later : List Fetched) (left rest : Option (List ℕ)) (text : List ℕ) (last : List Event) (before middle final : List ℕ) (read : ℕ) (handled : List Handled) → end ≢ Memory → (replies : Replies tools around text read last None) → TellsFront left most next.Line text rest n
      → middle ≡ before ++ taken last → IsServed tools n end (record { before = around.after; after = after; asked = later }) rest middle final handled
      → IsServed tools most end (record { before = around.before; after = after; asked = around.asked ++ later }) left before final (record { line = text; position = replies.position; reply = replies.reply; read = read } ∷ handled)
  line_then most n end around after later left rest text last before middle final read handled other replies first sent served = record {
    session = (around.after, around.asked, later, refl, replies.handles, served.session);
    lines =
        told_then (AreHandled n end (map (λ (one : Handled). one.line) handled)) (AreHandled most end (text ∷ map (λ (one : Handled). one.line) handled)) most n left rest text
        (λ bytes behind gives are. handled_then most n end text (map (λ (one : Handled). one.line) handled) bytes behind other replies.ends.0 gives are) first served.lines;
    sent =
        sent_then most n end left rest text (map (λ (one : Handled). one.line) handled) before middle final replies.reply (flat_map (λ (one : Handled). one.reply) handled) replies.ends.0 first
        (sent_whole before middle last replies.reply sent replies.ends.1) served.sent;
  }

  -- the only line of a session
  line_ends :
      (most n : ℕ) (end : SessionEnd) (around : Dealing) (left rest : Option (List ℕ)) (text : List ℕ) (last : List Event) (before after : List ℕ) (read : ℕ) → (replies : Replies tools around text read last (Some end)) → TellsFront left most next.Line text rest n → after ≡ before ++ taken last → IsServed tools most end around left before after (record { line = text; position = replies.position; reply = replies.reply; read = read } ∷ [])
  line_ends most n Quit around left rest text last before after read replies first sent = record {
    session = (around.after, around.asked, [], sym (append-nil around.asked), replies.handles, (refl, refl));
    lines = told_of (AreHandled most Quit (text ∷ [])) most n next.Line left rest text (λ bytes behind gives. (n, behind, first_then most n n text [] bytes behind behind gives none, only_last text replies.ends.0)) first;
    sent = sent_whole before after last replies.reply sent replies.ends.1 ∙ ap (λ (bs : List ℕ). before ++ bs) (sym (append-nil replies.reply));
  }
  line_ends most n SendFault around left rest text last before after read replies first sent = record {
    session = (around.after, around.asked, [], sym (append-nil around.asked), replies.handles, (refl, refl));
    lines = told_of (AreHandled most SendFault (text ∷ [])) most n next.Line left rest text (λ bytes behind gives. (n, behind, first_then most n n text [] bytes behind behind gives none, by (ends_session text) refl)) first;
    sent = inl (subst (TakesFront before after) (sym (append-nil replies.reply)) (sent_front before after last replies.reply sent replies.ends));
  }
    where
      by : (b : Bool) → ends_session text ≡ b → (go_on (text ∷ []) ≡ true) ⊎ EndsAtLast (text ∷ [])
      by true is = inr (only_last text is)
      by false is = inl (going text [] is refl)
  line_ends most n _ around left rest text last before after read replies first sent = absurd replies.ends

  -- no line was handled
  none_handled : (most : ℕ) (end : SessionEnd) (around : Dealing) (left : Option (List ℕ)) (before after : List ℕ) (read : ℕ) → IsStill around read → IfSome left (AreHandled most end []) → AreSent most end left [] before after [] → IsServed tools most end around left before after []
  none_handled most end around left before after read is lines sent = record { session = (is.0, is.1); lines = lines; sent = sent }

  -- at the end of all that was told no more is taken
  nothing_sent : (before after : List ℕ) (last : List Event) → after ≡ before ++ taken last → last ≡ [] → after ≡ before ++ []
  nothing_sent before after last passed is = passed ∙ ap (λ (es : List Event). before ++ taken es) is

  -- what ends a session was answered
  ends_by :
      (most n : ℕ) (end : SessionEnd) (around : Dealing) (left rest : Option (List ℕ)) (text : List ℕ) (last : List Event) (before after : List ℕ) (told : Result Next Failed) (read : ℕ) → (answers : Answers tools told around text read last (Some end)) → IfOk told (λ next. TellsFront left most next text rest n) → after ≡ before ++ taken last
      → IsServed tools most end around left before after (handled_by tools around text read last told end answers)
  ends_by most n end around left rest text last before after (Ok next.Line) read answers first sent = line_ends most n end around left rest text last before after read answers first sent
  ends_by most n LongLine around left rest text last before after (Ok next.TooLong) read answers first sent =
      none_handled most LongLine around left before after read answers.0 (told_of (AreHandled most LongLine []) most n next.TooLong left rest text (λ bytes behind is. (most, bytes, none, refl, is)) first)
      (sent ∙ ap (λ (es : List Event). before ++ taken es) answers.1 ∙ ap (λ (bs : List ℕ). before ++ bs) (append-nil too_long_reply))
  ends_by most n SendFault around left rest text last before after (Ok next.TooLong) read answers first sent =
      none_handled most SendFault around left before after read answers.0 (told_of (AreHandled most SendFault []) most n next.TooLong left rest text (λ bytes behind is. (most, bytes, none, inl refl)) first)
      (inr (told_of (AreHandled most LongLine []) most n next.TooLong left rest text (λ bytes behind is. (most, bytes, none, refl, is)) first, sent_front before after last too_long_reply sent answers.1))
  ends_by most n EndOfInput around left rest text last before after (Ok next.End) read answers first sent =
      none_handled most EndOfInput around left before after read answers.0 (told_of (AreHandled most EndOfInput []) most n next.End left rest text (λ bytes behind is. (most, bytes, none, refl, is)) first) (nothing_sent before after last sent answers.1)
  ends_by most n Budget around left rest text last before after (Ok next.Spent) read answers first sent =
      none_handled most Budget around left before after read answers.0 (told_of (AreHandled most Budget []) most n next.Spent left rest text (λ bytes behind is. (most, bytes, none, refl, is)) first) (nothing_sent before after last sent answers.1)
  ends_by most n ReceiveFault around left rest text last before after (Err e) read answers first sent =
      none_handled most ReceiveFault around left before after read answers.0 (all_of left) (nothing_sent before after last sent answers.1)
    where
      all_of : (left : Option (List ℕ)) → IfSome left (AreHandled most ReceiveFault [])
      all_of None = tt
      all_of (Some bytes) = (most, bytes, none, refl)
  ends_by most n _ around left rest text last before after _ read answers first sent = absurd answers

  -- what is told of the bytes that are left, where the end has not come before
  first_told : (reading then : Reading) (left rest : Option (List ℕ)) (told : Result Next Failed) → IsAtEnd reading.ended left → IfOk told (λ next. IsAtEnd reading.ended left → TellsFront (not_given reading left) (allowed reading) next then.line (not_given then rest) (allowed then))
      → IfOk told (λ next. TellsFront (not_given reading left) (allowed reading) next then.line (not_given then rest) (allowed then))
  first_told reading then left rest (Ok next) at_end first = first at_end
  first_told reading then left rest (Err e) at_end first = tt

  -- a turn that ends the session
  turn_ends_served :
      (reading then : Reading) (around : Dealing) (a b : List Event) (answers answered : List Fetched) (files : Option Files) (left rest : Option (List ℕ)) (end : SessionEnd) (events : List Event) (read : ℕ) → IsAtEnd reading.ended left → HasPassed a b answers answered files events around.asked
      → (one : Turn tools reading then around read events left rest (Some end)) → IsServed tools (allowed reading) end around (not_given reading left) (taken a) (taken b) (handled_by tools around then.line read one.last one.told end one.answers)
  turn_ends_served reading then around a b answers answered files left rest end events read at_end passed one =
      ends_by (allowed reading) (allowed then) end around (not_given reading left) (not_given then rest) then.line one.last (taken a) (taken b) one.told read one.answers (first_told reading then left rest one.told at_end one.first)
      (taken_behind a b reading then one.told one.heard one.last one.tells (passed.passed ∙ ap (λ (es : List Event). a ++ es) one.events_are))

  -- a turn that goes on, and then a session
  goes_on_by :
      (most n : ℕ) (end : SessionEnd) (around : Dealing) (after : DeskOf) (later : List Fetched) (left rest : Option (List ℕ)) (text : List ℕ) (last : List Event) (before middle final : List ℕ) (told : Result Next Failed) (read : ℕ) (handled : List Handled) → end ≢ Memory → (answers : Answers tools told around text read last None)
      → IfOk told (λ next. TellsFront left most next text rest n) → middle ≡ before ++ taken last → IsServed tools n end (record { before = around.after; after = after; asked = later }) rest middle final handled
      → IsServed tools most end (record { before = around.before; after = after; asked = around.asked ++ later }) left before final (handled_on tools around text read last told answers ∷ handled)
  goes_on_by most n end around after later left rest text last before middle final (Ok next.Line) read handled other answers first sent served = line_then most n end around after later left rest text last before middle final read handled other answers first sent served
  goes_on_by most n end around after later left rest text last before middle final _ read handled other answers first sent served = absurd answers

  turn_goes_on_served :
      (reading then : Reading) (around : Dealing) (after : DeskOf) (a b : List Event) (c : List ℕ) (answers answered : List Fetched) (files : Option Files) (left rest : Option (List ℕ)) (end : SessionEnd) (events : List Event) (read : ℕ) (later : List Fetched) (handled : List Handled) → end ≢ Memory → IsAtEnd reading.ended left
      → HasPassed a b answers answered files events around.asked → (one : Turn tools reading then around read events left rest None) → IsServed tools (allowed then) end (record { before = around.after; after = after; asked = later }) (not_given then rest) (taken b) c handled
      → IsServed tools (allowed reading) end (record { before = around.before; after = after; asked = around.asked ++ later }) (not_given reading left) (taken a) c (handled_on tools around then.line read one.last one.told one.answers ∷ handled)
  turn_goes_on_served reading then around after a b c answers answered files left rest end events read later handled other at_end passed one served =
      goes_on_by (allowed reading) (allowed then) end around after later (not_given reading left) (not_given then rest) then.line one.last (taken a) (taken b) c one.told read handled other one.answers (first_told reading then left rest one.told at_end one.first)
      (taken_behind a b reading then one.told one.heard one.last one.tells (passed.passed ∙ ap (λ (es : List Event). a ++ es) one.events_are)) served

-- a session from here on: which lines are handled, in a conversation, and what is read for them
pub record Serves (tools : ToolsOf) (reading : Reading) (end : SessionEnd) (before after : DeskOf) (talk_before talk_after : List Event) (answers_before answers_after : List Fetched) (files : Option Files) (left : Option (List ℕ)) (steps_before steps_after : ℕ) : Type 0 where
  pub asked : List Fetched
  pub handled : List Handled
  pub answered : answers_after ≡ answers_before ++ asked
  pub conversed : HasConversed tools talk_before talk_after answers_before answers_after files reading before after end handled
  pub served : IsServed tools (allowed reading) end (record { before = before; after = after; asked = asked }) (not_given reading left) (taken talk_before) (taken talk_after) handled
  pub steps : steps_after ≡ steps_before + all_read handled

module _ (tools : ToolsOf) where
  -- a turn that ends it
  pub turn_ends_both :
      (reading then : Reading) (before after : DeskOf) (a b : List Event) (answers answered : List Fetched) (files : Option Files) (left rest : Option (List ℕ)) (end : SessionEnd) (start finish : ℕ) → IsAtEnd reading.ended left
      → (events : List Event) × (asked : List Fetched) × (read : ℕ) × (finish ≡ start + read) × HasPassed a b answers answered files events asked × Turn tools reading then (record { before = before; after = after; asked = asked }) read events left rest (Some end)
      → Serves tools reading end before after a b answers answered files left start finish
  turn_ends_both reading then before after a b answers answered files left rest end start finish at_end (events, asked, read, steps, passed, one) =
      let around : Dealing = record { before = before; after = after; asked = asked } in
      record {
        asked = asked;
        handled = handled_by tools around then.line read one.last one.told end one.answers;
        answered = passed.answered;
        conversed = turn_ends tools reading then around a b answers answered files left rest end events read passed one;
        served = turn_ends_served tools reading then around a b answers answered files left rest end events read at_end passed one;
        steps = steps ∙ ap (λ (n : ℕ). start + n) (read_by tools around then.line read one.last one.told end one.answers);
      }

  -- a turn after which it goes on
  pub turn_goes_on_both :
      (reading then : Reading) (before middle after : DeskOf) (a b c : List Event) (answers answered told : List Fetched) (files : Option Files) (left rest : Option (List ℕ)) (end : SessionEnd) (start between finish : ℕ) → end ≢ Memory → IsAtEnd reading.ended left
      → (events : List Event) × (asked : List Fetched) × (read : ℕ) × (between ≡ start + read) × HasPassed a b answers answered files events asked × Turn tools reading then (record { before = before; after = middle; asked = asked }) read events left rest None
      → Serves tools then end middle after b c answered told files rest between finish → Serves tools reading end before after a c answers told files left start finish
  turn_goes_on_both reading then before middle after a b c answers answered told files left rest end start between finish other at_end (events, asked, read, steps, passed, one) later =
      let around : Dealing = record { before = before; after = middle; asked = asked } in
      let first : Handled = handled_on tools around then.line read one.last one.told one.answers in
      record {
        asked = asked ++ later.asked;
        handled = first ∷ later.handled;
        answered = later.answered ∙ ap (λ (es : List Fetched). es ++ later.asked) passed.answered ∙ append_assoc answers asked later.asked;
        conversed = turn_goes_on tools reading then around after a b c answers answered told files left rest end events read later.handled passed one later.conversed;
        served = turn_goes_on_served tools reading then around after a b (taken c) answers answered files left rest end events read later.asked later.handled other at_end passed one later.served;
        steps = (
            let here = read_on tools around then.line read one.last one.told one.answers in
            let all = sum_by-cons (λ (it : Handled). it.read) first later.handled in
            let steps_later = later.steps in omega (arith, steps, here, all, steps_later));
      }

  -- at the begin a reader holds nothing
  none_held : (left : Option (List ℕ)) (most : ℕ) → not_given (record { line = []; held = []; room = most; beyond = []; ended = false }) left ≡ left
  none_held None most = refl
  none_held (Some bytes) most = refl

  -- what is served of a reader that holds nothing is served of the link
  pub from_begin :
      (most : ℕ) (end : SessionEnd) (before after : DeskOf) (a b : List Event) (answers answered : List Fetched) (files : Option Files) (left : Option (List ℕ)) (start finish : ℕ) (reading : Reading) → reading ≡ fresh most → Serves tools reading end before after a b answers answered files left start finish
      → (asked : List Fetched) × (handled : List Handled) × (answered ≡ answers ++ asked) × HasConversed tools a b answers answered files (fresh most) before after end handled × IsServed tools most end (record { before = before; after = after; asked = asked }) left (taken a) (taken b) handled × (finish ≡ start + all_read handled)
      × ReadsFew (record { before = before; after = after; asked = asked }) handled
  from_begin most end before after a b answers answered files left start finish reading is serves = (there.asked, there.handled, there.answered, there.conversed, whole, there.steps, reads_few tools before after there.asked there.handled whole.session)
    where
      there : Serves tools (fresh most) end before after a b answers answered files left start finish
      there = subst (λ (r : Reading). Serves tools r end before after a b answers answered files left start finish) is serves

      around : Dealing
      around = record { before = before; after = after; asked = there.asked }

      all : length {A = ℕ} [] + most ≡ most
      all = omega arith

      whole : IsServed tools most end around left (taken a) (taken b) there.handled
      whole =
          subst (λ (l : Option (List ℕ)). IsServed tools most end around l (taken a) (taken b) there.handled) (none_held left most)
          (subst (λ (n : ℕ). IsServed tools n end around (not_given (fresh most) left) (taken a) (taken b) there.handled) all there.served)

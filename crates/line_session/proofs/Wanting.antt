-- That there was no memory is replied to five commands alone.
use Rattle.std.proofs.Common.{◌≡◌, sym, ◌∙◌, ap, ℕ, List, [], Bool, true, false, Option, get_or, inl, inr, nat_le, arith, if◌then◌else◌}
use Rattle.std.specs.Option.{is_some}
use Rattle.query_meaning.specs.Replies.{no_command_reply, no_memory_reply, not_text_reply, not_yet_reply, quit_reply, seen_reply, syntax_reply}
use Rattle.query_meaning.specs.Requests.{MayFindNoMemory}
use Rattle.input_lines.specs.Requests.{Request, NotText, Blank, NoCommand, Stops, Quit, After, Append, Ask, Flush, Agg, Show, IsRequest}
use Rattle.line_session.specs.Replies.{AnswersRequest, Dealing, front_reply}
use Rattle.line_session.specs.Tools.{ToolsOf}

-- two replies differ in a byte
pub differ : (place : ℕ) (one other : List ℕ) → (get_or one place 0 ≡ get_or other place 0 → ⊥) → (reply : List ℕ) → reply ≡ one → reply ≡ other → ⊥
differ place one other apart reply is told = apart (ap (λ bytes. get_or bytes place 0) (sym is ∙ told))

told_front : (asked front : ℕ) (reply : List ℕ) → reply ≡ front_reply asked front → reply ≡ no_memory_reply → ⊥
told_front asked front reply text told = by (nat_le asked front) text
  where
    by : (b : Bool) → reply ≡ (if b then seen_reply front else not_yet_reply asked front) → ⊥
    by true is = differ 0 (seen_reply front) no_memory_reply (λ same. omega arith) reply is told
    by false is = differ 5 (not_yet_reply asked front) no_memory_reply (λ same. omega arith) reply is told

pub lack : (tools : ToolsOf) (around : Dealing) (line : List ℕ) (request : Request) (position : Option ℕ) (reply : List ℕ) → IsRequest line request → AnswersRequest tools around request position reply → reply ≡ no_memory_reply → MayFindNoMemory line
lack tools around line NotText position reply asks is told = absurd (differ 4 not_text_reply no_memory_reply (λ same. omega arith) reply is.1 told)
lack tools around line Blank position reply asks is told = absurd (differ 0 [] no_memory_reply (λ same. omega arith) reply is.1 told)
lack tools around line NoCommand position reply asks is told = absurd (differ 4 no_command_reply no_memory_reply (λ same. omega arith) reply is.1 told)
lack tools around line (Stops byte) position reply asks is told = absurd (differ 4 (syntax_reply byte) no_memory_reply (λ same. omega arith) reply is.1 told)
lack tools around line Quit position reply asks is told = absurd (differ 0 quit_reply no_memory_reply (λ same. omega arith) reply is.1 told)
lack tools around line (After n) position reply asks is told = absurd (told_front n is.front reply is.text told)
lack tools around line (Append argument) position reply asks is told = inl (asks.0, inr (inl (ap is_some asks.1.command)))
lack tools around line (Ask query) position reply asks is told = inl (asks.0, inl (ap is_some asks.1.command))
lack tools around line (Flush text) position reply asks is told = inl (asks.0, inr (inr (inl (ap is_some asks.1.command))))
lack tools around line (Agg name) position reply asks is told = inl (asks.0, inr (inr (inr (ap is_some asks.1.command))))
lack tools around line Show position reply asks is told = inr asks

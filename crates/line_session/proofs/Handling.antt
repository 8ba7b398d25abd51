-- A line that was read is handled as its request says, and what is seen goes on.
use Rattle.std.proofs.Common.{◌≡◌, refl, ℕ, List, [], Option, None, inl, inr}
use Rattle.query_meaning.specs.Replies.{no_memory_reply}
use Rattle.query_meaning.specs.Requests.{MayTakeMemory}
use Rattle.input_lines.specs.Requests.{Request, IsOnly, IsRequest}
use Rattle.line_session.specs.Desks.{DeskOf}
use Rattle.line_session.specs.Replies.{AnswersRequest, Dealing, Handles, IsRead}
use Rattle.line_session.specs.Tools.{ToolsOf}
use Rattle.line_session.proofs.Replying.{between, stands_still}
use Rattle.line_session.proofs.Wanting.{lack}

-- a line was read, which asks for one thing, and answered
pub handles_request : (tools : ToolsOf) (around : Dealing) (line : List ℕ) (request : Request) (position : Option ℕ) (reply : List ℕ) (read : ℕ) → IsRequest line request → IsOnly line request → AnswersRequest tools around request position reply → IsRead around request position read
    → Handles tools around (record { line = line; position = position; reply = reply; read = read })
handles_request tools around line request position reply read asks only answers reads = record { answers = inl (record { request = request; asks = asks; only = only; answers = answers; reads = reads }); lack = lack tools around line request position reply asks answers }

-- there was no memory to read it
pub handles_none : (tools : ToolsOf) (desk : DeskOf) (line reply : List ℕ) → MayTakeMemory line → reply ≡ no_memory_reply → Handles tools (between desk desk []) (record { line = line; position = None; reply = reply; read = 0 })
handles_none tools desk line reply may told = record { answers = inr (record { takes = may; nothing = stands_still desk; no_memory = told; unread = refl }); lack = λ _. inl may }

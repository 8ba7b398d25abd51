-- What a reply tells of the answer to a query.
use Rattle.std.proofs.Common.{◌≡◌, ◌≢◌, ◌⊎◌, ℕ, List, Result, Ok, Err, MatchResult, IfOk, IsErrAnd, refl, ap, sym, inl, inr, ◌∙◌}
use Rattle.std.proofs.lemmas.Result.{err_from_is_err_and}
use Rattle.olap_meaning.specs.FileQuery.{FileQuery, FileFault, answer_of}
use Rattle.fault_texts.specs.FaultTexts.{fact_line}
use Rattle.olap_meaning.specs.Texts.{line, plain_text}
use Rattle.olap_meaning.specs.declared.Aggregator.{Aggregator}
use Rattle.olap_meaning.specs.declared.CellValue.{CellValue}
use Rattle.olap_meaning.specs.declared.OutOfMemory.{OutOfMemory}
use Rattle.olap_server.specs.declared.status.Status.{Status}
use Rattle.olap_server.specs.declared.status.Status.TheVariants.{Done, Schema}
use Rattle.olap_server.specs.declared.fault.CellFault.{CellFault}
use Rattle.olap_server.specs.declared.fault.CellFault.TheVariants.{OutOfMemory as NoMemory}
use Rattle.olap_server.specs.Faults.{told_fault, refusal_text}
use Rattle.olap_server.specs.Run.{AnswerTells}
use Rattle.olap_server.specs.Said.{Said, IsSaid, no_memory}

-- the answer to a query is that to its parts
pub answer_of_parts : (query : FileQuery) (file : List (List (List ℕ))) (column : List ℕ) (aggregator : Aggregator) (pairs : List (List ℕ × List ℕ))
    → column ≡ query.column → aggregator ≡ query.aggregator → pairs ≡ query.pairs → answer_of (record { column = column; aggregator = aggregator; pairs = pairs }) file ≡ answer_of query file
answer_of_parts query file column aggregator pairs c a p = rw (c, a, p) refl

-- a reply whose text was made is that text, or tells that there was no memory for it
told_or_not : (text : Result (List ℕ) OutOfMemory) (reply : Said) (status : Status) (wanted : List ℕ) → IfOk text (λ t. t ≡ wanted)
    → MatchResult text (λ t. reply ≡ record { status = status; text = t }) (λ _. reply ≡ no_memory) → (reply ≡ record { status = status; text = wanted }) ⊎ (reply ≡ no_memory)
told_or_not (Ok t) reply status wanted is told = inl (told ∙ ap (λ x. record { status = status; text = x }) is)
told_or_not (Err e) reply status wanted is told = inr told

pub value_told : (text : Result (List ℕ) OutOfMemory) (reply : Said) (file : List ℕ) (answer : Result CellValue FileFault) (value : CellValue) → answer ≡ Ok value → IfOk text (λ t. t ≡ line (plain_text value))
    → MatchResult text (λ t. reply ≡ record { status = Done; text = t }) (λ _. reply ≡ no_memory) → AnswerTells answer file reply.status reply.text ⊎ (reply ≡ no_memory)
value_told text reply file answer value is made told = elim (told_or_not text reply Done (line (plain_text value)) made told) [
  | inl e ↦ inl (rw is (ap (λ r. r.status) e, ap (λ r. r.text) e))
  | inr e ↦ inr e
]

-- what is told of a fault is told of its answer
pub refusal_told : (told : CellFault) (reply : Said) (file : List ℕ) (parts answer : Result CellValue FileFault) → parts ≡ answer → (told ≡ NoMemory) ⊎ IsErrAnd parts (λ fault. told ≡ told_fault fault)
    → IsSaid (told ≢ NoMemory) Schema (fact_line file (refusal_text told)) reply → AnswerTells answer file reply.status reply.text ⊎ (reply ≡ no_memory)
refusal_told told reply file parts answer same found (inl none) = inr none
refusal_told told reply file parts answer same (inl none) (inr said) = absurd (said.0 none)
refusal_told told reply file parts answer same (inr found) (inr said) =
    let fault = err_from_is_err_and parts found in
    let words : refusal_text told ≡ refusal_text (told_fault fault.0) = ap refusal_text fault.2 in
    let is : answer ≡ Err fault.0 = sym same ∙ fault.1 in
    inl (rw is (ap (λ r. r.status) said.1, ap (λ r. r.text) said.1 ∙ ap (fact_line file) words))

-- Faults of outcomes.
use Rattle.std.proofs.Common.{◌≡◌, ◌∙◌, ◌<◌, ◌⊎◌, inl, inr, List, ℕ, get_or, length, take, Option, None, Some, Result, Ok, Err, refl, ap}
use Rattle.std.specs.Option.{IfSome, IsSomeAnd}
use Rattle.olap_meaning.specs.Results.{unless}
use Rattle.query_meaning.specs.Resolution.{Refusal}
use Rattle.cell_request.specs.declared.fault.ResolveFault.{ResolveFault}
use Rattle.cell_request.specs.declared.fault.ResolveFault.TheVariants as fault
use Rattle.olap_meaning.proofs.Each.{each, each_fails}
use Rattle.cell_request.specs.Faults.{refusal_of, IsFaultOf, IsReason}

told : {A B : Type 0} (o : Option Refusal) (one : Result A Refusal) (other : Result B Refusal) → ((refused : Refusal) → one ≡ Err refused → other ≡ Err refused) → IfSome o (λ refused. one ≡ Err refused) → IfSome o (λ refused. other ≡ Err refused)
told None one other on is = tt
told (Some refused) one other on is = on refused is

-- a fault of an outcome is that of an outcome that fails with it
pub fault_on : {A B : Type 0} (f : ResolveFault) (one : Result A Refusal) (other : Result B Refusal) → ((refused : Refusal) → one ≡ Err refused → other ≡ Err refused) → IsFaultOf f one → IsFaultOf f other
fault_on f one other on is = told (refusal_of f) one other on is

reasoned : {A : Type 0} (o reason : Option Refusal) (answer : Result A Refusal) → IfSome o (λ refused. reason ≡ Some refused) → IfSome o (λ refused. unless reason answer ≡ Err refused)
reasoned None reason answer is = tt
reasoned (Some refused) reason answer is = ap (λ o. unless o answer) is

-- a reason refuses what is answered without it
pub reason_refuses : {A : Type 0} (f : ResolveFault) (reason : Option Refusal) (answer : Result A Refusal) → IsReason f reason → IsFaultOf f (unless reason answer)
reason_refuses f reason answer is = reasoned (refusal_of f) reason answer is

-- a fault of an outcome, in the words of the public calls
pub fault_said : {A : Type 0} (f : ResolveFault) (outcome : Result A Refusal) → IsFaultOf f outcome → (f ≡ fault.OutOfMemory) ⊎ IsSomeAnd (refusal_of f) (λ refused. outcome ≡ Err refused)
fault_said (fault.UnknownCube name) outcome is = inr is
fault_said (fault.UnknownMember name) outcome is = inr is
fault_said (fault.AxisTwice hierarchy) outcome is = inr is
fault_said (fault.MixedSet at) outcome is = inr is
fault_said (fault.TooManyCells count limit) outcome is = inr is
fault_said fault.OutOfMemory outcome is = inl refl

-- the same of a list's outcome, at the one that is refused
pub fault_each : {A B : Type 0} (f : ResolveFault) (step : A → Result B Refusal) (outcome : Result (List B) Refusal) (xs : List A) (i : ℕ) (x : A) (front : List B)
    → outcome ≡ each step xs → i < length xs → x ≡ get_or xs i x → each step (take i xs) ≡ Ok front → IsFaultOf f (step x) → IsFaultOf f outcome
fault_each f step outcome xs i x front same within is before fault =
    fault_on f (step x) outcome (λ refused at. same ∙ each_fails step xs i x front refused within is before at) fault

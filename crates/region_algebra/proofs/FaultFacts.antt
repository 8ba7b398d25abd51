-- Faults of outcomes.
use Rattle.std.proofs.Common.{◌≡◌, ◌∙◌, ◌<◌, ◌⊎◌, inl, inr, List, ℕ, get_or, length, take, Option, None, Some, Result, Ok, Err, ok_or, refl, sym, ap, subst}
use Rattle.std.specs.Option.{IsSomeAnd}
use Rattle.olap_meaning.specs.Results.{◌>>=◌, unless}
use Rattle.olap_meaning.specs.Catalog.{find_cube}
use Rattle.olap_meaning.specs.declared.tables.Catalog.{Catalog}
use Rattle.query_meaning.specs.declared.region_text.RegionText.{RegionText}
use Rattle.query_meaning.specs.RegionMeaning.{NoCube, RegionRefusal, flush_meant, region_meant, without_measures}
use Rattle.region_algebra.specs.declared.fault.RegionFault.{RegionFault}
use Rattle.region_algebra.specs.declared.fault.RegionFault.TheVariants as fault
use Rattle.region_algebra.specs.Faults.{refusal_of, IsFaultOf, IsReason}
use Rattle.olap_meaning.proofs.Each.{each, each_fails}

weaker : {X : Type 0} (o : Option X) (P Q : X → Type 0) → ((x : X) → P x → Q x) → IsSomeAnd o P → IsSomeAnd o Q
weaker None P Q on is = is
weaker (Some x) P Q on is = on x is

-- a fault of an outcome is that of an outcome that fails with it
pub fault_on : {A B : Type 0} (f : RegionFault) (one : Result A RegionRefusal) (other : Result B RegionRefusal) → ((refused : RegionRefusal) → one ≡ Err refused → other ≡ Err refused) → IsFaultOf f one → IsFaultOf f other
fault_on f one other on (inl short) = inl short
fault_on f one other on (inr is) = inr (weaker (refusal_of f) (λ refused. one ≡ Err refused) (λ refused. other ≡ Err refused) on is)

-- a reason refuses what is answered without it
pub reason_refuses : {A : Type 0} (f : RegionFault) (reason : Option RegionRefusal) (answer : Result A RegionRefusal) → IsReason f reason → IsFaultOf f (unless reason answer)
reason_refuses f reason answer (inl short) = inl short
reason_refuses f reason answer (inr is) = inr (weaker (refusal_of f) (λ refused. reason ≡ Some refused) (λ refused. unless reason answer ≡ Err refused) (λ refused at. ap (λ o. unless o answer) at) is)

-- a reason that another is
pub reason_on : (f : RegionFault) (one other : Option RegionRefusal) → ((refused : RegionRefusal) → one ≡ Some refused → other ≡ Some refused) → IsReason f one → IsReason f other
reason_on f one other on (inl short) = inl short
reason_on f one other on (inr is) = inr (weaker (refusal_of f) (λ refused. one ≡ Some refused) (λ refused. other ≡ Some refused) on is)

-- what is answered has no reason against it
pub unless_ok : {A : Type 0} (reason : Option RegionRefusal) (answer : Result A RegionRefusal) (x : A) → unless reason answer ≡ Ok x → (reason ≡ None) × (answer ≡ Ok x)
unless_ok None answer x is = (refl, is)
unless_ok (Some refused) answer x is = absurd (cc is)

-- the same of a list's outcome, at the one that is refused
pub fault_each : {A B : Type 0} (f : RegionFault) (step : A → Result B RegionRefusal) (outcome : Result (List B) RegionRefusal) (xs : List A) (i : ℕ) (x : A) (front : List B)
    → outcome ≡ each step xs → i < length xs → x ≡ get_or xs i x → each step (take i xs) ≡ Ok front → IsFaultOf f (step x) → IsFaultOf f outcome
fault_each f step outcome xs i x front same within is before told =
    fault_on f (step x) outcome (λ refused at. same ∙ each_fails step xs i x front refused within is before at) told

-- the fault of a name that no cube has
pub cube_fault : {A : Type 0} (f : RegionFault) (name : List ℕ) (outcome : Result A RegionRefusal) → (f ≡ fault.OutOfMemory) ⊎ (f ≡ fault.UnknownCube name) → outcome ≡ Err (NoCube name) → IsFaultOf f outcome
cube_fault f name outcome (inl short) is = inl short
cube_fault f name outcome (inr named) is = inr (subst (λ g. IsSomeAnd (refusal_of g) (λ refused. outcome ≡ Err refused)) (sym named) is)

-- a text whose cube is unknown
pub no_cube : (catalog : Catalog) (text : RegionText) → find_cube catalog text.cube ≡ None → flush_meant catalog text ≡ Err (NoCube text.cube)
no_cube catalog text none = ap (λ o. ok_or o (NoCube text.cube) >>= (λ cube. region_meant catalog cube text.region >>= (λ region. unless (without_measures region) (Ok region)))) none

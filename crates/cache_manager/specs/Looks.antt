-- What a look comes to.
use Rattle.std.specs.Prelude.{ℕ, ⊤, List, Result, Ok}
use Rattle.history_core.specs.declared.answers.Answer.{Answer}
use Rattle.segment_load.specs.Loads.{JobOf}
use Rattle.cache_manager.specs.declared.outcome.Look.{Look}
use Rattle.cache_manager.specs.declared.outcome.Look.TheVariants.{Ready, Load, Wait}

-- a look is answered, and so
abbrev pub IfReady : {E : Type 0} → Result Look E → (Answer → Type 0) → Type 0
IfReady (Ok (Ready answer)) holds = holds answer
IfReady _ holds = ⊤

-- a look needs loads, and so
abbrev pub IfLoad : {E : Type 0} → Result Look E → (List JobOf → Type 0) → Type 0
IfLoad (Ok (Load jobs)) holds = holds jobs
IfLoad _ holds = ⊤

-- a look waits for loads in flight, and so
abbrev pub IfWait : {E : Type 0} → Result Look E → (List ℕ → Type 0) → Type 0
IfWait (Ok (Wait loads)) holds = holds loads
IfWait _ holds = ⊤

-- What a look comes to: what follows for each outcome.
use Rattle.std.proofs.Common.{ℕ, List, Result, Ok, Err}
use Rattle.history_core.specs.declared.answers.Answer.{Answer}
use Rattle.segment_load.specs.Loads.{JobOf}
use Rattle.cache_manager.specs.Looks.{IfLoad, IfReady, IfWait}
use Rattle.cache_manager.specs.declared.outcome.Look.{Look}
use Rattle.cache_manager.specs.declared.outcome.Look.TheVariants.{Ready, Load, Wait}

-- what follows for an answer, for jobs, or for awaited loads, follows for a look that gives them
module _ {E : Type 0} where
  pub ready_so : (P Q : Answer → Type 0) (r : Result Look E) → ((answer : Answer) → P answer → Q answer) → IfReady r P → IfReady r Q
  ready_so P Q (Ok (Ready answer)) so h = so answer h
  ready_so P Q (Ok (Load jobs)) so h = tt
  ready_so P Q (Ok (Wait loads)) so h = tt
  ready_so P Q (Err e) so h = tt

  pub load_so : (P Q : List JobOf → Type 0) (r : Result Look E) → ((jobs : List JobOf) → P jobs → Q jobs) → IfLoad r P → IfLoad r Q
  load_so P Q (Ok (Ready answer)) so h = tt
  load_so P Q (Ok (Load jobs)) so h = so jobs h
  load_so P Q (Ok (Wait loads)) so h = tt
  load_so P Q (Err e) so h = tt

  pub wait_so : (P Q : List ℕ → Type 0) (r : Result Look E) → ((loads : List ℕ) → P loads → Q loads) → IfWait r P → IfWait r Q
  wait_so P Q (Ok (Ready answer)) so h = tt
  wait_so P Q (Ok (Load jobs)) so h = tt
  wait_so P Q (Ok (Wait loads)) so h = so loads h
  wait_so P Q (Err e) so h = tt

  pub wait_both : (P Q : List ℕ → Type 0) (r : Result Look E) → IfWait r P → IfWait r Q → IfWait r (λ loads. P loads × Q loads)
  wait_both P Q (Ok (Ready answer)) one other = tt
  wait_both P Q (Ok (Load jobs)) one other = tt
  wait_both P Q (Ok (Wait loads)) one other = (one, other)
  wait_both P Q (Err e) one other = tt

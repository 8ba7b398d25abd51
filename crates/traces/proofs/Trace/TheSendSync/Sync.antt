-- A trace owns nothing, so threads may share it.
use denote.RattleType.{RattleType}
use denote.Param.Send.{IsSend, IsSync, owning_send, sendable, whole-keyless}
use Rattle.traces.specs.contracts.Trace.{the_row, the_type}

pub sync : (A : RattleType) → IsSync A → IsSync (the_row A)
sync A a =
    let owned : IsSend (the_row A) = owning_send (the_type A) (search sendable, tt) (λ d. tt) (λ k x w. tt) in
    record { shared = λ d b o κ q. whole-keyless _ _ owned.owned q d b o }

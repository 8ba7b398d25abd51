-- The facts refuse a batch as the history does, and a batch that is admitted is a legal append.
use Rattle.std.proofs.Common.{◌≡◌, ◌∙◌, ap, inl, inr, Some, None, length, arith}
use Rattle.fact_versions.specs.Facts.{batches_of}
use Rattle.cache_manager.proofs.Appends.{alike_all, entry_is, fits_cube, known_cube, legal_append, refused, version_is}
use Rattle.cache_manager.proofs.Moves.{appended}
use Rattle.cache_manager.proofs.manager.Manager.append.Goals as goal

pub append-requires-clause-alike : goal.append-requires-clause-alike
append-requires-clause-alike c =
    rw (c.in_ok-shared_again.ensures, c.in_ok-batch.ensures) (alike_all c.args.self.now c.self.inside.history c.self.inside.facts c.args.who c.args.cube c.args.batch c.self.view_is c.self.invariant.facts_are c.requires.known c.requires.fit)

pub returns-in-Err-clause-fault : goal.returns-in-Err-clause-fault
returns-in-Err-clause-fault c =
    let same : c.in_ok-shared_again.field-0.value ≡ c.args.batch = c.in_ok-shared_again.ensures ∙ c.in_ok-batch.ensures in
    elim c.in-Err.ensures.fault [
      | inl wanting ↦ inl wanting
      | inr refusal ↦ inr (refused c.args.self.now c.self.inside.history c.self.inside.facts c.args.who c.args.cube c.args.batch c.self.view_is c.self.invariant.facts_are c.requires.known c.requires.fit (Some c.in-Err.fault) (rw (← same) refusal))
    ]

pub push-requires-clause-legal : goal.push-requires-clause-legal
push-requires-clause-legal c =
    let same : c.in_ok-shared_again.field-0.value ≡ c.args.batch = c.in_ok-shared_again.ensures ∙ c.in_ok-batch.ensures in
    rw (c.reserve.ensures.setting, c.reserve.ensures.entries, c.in_ok-batch.ensures)
    (legal_append c.args.self.now c.self.inside.history c.self.inside.facts c.args.who c.args.cube c.args.batch c.self.view_is c.self.invariant.facts_are c.requires.known c.requires.fit c.in-Ok.version
    (rw (← same) (c.in-Ok.ensures.version ∙ ap (λ facts. length (batches_of facts c.args.cube)) c.in-Ok.ensures.appended)) c.steps_are_legal.ensures c.requires.call
    (rw (← same) c.in-Ok.ensures.admitted))

pub invariant_of-self-2 : goal.invariant_of-self-2
invariant_of-self-2 c =
    let same : c.in_ok-shared_again.field-0.value ≡ c.args.batch = c.in_ok-shared_again.ensures ∙ c.in_ok-batch.ensures in
    let is = c.self.view_is in
    let are = c.self.invariant.facts_are in
    rw (c.push.ensures.setting, c.push.ensures.entries, c.reserve.ensures.setting, c.reserve.ensures.entries, c.in_ok-batch.ensures, c.in-Ok.ensures.appended, same)
    (appended c.self.inside.history.setting c.self.inside.history.entries c.self.inside.facts _ _ _ _ _ c.steps_are_legal.ensures c.self.inside.history.spare _ c.args.who c.args.cube c.in-Ok.version c.args.batch c.self.invariant
    (omega (arith, c.push.ensures.spare, c.in_ok-reserve.ensures.ok, c.in_ok-room_for.ensures))
    (known_cube c.args.self.now c.self.inside.history c.self.inside.facts c.args.who c.args.cube c.args.batch is are c.requires.known c.requires.fit)
    (fits_cube c.args.self.now c.self.inside.history c.self.inside.facts c.args.who c.args.cube c.args.batch is are c.requires.known c.requires.fit))

pub returns-clause-entry : goal.returns-clause-entry
returns-clause-entry c =
    let same : c.in_ok-shared_again.field-0.value ≡ c.args.batch = c.in_ok-shared_again.ensures ∙ c.in_ok-batch.ensures in
    rw (c.push.ensures.entries, c.reserve.ensures.entries, c.in_ok-batch.ensures)
    (entry_is c.args.self.now c.self.inside.history c.self.inside.facts c.args.who c.args.cube c.args.batch c.self.view_is c.self.invariant.facts_are c.requires.known c.requires.fit c.in-Ok.version
    (rw (← same) (c.in-Ok.ensures.version ∙ ap (λ facts. length (batches_of facts c.args.cube)) c.in-Ok.ensures.appended)))

pub returns-clause-version : goal.returns-clause-version
returns-clause-version c =
    let same : c.in_ok-shared_again.field-0.value ≡ c.args.batch = c.in_ok-shared_again.ensures ∙ c.in_ok-batch.ensures in
    rw (c.push.ensures.entries, c.reserve.ensures.entries, c.in_ok-batch.ensures)
    (version_is c.args.self.now c.self.inside.history c.self.inside.facts c.args.who c.args.cube c.args.batch c.self.view_is c.self.invariant.facts_are c.requires.known c.requires.fit c.in-Ok.version
    (rw (← same) (c.in-Ok.ensures.version ∙ ap (λ facts. length (batches_of facts c.args.cube)) c.in-Ok.ensures.appended)))

pub returns-clause-admitted : goal.returns-clause-admitted
returns-clause-admitted c =
    let same : c.in_ok-shared_again.field-0.value ≡ c.args.batch = c.in_ok-shared_again.ensures ∙ c.in_ok-batch.ensures in
    refused c.args.self.now c.self.inside.history c.self.inside.facts c.args.who c.args.cube c.args.batch c.self.view_is c.self.invariant.facts_are c.requires.known c.requires.fit None (rw (← same) c.in-Ok.ensures.admitted)

use Rattle.std.proofs.Common.{◌≡◌, sym, ap, ◌∙◌, subst}
use mathlib.Core.Option.{some-injective}
use mathlib.Core.List.{IsPrefix}
use Rattle.turn_inbox.specs.Entries.{by, AllUpTo}
use Rattle.turn_inbox.proofs.Moves.{closes, same_some}
use Rattle.turn_inbox.proofs.dealing.take_out.Goals as goal

pub unreachable-requires : goal.unreachable-requires
unreachable-requires g c =
    let e = closes _ _ _ _ _ _ _ _ _ _ c.close_with-closed.ensures.values.2 c.requires.rest.1 c.requires.all in
    c.in_default.not-Some e.0 (some-injective _ _ (sym c.take-slot.ensures.value ∙ e.1))

pub returns-clause-seen : goal.returns-clause-seen
returns-clause-seen g c =
    let e = closes _ _ _ _ _ _ _ _ _ _ c.close_with-closed.ensures.values.2 c.requires.rest.1 c.requires.all in
    let is = same_some _ _ _ (some-injective _ _ (sym c.take-slot.ensures.value ∙ e.1)) c.in-Some.is in
    ap g.M.Chronicle.list (sym is) ∙ e.2.seen

pub returns-clause-told : goal.returns-clause-told
returns-clause-told g c = λ xs a.
    let e = closes _ _ _ _ _ _ _ _ _ _ c.close_with-closed.ensures.values.2 c.requires.rest.1 c.requires.all in
    let is = same_some _ _ _ (some-injective _ _ (sym c.take-slot.ensures.value ∙ e.1)) c.in-Some.is in
    subst (λ x. IsPrefix xs (g.M.Chronicle.list x)) is (e.2.told xs a)

pub returns-clause-mine : goal.returns-clause-mine
returns-clause-mine g c = λ k es a.
    let e = closes _ _ _ _ _ _ _ _ _ _ c.close_with-closed.ensures.values.2 c.requires.rest.1 c.requires.all in
    let is = same_some _ _ _ (some-injective _ _ (sym c.take-slot.ensures.value ∙ e.1)) c.in-Some.is in
    subst (λ x. by g.M.Chronicle.seat_of k (g.M.Chronicle.list x) ≡ es) is (e.2.mine k es a)

pub returns-clause-basis : goal.returns-clause-basis
returns-clause-basis g c =
    let e = closes _ _ _ _ _ _ _ _ _ _ c.close_with-closed.ensures.values.2 c.requires.rest.1 c.requires.all in
    let is = same_some _ _ _ (some-injective _ _ (sym c.take-slot.ensures.value ∙ e.1)) c.in-Some.is in
    ap g.M.Chronicle.basis (sym is) ∙ e.2.based

pub returns-clause-lawful : goal.returns-clause-lawful
returns-clause-lawful g c =
    let e = closes _ _ _ _ _ _ _ _ _ _ c.close_with-closed.ensures.values.2 c.requires.rest.1 c.requires.all in
    let is = same_some _ _ _ (some-injective _ _ (sym c.take-slot.ensures.value ∙ e.1)) c.in-Some.is in
    subst (λ x. g.M.Chronicle.lawful (g.M.Chronicle.basis c.args.table.shared.key.value) (g.M.Chronicle.list x)) is e.2.law

pub returns-clause-seats : goal.returns-clause-seats
returns-clause-seats g c =
    let e = closes _ _ _ _ _ _ _ _ _ _ c.close_with-closed.ensures.values.2 c.requires.rest.1 c.requires.all in
    let is = same_some _ _ _ (some-injective _ _ (sym c.take-slot.ensures.value ∙ e.1)) c.in-Some.is in
    subst (λ x. AllUpTo g.M.Chronicle.seat_of c.args.table.shared.key.seats (g.M.Chronicle.list x)) is e.2.authors

use Rattle.std.proofs.Common.{rules, refl, ap, ◌∙◌, ◌∷◌, Some, None}
use Rattle.atomic_table.specs.Table.{rest}
use Rattle.turn_inbox.specs.Rule.{holding}
use Rattle.turn_inbox.proofs.Moves.{founds_at, leaves_as}
use Rattle.turn_inbox.proofs.dealing.settle.Goals as goal

pub load-requires : goal.load-requires
load-requires g c = let is = c.requires.first in (search rules, search rules, founds_at _ _ _ _ _ _ _ _ _ (ap (λ m. m.0.turn) is) (ap (λ m. m.0.fresh) is))

pub store-requires : goal.store-requires
store-requires g c =
    let me = c.exchange-before.ensures.3 ∙ ap (λ m. (m.0, (0, Some c.args.value) ∷ rest m.1)) (c.load.ensures.2 ∙ ap (λ m. (holding m.0 m.0.seen, (0, None) ∷ m.1)) c.requires.first) in
    (search rules, search rules, leaves_as _ _ _ _ _ _ _ _ _ _ c.args.value me refl refl refl refl)

-- What is found under the key are its positions.
use Rattle.std.proofs.Common.{◌≡◌, ◌∙◌, ap, sym, ℕ, None, Some, nat_eq}
use Rattle.std.specs.Global.{Vec}
use Rattle.std.specs.Map.{lookup}
use Rattle.std.specs.Option.{option_copied}
use Rattle.cache_flush.proofs.AnchorFacts.{places_looked_up, positions_or_none}
use Rattle.cache_flush.proofs.places.Places.at.Goals as goal

pub returns-in-Some : goal.returns-in-Some
returns-in-Some c =
    let had : lookup (nat_eq c.args.key) c.self.inside.by_key.entries ≡ Some c.in-Some.positions.now = sym c.get.ensures.value ∙ ap option_copied c.in-Some.is in
    rw (← c.self.view_is) (c.as_slice.ensures.value ∙ sym (places_looked_up (λ (v : Vec ℕ). v.items) c.self.inside.by_key.entries c.args.key ∙ ap (positions_or_none (λ (v : Vec ℕ). v.items)) had))

pub returns-in-None : goal.returns-in-None
returns-in-None c =
    let had : lookup (nat_eq c.args.key) c.self.inside.by_key.entries ≡ None = sym c.get.ensures.value ∙ ap option_copied c.in-None.is in
    rw (← c.self.view_is) (sym (places_looked_up (λ (v : Vec ℕ). v.items) c.self.inside.by_key.entries c.args.key ∙ ap (positions_or_none (λ (v : Vec ℕ). v.items)) had))

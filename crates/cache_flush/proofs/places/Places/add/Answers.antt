-- The position stands under the key, and what stood there stays.
use Rattle.std.proofs.Common.{◌≡◌, ◌∙◌, ◌++◌, ◌∷◌, [], ap, sym, ℕ, List, None, Some, nat_eq, rules}
use Rattle.std.specs.Global.{Vec}
use Rattle.std.specs.Map.{lookup}
use Rattle.std.specs.Option.{option_copied_mut}
use Rattle.olap_meaning.specs.Covering.{among}
use Rattle.cache_flush.proofs.AnchorFacts.{among_added, among_stays, places_stay, places_there}
use Rattle.cache_flush.proofs.places.Places.add.Goals as goal

pub returns-in_err-push-clause-kept : goal.returns-in_err-push-clause-kept
returns-in_err-push-clause-kept c =
    let had : lookup (nat_eq c.args.key) c.self.inside.by_key.entries ≡ Some c.in-Some.positions.now = sym c.get_mut.ensures.value ∙ ap option_copied_mut c.in-Some.is in
    let written = (c.get_mut.follows.holds c.push.new.self).3 (search rules) in
    let same : c.push.new.self.items ≡ c.in-Some.positions.now.items = c.in_err-push.ensures.items in
    rw (← c.self.view_is) (places_stay (λ (v : Vec ℕ). v.items) c.self.inside.by_key.entries _ c.args.key _ (Some c.in-Some.positions.now) had written.0
    (λ p h. ap (λ (ps : List ℕ). among ps p) same ∙ h))

pub returns-in-Some-clause-added : goal.returns-in-Some-clause-added
returns-in-Some-clause-added c =
    let had : lookup (nat_eq c.args.key) c.self.inside.by_key.entries ≡ Some c.in-Some.positions.now = sym c.get_mut.ensures.value ∙ ap option_copied_mut c.in-Some.is in
    let written = (c.get_mut.follows.holds c.push.new.self).3 (search rules) in
    let there = places_there (λ (v : Vec ℕ). v.items) c.self.inside.by_key.entries _ c.args.key _ (Some c.in-Some.positions.now) had written.0 in
    ap (λ (ps : List ℕ). among ps c.args.position) (there ∙ c.in_ok-push.ensures.items) ∙ among_added c.in-Some.positions.now.items c.args.position

pub returns-in-Some-clause-kept : goal.returns-in-Some-clause-kept
returns-in-Some-clause-kept c =
    let had : lookup (nat_eq c.args.key) c.self.inside.by_key.entries ≡ Some c.in-Some.positions.now = sym c.get_mut.ensures.value ∙ ap option_copied_mut c.in-Some.is in
    let written = (c.get_mut.follows.holds c.push.new.self).3 (search rules) in
    let more : c.push.new.self.items ≡ c.in-Some.positions.now.items ++ c.args.position ∷ [] = c.in_ok-push.ensures.items in
    rw (← c.self.view_is) (places_stay (λ (v : Vec ℕ). v.items) c.self.inside.by_key.entries _ c.args.key _ (Some c.in-Some.positions.now) had written.0
    (λ p h. ap (λ (ps : List ℕ). among ps p) more ∙ among_stays c.in-Some.positions.now.items c.args.position p h))

pub returns-clause-added : goal.returns-clause-added
returns-clause-added c =
    let had : lookup (nat_eq c.args.key) c.self.inside.by_key.entries ≡ None = sym c.get_mut.ensures.value ∙ ap option_copied_mut c.in_default.is in
    let updates = rw c.get_mut.follows.holds-at-none at c.in_ok-insert.ensures.updates in
    let there = places_there (λ (v : Vec ℕ). v.items) c.self.inside.by_key.entries _ c.args.key _ None had updates.0 in
    ap (λ (ps : List ℕ). among ps c.args.position) (there ∙ c.in_ok-push-2.ensures.items) ∙ among_added c.new-positions.result.items c.args.position

pub returns-clause-kept : goal.returns-clause-kept
returns-clause-kept c =
    let had : lookup (nat_eq c.args.key) c.self.inside.by_key.entries ≡ None = sym c.get_mut.ensures.value ∙ ap option_copied_mut c.in_default.is in
    let updates = rw c.get_mut.follows.holds-at-none at c.in_ok-insert.ensures.updates in
    rw (← c.self.view_is) (places_stay (λ (v : Vec ℕ). v.items) c.self.inside.by_key.entries _ c.args.key _ None had updates.0 (λ p h. absurd (cc)))

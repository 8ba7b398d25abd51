-- The extreme of two lists joined is the further of theirs.
use Rattle.std.proofs.Common.{◌≡◌, ◌∙◌, Bool, refl, ap, sym}
use Rattle.measure_folds.specs.Kept.{ExtremeOf, extreme_of}
use Rattle.measure_folds.proofs.ExtremeFacts.{extreme_joined}
use Rattle.measure_folds.proofs.extremes.Extreme.merge.Goals as goal

pub invariant_of-self : goal.invariant_of-self
invariant_of-self c =
    let kind : c.other.inside.greatest ≡ c.self.inside.greatest =
    ap (λ (e : ExtremeOf). e.is_greatest) c.other.view_is ∙ sym c.requires ∙ sym (ap (λ (e : ExtremeOf). e.is_greatest) c.self.view_is) in
    let other : c.other.inside.found ≡ extreme_of c.self.inside.greatest c.other.inside.of.items =
    c.other.invariant ∙ ap (λ (b : Bool). extreme_of b c.other.inside.of.items) kind in
    rw (c.further-self-inside.ensures, c.joined-self-inside.ensures, extreme_joined c.self.inside.greatest c.self.inside.of.items c.other.inside.of.items, c.self.invariant, other) refl

-- That `are_equal` ensures what it says.
use Rattle.std.proofs.Common.{◌≡◌, ◌∙◌, ℕ, List, [], ◌∷◌, length, bytes_eq, refl, ap, arith}
use Rattle.std.specs.Prelude.{◌&&◌, ◌==◌}
use Rattle.std.specs.List.{list_all, zip}
use Rattle.segment_body.proofs.group.are_equal.Goals as goal

-- lists of one length are equal where they agree place by place
agreed : (xs ys : List ℕ) → length xs ≡ length ys → list_all (λ pair. pair.0 == pair.1) (zip xs ys) ≡ bytes_eq xs ys
agreed [] [] long = refl
agreed [] (y ∷ ys) long = absurd (omega arith)
agreed (x ∷ xs) [] long = absurd (omega arith)
agreed (x ∷ xs) (y ∷ ys) long = ap (λ rest. (x == y) && rest) (agreed xs ys (omega arith))

pub returns-then-own-values : goal.returns-then-own-values
returns-then-own-values c = c.agree.ensures ∙ agreed c.args.own.now c.args.values.now c.if-own-values.true

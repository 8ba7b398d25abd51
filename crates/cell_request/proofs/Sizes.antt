-- A set is larger than the sets in it.
use Rattle.std.proofs.Common.{◌≡◌, ◌<◌, ℕ, zero, suc, List, [], ◌∷◌, ap, arith, get_or, length}
use Rattle.query_meaning.specs.Tree.{Set, set_size, sets_of, sets_size}

pub one_smaller : (sets : List Set) (i : ℕ) (set : Set) → i < length sets → set ≡ get_or sets i set → set_size set < sets_size (sets_of sets)
one_smaller [] i set within is = absurd (omega arith)
one_smaller (first ∷ sets) zero set within is = omega (arith, ap set_size is)
one_smaller (first ∷ sets) (suc i) set within is = omega (arith, one_smaller sets i set (omega arith) is)

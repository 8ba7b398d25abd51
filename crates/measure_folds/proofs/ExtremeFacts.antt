-- The greatest, or the least, of lists side by side.
use Rattle.std.proofs.Common.{◌≡◌, ◌∙◌, ◌++◌, ◌∷◌, [], ℤ, List, Bool, true, false, refl, ap, arith, if◌then◌else◌, Some, Option}
use Rattle.std.specs.Prelude.{fold}
use Rattle.std.proofs.lemmas.Int.{ints}
use Rattle.std.proofs.lemmas.List.Sums.{fold-append}
use Rattle.measure_folds.specs.Kept.{beyond, extreme_of, further_of}

abbrev some : ℤ → Option ℤ
some n = Some n

-- the further of two numbers
abbrev further : Bool → ℤ → ℤ → ℤ
further greatest m n = if beyond greatest n m then n else m

further-assoc : (greatest : Bool) (a b c : ℤ) → further greatest (further greatest a b) c ≡ further greatest a (further greatest b c)
further-assoc true a b c = grind (arith, ints)
further-assoc false a b c = grind (arith, ints)

further-from : (greatest : Bool) (m n : ℤ) (ns : List ℤ) → fold (further greatest) (further greatest m n) ns ≡ further greatest m (fold (further greatest) n ns)
further-from greatest m n [] = refl
further-from greatest m n (k ∷ ks) = ap (λ a. fold (further greatest) a ks) (further-assoc greatest m n k) ∙ further-from greatest m (further greatest n k) ks

pub extreme_joined : (greatest : Bool) (ns ms : List ℤ) → extreme_of greatest (ns ++ ms) ≡ further_of greatest (extreme_of greatest ns) (extreme_of greatest ms)
extreme_joined greatest [] ms = refl
extreme_joined greatest (n ∷ ns) [] = ap some (fold-append (further greatest) n ns [])
extreme_joined greatest (n ∷ ns) (m ∷ ms) = ap some (fold-append (further greatest) n ns (m ∷ ms) ∙ further-from greatest (fold (further greatest) n ns) m ms)

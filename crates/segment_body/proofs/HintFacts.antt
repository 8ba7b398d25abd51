-- Where the group of a key stands, as no two keys are equal.
use Rattle.std.proofs.Common.{◌≡◌, ◌∙◌, ℕ, zero, suc, false, List, [], ◌∷◌, Some, map, take, get_or, bytes_eq, refl, arith}
use Rattle.std.specs.Prelude.{position, slice_get}
use Rattle.std.specs.List.{AllByRecursion, IsDistinct, list_any}
use Rattle.std.proofs.lemmas.Cmp.{nat_list_eq_equiv}
use Rattle.std.proofs.lemmas.Option.{slice_get_within}
use Rattle.std.proofs.lemmas.List.{length-map}
use Rattle.measure_folds.specs.Tallied.{Tallied}
use Rattle.segment_body.specs.Groups.{Group, group, groups_by}
use Rattle.segment_body.proofs.MapFacts.{first_position}

-- what differs from all keys differs from that at a place
differs_at : (other : List ℕ) (es : List (List ℕ × Tallied)) (i : ℕ) (k : List ℕ) (t : Tallied) → AllByRecursion (λ key. bytes_eq other key ≡ false) (map (λ e. e.0) es) → slice_get es i ≡ Some (k, t) → bytes_eq other k ≡ false
differs_at other [] i k t all at = absurd (cc)
differs_at other (e ∷ es) zero k t all at = let same : e.0 ≡ k = cc in rw (← same) all.0
differs_at other (e ∷ es) (suc i) k t all at = differs_at other es i k t all.1 at

-- no group before one has its values
none_before : (es : List (List ℕ × Tallied)) (i : ℕ) (k : List ℕ) (t : Tallied) → IsDistinct bytes_eq (map (λ e. e.0) es) → slice_get es i ≡ Some (k, t) → list_any (λ (g : Group). bytes_eq k g.values) (take i (groups_by (λ key. key) es)) ≡ false
unfolding IsDistinct
none_before [] i k t distinct at = absurd (cc)
none_before (e ∷ es) zero k t distinct at = refl
none_before (e ∷ es) (suc i) k t distinct at =
    let other : bytes_eq k e.0 ≡ false = nat_list_eq_equiv.symm k e.0 ∙ differs_at e.0 es i k t distinct.0 at in
    rw other (none_before es i k t distinct.1 at)

group_at : (es : List (List ℕ × Tallied)) (i : ℕ) (k : List ℕ) (t : Tallied) → slice_get es i ≡ Some (k, t) → group k t ≡ get_or (groups_by (λ key. key) es) i (group k t)
group_at [] i k t at = absurd (cc)
group_at (e ∷ es) zero k t at = let same : e ≡ (k, t) = cc in rw same refl
group_at (e ∷ es) (suc i) k t at = group_at es i k t at

pub own_position : (es : List (List ℕ × Tallied)) (i : ℕ) (k : List ℕ) (t : Tallied) → IsDistinct bytes_eq (map (λ e. e.0) es) → slice_get es i ≡ Some (k, t) → position (λ (g : Group). bytes_eq k g.values) (groups_by (λ key. key) es) ≡ Some i
own_position es i k t distinct at =
    let within = slice_get_within es i (k, t) at in
    let many = length-map es (λ (e : List ℕ × Tallied). group e.0 e.1) in
    first_position (λ (g : Group). bytes_eq k g.values) (groups_by (λ key. key) es) i (group k t) (omega (arith, within, many)) (group_at es i k t at) (none_before es i k t distinct at) (nat_list_eq_equiv.refl k)

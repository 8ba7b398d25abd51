-- The paths of a depth in hierarchical order: that they are among those by first appearance, each but once.
use Rattle.std.proofs.Common.{◌≡◌, refl, sym, ◌∙◌, ap, subst, ℕ, zero, suc, ◌≤◌, List, [], ◌∷◌, length, take, Bool, true, false, cond, filter, map, flat_map, bytes_eq, arith}
use Rattle.std.specs.List.{AllByRecursion as Each, list_any}
use Rattle.std.proofs.lemmas.List.{length-map}
use Rattle.member_trees.specs.Nodes.{last_value}
use Rattle.member_trees.specs.Numbered.{fronts, number_in, members_below, children_of}
use Rattle.olap_meaning.specs.Catalog.{below, at_depth}
use Rattle.olap_meaning.proofs.Lists.{appearances_le}
use Rattle.member_trees.specs.Trees.{AreWhole}
use Rattle.member_trees.proofs.Lists.{Each-all, Each-weaker, Each-filter, Each-flat_map, flat_map_same, filter_all, filter_none, joined_once}
use Rattle.member_trees.proofs.Fronts.{Distinct, Each-among, fronts_distinct, front_lengths, below_is, below_none, children_are}
use Rattle.std.proofs.lemmas.Slice.Eq.{bytes_eq-Decides}

-- a path of a depth that is among those by first appearance
pub record IsFront (leaves : List (List ℕ)) (d : ℕ) (p : List ℕ) : Type 0 where
  pub long : length p ≡ d
  pub known : list_any (bytes_eq p) (fronts leaves d) ≡ true

-- the paths below one of a depth
pub below_front : (n d : ℕ) (leaves : List (List ℕ)) (p : List ℕ) → AreWhole n leaves → suc d ≤ n → length p ≡ d
    → below leaves p ≡ filter (λ q. bytes_eq (take d q) p) (fronts leaves (suc d))
below_front n d leaves p whole h long =
    let P : ℕ → Type 0 = λ k. suc k ≤ n → below leaves p ≡ filter (λ q. bytes_eq (take k q) p) (fronts leaves (suc k)) in
    let here : P (length p) = λ le. below_is n leaves p whole le in
    subst P long here h

fronts_are : (n d : ℕ) (leaves : List (List ℕ)) → AreWhole n leaves → d ≤ n → Each (IsFront leaves d) (fronts leaves d)
fronts_are n d leaves whole h = both (fronts leaves d) (front_lengths n d leaves whole h) (Each-among (fronts leaves d))
  where
    both : (xs : List (List ℕ)) → Each (λ q. length q ≡ d) xs → Each (λ q. list_any (bytes_eq q) (fronts leaves d) ≡ true) xs → Each (IsFront leaves d) xs
    both [] e f = tt
    both (x ∷ xs) e f = (record { long = e.0; known = f.0 }, both xs e.1 f.1)

pub order_known : (n d : ℕ) (leaves : List (List ℕ)) → AreWhole n leaves → d ≤ n → Each (IsFront leaves d) (at_depth leaves d)
order_known n zero leaves whole h = (record { long = refl; known = refl }, tt)
order_known n (suc d) leaves whole h =
    Each-flat_map (IsFront leaves (suc d)) (below leaves) (at_depth leaves d)
    (Each-weaker (IsFront leaves d) (λ p. Each (IsFront leaves (suc d)) (below leaves p)) next (at_depth leaves d) (order_known n d leaves whole (omega (arith, h))))
  where
    next : (p : List ℕ) → IsFront leaves d p → Each (IsFront leaves (suc d)) (below leaves p)
    next p front =
        let P : List (List ℕ) → Type 0 = Each (IsFront leaves (suc d)) in
        subst P (sym (below_front n d leaves p whole h front.long)) (Each-filter (IsFront leaves (suc d)) (λ q. bytes_eq (take d q) p) (fronts leaves (suc d)) (fronts_are n (suc d) leaves whole h))

-- the paths of a depth, as joined from those by first appearance
order_joined : (n d : ℕ) (leaves : List (List ℕ)) → AreWhole n leaves → suc d ≤ n
    → at_depth leaves (suc d) ≡ flat_map (λ p. filter (λ q. bytes_eq (take d q) p) (fronts leaves (suc d))) (at_depth leaves d)
order_joined n d leaves whole h =
    flat_map_same (below leaves) (λ p. filter (λ q. bytes_eq (take d q) p) (fronts leaves (suc d))) (at_depth leaves d)
    (Each-weaker (IsFront leaves d) (λ p. below leaves p ≡ filter (λ q. bytes_eq (take d q) p) (fronts leaves (suc d))) (λ p front. below_front n d leaves p whole h front.long) (at_depth leaves d) (order_known n d leaves whole (omega (arith, h))))

-- among different paths there is one at most that is equal to another
one_equal : (q : List ℕ) (xs : List (List ℕ)) → Distinct xs → length (filter (bytes_eq q) xs) ≤ 1
one_equal q [] h = omega arith
one_equal q (x ∷ xs) h = by (bytes_eq q x) refl (one_equal q xs h.1)
  where
    others : bytes_eq q x ≡ true → Each (λ y. bytes_eq q y ≡ false) xs
    others e = Each-weaker (λ y. bytes_eq x y ≡ false) (λ y. bytes_eq q y ≡ false) (λ y f. ap (λ z. bytes_eq z y) ((bytes_eq-Decides q x).0 e) ∙ f) xs h.0

    by : (b : Bool) → bytes_eq q x ≡ b → length (filter (bytes_eq q) xs) ≤ 1 → length (cond b (x ∷ filter (bytes_eq q) xs) (filter (bytes_eq q) xs)) ≤ 1
    by true e l = let none : length (filter (bytes_eq q) xs) ≡ 0 = ap length (filter_none (bytes_eq q) xs (others e)) in omega (arith, none)
    by false e l = l

-- no path of a depth comes twice
pub order_once : (n d : ℕ) (leaves : List (List ℕ)) → AreWhole n leaves → d ≤ n → (q : List ℕ) → length (filter (bytes_eq q) (at_depth leaves d)) ≤ 1
order_once n zero leaves whole h q = by (bytes_eq q [])
  where
    by : (b : Bool) → length (cond b (let one : List (List ℕ) = [] ∷ [] in one) []) ≤ 1
    by true = omega arith
    by false = omega arith
order_once n (suc d) leaves whole h q =
    let joined : length (filter (bytes_eq q) (at_depth leaves (suc d))) ≡ length (filter (bytes_eq q) (flat_map (λ p. filter (λ r. bytes_eq (take d r) p) (fronts leaves (suc d))) (at_depth leaves d))) = ap (λ xs. length (filter (bytes_eq q) xs)) (order_joined n d leaves whole h) in
    let few = joined_once (λ p r. bytes_eq (take d r) p) (bytes_eq q) (at_depth leaves d) (fronts leaves (suc d)) (λ r. order_once n d leaves whole (omega (arith, h)) (take d r)) in
    let one = one_equal q (fronts leaves (suc d)) (fronts_distinct leaves (suc d)) in
    omega (arith, joined, few, one)

all_kept : (xs : List (List ℕ)) → filter (λ _. true) xs ≡ xs
all_kept xs = filter_all (λ _. true) xs (Each-all (λ _. true ≡ true) (λ _. refl) xs)

-- there are no more paths of a depth than leaves
pub order_few : (n d : ℕ) (leaves : List (List ℕ)) → AreWhole n leaves → suc d ≤ n → length (at_depth leaves (suc d)) ≤ length leaves
order_few n d leaves whole h =
    let joined : length (at_depth leaves (suc d)) ≡ length (filter (λ _. true) (flat_map (λ p. filter (λ r. bytes_eq (take d r) p) (fronts leaves (suc d))) (at_depth leaves d))) = ap length (order_joined n d leaves whole h) ∙ ap length (sym (all_kept (flat_map (λ p. filter (λ r. bytes_eq (take d r) p) (fronts leaves (suc d))) (at_depth leaves d)))) in
    let few = joined_once (λ p r. bytes_eq (take d r) p) (λ _. true) (at_depth leaves d) (fronts leaves (suc d)) (λ r. order_once n d leaves whole (omega (arith, h)) (take d r)) in
    let all : length (filter (λ _. true) (fronts leaves (suc d))) ≡ length (fronts leaves (suc d)) = ap length (all_kept (fronts leaves (suc d))) in
    let cuts = appearances_le (map (take (suc d)) leaves) in
    let leaves' : length (map (take (suc d)) leaves) ≡ length leaves = length-map leaves (take (suc d)) in
    omega (arith, joined, few, all, cuts, leaves')

-- nor more than a limit of the leaves
pub order_within : (n d limit : ℕ) (leaves : List (List ℕ)) → AreWhole n leaves → d ≤ n → length leaves ≤ limit → 1 ≤ limit → length (at_depth leaves d) ≤ limit
order_within n zero limit leaves whole h few one = omega (arith, one)
order_within n (suc d) limit leaves whole h few one = let l = order_few n d leaves whole h in omega (arith, l, few)

-- no path is below the last level
pub order_end : (n : ℕ) (leaves : List (List ℕ)) → AreWhole n leaves → at_depth leaves (suc n) ≡ []
order_end n leaves whole =
    flat_map_same (below leaves) (λ _. []) (at_depth leaves n)
    (Each-weaker (IsFront leaves n) (λ p. below leaves p ≡ []) (λ p front. below_none n leaves p whole front.long) (at_depth leaves n) (order_known n n leaves whole (omega arith)))
    ∙ nothing (at_depth leaves n)
  where
    nothing : (xs : List (List ℕ)) → flat_map (λ (x : List ℕ). let none : List (List ℕ) = [] in none) xs ≡ []
    nothing [] = refl
    nothing (x ∷ xs) = nothing xs

-- the children of a path of a depth, by their numbers and last values
pub children_below : (n d : ℕ) (leaves : List (List ℕ)) (p : List ℕ) → AreWhole n leaves → suc d ≤ n → IsFront leaves d p
    → children_of (members_below leaves d) (number_in (fronts leaves d) p) ≡ map (λ q. (number_in (fronts leaves (suc d)) q, last_value q)) (below leaves p)
children_below n d leaves p whole h front =
    children_are leaves d p front.known ∙ ap (map (λ q. (number_in (fronts leaves (suc d)) q, last_value q))) (sym (below_front n d leaves p whole h front.long))

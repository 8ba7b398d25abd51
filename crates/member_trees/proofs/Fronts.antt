-- Paths by first appearance: that they differ, their numbers, and those that go on from one.
use Rattle.std.proofs.Common.{◌≡◌, refl, sym, ◌∙◌, ap, ℕ, zero, suc, ◌+◌, ◌==◌, ◌≤◌, List, [], ◌∷◌, length, take, Bool, true, false, cond, not, ◌||◌, filter, map, bytes_eq, nat_eq, inl, inr, arith}
use Rattle.std.proofs.lemmas.Bool.{eq-eqb, not-false, not-true}
use Rattle.std.specs.List.{AllByRecursion as Each, Contains, enumerate_from, list_any, starts_with}
use Rattle.std.proofs.lemmas.List.{length-take-le, take-take, take_all}
use Rattle.std.proofs.lemmas.List.Elements.{All-contains_itself, All-weaker, recursion_from_All, filter_agree}
use Rattle.std.proofs.lemmas.Bool.Decides.{eqb_tells}
use Rattle.std.proofs.lemmas.Cmp.{nat_list_eq_equiv}
use Rattle.std.proofs.lemmas.Map.Views.{list_any-from_Contains}
use Rattle.std.proofs.lemmas.Slice.Eq.{bytes_eq-Decides}
use Rattle.std.proofs.lemmas.Simd.{map-map}
use Rattle.olap_meaning.proofs.Appearances.{any-same}
use Rattle.olap_meaning.specs.Catalog.{first_appearances}
use Rattle.member_trees.specs.Nodes.{last_value}
use Rattle.member_trees.specs.Numbered.{fronts, number_in, members_below, children_of}
use Rattle.olap_meaning.specs.Catalog.{below}
use Rattle.olap_meaning.proofs.Lists.{filter-map, filter_le, filter_turned, text_self, text_turned}
use Rattle.member_trees.specs.Trees.{AreWhole}
use Rattle.member_trees.proofs.Lists.{Each-all, Each-weaker, Each-filter, Each-filter_passes, Each-map, map_same, filter_all, filter_none, filter_within, enumerate-map}

-- each path but once
abbrev pub Distinct : List (List ℕ) → Type 0
Distinct [] = Unit {0}
Distinct (x ∷ xs) = Each (λ y. bytes_eq x y ≡ false) xs × Distinct xs

Distinct-filter : (p : List ℕ → Bool) (xs : List (List ℕ)) → Distinct xs → Distinct (filter p xs)
Distinct-filter p [] h = tt
Distinct-filter p (x ∷ xs) h = by (p x) (Distinct-filter p xs h.1)
  where
    by : (b : Bool) → Distinct (filter p xs) → Distinct (cond b (x ∷ filter p xs) (filter p xs))
    by true rest = (Each-filter (λ y. bytes_eq x y ≡ false) p xs h.0, rest)
    by false rest = rest

pub appearances_distinct : (xs : List (List ℕ)) → Distinct (first_appearances xs)
appearances_distinct [] = tt
appearances_distinct (x ∷ xs) =
    (Each-weaker (λ y. not (bytes_eq x y) ≡ true) (λ y. bytes_eq x y ≡ false) (λ y e. not-true (bytes_eq x y) e) (filter others (first_appearances xs)) (Each-filter_passes others (first_appearances xs)), Distinct-filter others (first_appearances xs) (appearances_distinct xs))
  where
    others : List ℕ → Bool
    others other = not (bytes_eq x other)

pub Each-appearances : (P : List ℕ → Type 0) (xs : List (List ℕ)) → Each P xs → Each P (first_appearances xs)
Each-appearances P [] e = tt
Each-appearances P (x ∷ xs) e = (e.0, Each-filter P (λ other. not (bytes_eq x other)) (first_appearances xs) (Each-appearances P xs e.1))

-- the first appearances of what passes a test are what passes among the first appearances
pub appearances-filter : (p : List ℕ → Bool) (xs : List (List ℕ)) → first_appearances (filter p xs) ≡ filter p (first_appearances xs)
appearances-filter p [] = refl
appearances-filter p (x ∷ xs) = by (p x) refl (appearances-filter p xs)
  where
    others : List ℕ → Bool
    others other = not (bytes_eq x other)

    fails : p x ≡ false → (y : List ℕ) → others y ≡ false → p y ≡ false
    fails e y equal = ap p (sym ((bytes_eq-Decides x y).0 (not-false (bytes_eq x y) equal))) ∙ e

    by : (b : Bool) → p x ≡ b → first_appearances (filter p xs) ≡ filter p (first_appearances xs)
        → first_appearances (cond b (x ∷ filter p xs) (filter p xs)) ≡ cond b (x ∷ filter p (filter others (first_appearances xs))) (filter p (filter others (first_appearances xs)))
    by true e h = ap (λ ys. x ∷ filter others ys) h ∙ ap (λ ys. x ∷ ys) (filter_turned others p (first_appearances xs))
    by false e h = h ∙ sym (filter_within p others (first_appearances xs) (fails e))

-- each path is among them all
pub Each-among : (xs : List (List ℕ)) → Each (λ x. list_any (bytes_eq x) xs ≡ true) xs
Each-among xs =
    recursion_from_All (λ x. list_any (bytes_eq x) xs ≡ true) xs
    (All-weaker (Contains xs) (λ x. list_any (bytes_eq x) xs ≡ true) (λ x c. list_any-from_Contains nat_list_eq_equiv x xs c) xs (All-contains_itself xs))

number_later : (x q : List ℕ) (xs : List (List ℕ)) → bytes_eq x q ≡ false → number_in (x ∷ xs) q ≡ 1 + number_in xs q
number_later x q xs e = ap (λ b. cond (not b) (1 + number_in xs q) 0) (text_turned q x ∙ e)

number_first : (x : List ℕ) (xs : List (List ℕ)) → number_in (x ∷ xs) x ≡ 0
number_first x xs = ap (λ b. cond (not b) (1 + number_in xs x) 0) (text_self x)

numbered_from : (a : ℕ) (xs : List (List ℕ)) → Distinct xs → enumerate_from a xs ≡ map (λ q. (a + number_in xs q, q)) xs
numbered_from a [] h = refl
numbered_from a (x ∷ xs) h =
    let here : a ≡ a + number_in (x ∷ xs) x = (let z = number_first x xs in omega (arith, z)) in
    ap (λ ys. (a, x) ∷ ys) (numbered_from (a + 1) xs h.1)
    ∙ ap (λ n. (n, x) ∷ map (λ q. ((a + 1) + number_in xs q, q)) xs) here
    ∙ ap (λ ys. (a + number_in (x ∷ xs) x, x) ∷ ys) (map_same (λ q. ((a + 1) + number_in xs q, q)) (λ q. (a + number_in (x ∷ xs) q, q)) xs (Each-weaker (λ q. bytes_eq x q ≡ false) (λ q. same_pair q) later xs h.0))
  where
    same_pair : List ℕ → Type 0
    same_pair q = let one : ℕ × List ℕ = ((a + 1) + number_in xs q, q) in one ≡ (a + number_in (x ∷ xs) q, q)

    later : (q : List ℕ) → bytes_eq x q ≡ false → same_pair q
    later q e =
        let n : number_in (x ∷ xs) q ≡ 1 + number_in xs q = number_later x q xs e in
        let m : (a + 1) + number_in xs q ≡ a + number_in (x ∷ xs) q = omega (arith, n) in
        ap (λ k. (k, q)) m

-- the place of each among different paths is its number
pub numbered : (xs : List (List ℕ)) → Distinct xs → enumerate_from 0 xs ≡ map (λ q. (number_in xs q, q)) xs
numbered xs h =
    numbered_from 0 xs h ∙ map_same (λ q. (0 + number_in xs q, q)) (λ q. (number_in xs q, q)) xs (Each-all (λ q. let one : ℕ × List ℕ = (0 + number_in xs q, q) in one ≡ (number_in xs q, q)) (λ q. let e : 0 + number_in xs q ≡ number_in xs q = omega arith in ap (λ k. (k, q)) e) xs)

nat_eq_false : (a b : ℕ) → (a ≡ b → ⊥) → nat_eq a b ≡ false
nat_eq_false a b e = elim (eqb_tells a b) [ inl t ↦ absurd (e t.1) | inr t ↦ t.0 ]

nat_eq_more : (a b : ℕ) → nat_eq (1 + a) (1 + b) ≡ nat_eq a b
nat_eq_more a b = elim (eqb_tells a b) [
  | inl t ↦ eq-eqb (1 + a) (1 + b) (ap (λ n. 1 + n) t.1) ∙ sym t.0
  | inr t ↦ nat_eq_false (1 + a) (1 + b) (λ e. t.1 (omega (arith, e))) ∙ sym t.0
]

-- a path has the number of one that is among them only where it is that one
pub same_number : (xs : List (List ℕ)) (x p : List ℕ) → list_any (bytes_eq p) xs ≡ true → nat_eq (number_in xs x) (number_in xs p) ≡ bytes_eq x p
same_number [] x p found = absurd (cc (found))
same_number (y ∷ ys) x p found = by (bytes_eq x y) (bytes_eq p y) refl refl found (same_number ys x p)
  where
    n : ℕ
    n = number_in ys x

    m : ℕ
    m = number_in ys p

    is : (a b : List ℕ) → bytes_eq a b ≡ true → a ≡ b
    is a b e = (bytes_eq-Decides a b).0 e

    by : (b c : Bool) → bytes_eq x y ≡ b → bytes_eq p y ≡ c → (c || list_any (bytes_eq p) ys) ≡ true → (list_any (bytes_eq p) ys ≡ true → nat_eq n m ≡ bytes_eq x p)
        → nat_eq (cond (not b) (1 + n) 0) (cond (not c) (1 + m) 0) ≡ bytes_eq x p
    by true true e f found h = eq-eqb 0 0 refl ∙ sym ((bytes_eq-Decides x p).1 (is x y e ∙ sym (is p y f)))
    by true false e f found h = nat_eq_false 0 (1 + m) (λ z. omega (arith, z)) ∙ sym (ap (λ z. bytes_eq z p) (is x y e) ∙ text_turned y p ∙ f)
    by false true e f found h = nat_eq_false (1 + n) 0 (λ z. omega (arith, z)) ∙ sym (ap (λ z. bytes_eq x z) (is p y f) ∙ e)
    by false false e f found h = nat_eq_more n m ∙ h found

pub fronts_distinct : (leaves : List (List ℕ)) (d : ℕ) → Distinct (fronts leaves d)
fronts_distinct leaves zero = (tt, tt)
fronts_distinct leaves (suc d) = appearances_distinct (map (take (suc d)) leaves)

-- by recursion, that each leaf has a value in each level
pub Each-whole : (n : ℕ) (leaves : List (List ℕ)) → AreWhole n leaves → Each (λ leaf. length leaf ≡ n) leaves
Each-whole n leaves whole = recursion_from_All (λ leaf. length leaf ≡ n) leaves whole

pub cut_length : (n d : ℕ) (leaf : List ℕ) → d ≤ n → length leaf ≡ n → length (take d leaf) ≡ d
cut_length n d leaf h e = length-take-le d leaf (omega (arith, h, e))

pub front_lengths : (n d : ℕ) (leaves : List (List ℕ)) → AreWhole n leaves → d ≤ n → Each (λ q. length q ≡ d) (fronts leaves d)
front_lengths n zero leaves whole h = (refl, tt)
front_lengths n (suc d) leaves whole h =
    Each-appearances (λ q. length q ≡ suc d) (map (take (suc d)) leaves)
    (Each-map (λ q. length q ≡ suc d) (take (suc d)) leaves
    (Each-weaker (λ leaf. length leaf ≡ n) (λ leaf. length (take (suc d) leaf) ≡ suc d) (λ leaf e. cut_length n (suc d) leaf h e) leaves (Each-whole n leaves whole)))

-- the paths one level below a path are the different paths of that depth that go on from it
pub below_is : (n : ℕ) (leaves : List (List ℕ)) (p : List ℕ) → AreWhole n leaves → suc (length p) ≤ n
    → below leaves p ≡ filter (λ q. bytes_eq (take (length p) q) p) (fronts leaves (suc (length p)))
below_is n leaves p whole h =
    ap first_appearances (filter_all long (map cut (filter goes_on leaves)) longs ∙ sym (filter-map begins cut leaves ∙ ap (map cut) (filter_agree (λ leaf. begins (cut leaf)) goes_on agree leaves)))
    ∙ appearances-filter begins (map cut leaves)
  where
    depth : ℕ
    depth = suc (length p)

    cut : List ℕ → List ℕ
    cut = take depth

    long : List ℕ → Bool
    long q = length q == depth

    goes_on : List ℕ → Bool
    goes_on leaf = starts_with nat_eq leaf p

    begins : List ℕ → Bool
    begins q = bytes_eq (take (length p) q) p

    agree : (leaf : List ℕ) → begins (cut leaf) ≡ goes_on leaf
    agree leaf =
        let le : length p ≤ depth = omega arith in
        ap (λ q. bytes_eq q p) (take-take (length p) depth leaf le) ∙ text_turned (take (length p) leaf) p

    longs : Each (λ q. long q ≡ true) (map cut (filter goes_on leaves))
    longs =
        Each-map (λ q. long q ≡ true) cut (filter goes_on leaves)
        (Each-filter (λ leaf. long (cut leaf) ≡ true) goes_on leaves
        (Each-weaker (λ leaf. length leaf ≡ n) (λ leaf. long (cut leaf) ≡ true) (λ leaf e. eq-eqb (length (cut leaf)) depth (cut_length n depth leaf h e)) leaves (Each-whole n leaves whole)))

-- no path is below a leaf
pub below_none : (n : ℕ) (leaves : List (List ℕ)) (p : List ℕ) → AreWhole n leaves → length p ≡ n → below leaves p ≡ []
below_none n leaves p whole e =
    ap first_appearances (filter_none (λ q. length q == suc (length p)) (map (take (suc (length p))) (filter (λ leaf. starts_with nat_eq leaf p) leaves))
    (Each-map (λ q. (length q == suc (length p)) ≡ false) (take (suc (length p))) (filter (λ leaf. starts_with nat_eq leaf p) leaves)
    (Each-filter (λ leaf. (length (take (suc (length p)) leaf) == suc (length p)) ≡ false) (λ leaf. starts_with nat_eq leaf p) leaves
    (Each-weaker (λ leaf. length leaf ≡ n) (λ leaf. (length (take (suc (length p)) leaf) == suc (length p)) ≡ false) short leaves (Each-whole n leaves whole)))))
  where
    short : (leaf : List ℕ) → length leaf ≡ n → (length (take (suc (length p)) leaf) == suc (length p)) ≡ false
    short leaf l = nat_eq_false (length (take (suc (length p)) leaf)) (suc (length p)) (λ z. let t : length (take (suc (length p)) leaf) ≡ length leaf = ap length (take_whole leaf l) in omega (arith, z, t, l, e))
      where
        take_whole : (xs : List ℕ) → length xs ≡ n → take (suc (length p)) xs ≡ xs
        take_whole xs m = take_all (suc (length p)) xs (omega (arith, m, e))

-- the children of a path that is among those of its depth: those that go on from it
pub children_are : (leaves : List (List ℕ)) (d : ℕ) (p : List ℕ) → list_any (bytes_eq p) (fronts leaves d) ≡ true
    → children_of (members_below leaves d) (number_in (fronts leaves d) p)
    ≡ map (λ q. (number_in (fronts leaves (suc d)) q, last_value q)) (filter (λ q. bytes_eq (take d q) p) (fronts leaves (suc d)))
children_are leaves d p found =
    ap (λ es. map shown (filter under es)) (enumerate-map member 0 next ∙ ap (map (λ e. (e.0, member e.1))) (numbered next (fronts_distinct leaves (suc d))) ∙ map-map (λ e. (e.0, member e.1)) (λ q. (number_in next q, q)) next)
    ∙ ap (map shown) (filter-map under (λ q. (number_in next q, member q)) next)
    ∙ map-map shown (λ q. (number_in next q, member q)) (filter (λ q. under (number_in next q, member q)) next)
    ∙ ap (map (λ q. (number_in next q, last_value q))) (filter_agree (λ q. under (number_in next q, member q)) (λ q. bytes_eq (take d q) p) (λ q. same_number (fronts leaves d) (take d q) p found) next)
  where
    next : List (List ℕ)
    next = fronts leaves (suc d)

    member : List ℕ → ℕ × ℕ
    member q = (number_in (fronts leaves d) (take d q), last_value q)

    shown : ℕ × (ℕ × ℕ) → ℕ × ℕ
    shown e = (e.0, e.1.1)

    under : ℕ × (ℕ × ℕ) → Bool
    under e = e.1.0 == number_in (fronts leaves d) p

-- the front of each path is among those of the depth above
pub fronts_above : (leaves : List (List ℕ)) (d : ℕ) → Each (λ q. list_any (bytes_eq (take d q)) (fronts leaves d) ≡ true) (fronts leaves (suc d))
fronts_above leaves zero = Each-all (λ q. list_any (bytes_eq (take 0 q)) ([] ∷ []) ≡ true) (λ q. refl) (fronts leaves 1)
fronts_above leaves (suc d) =
    Each-appearances P (map (take (suc (suc d))) leaves)
    (Each-map P (take (suc (suc d))) leaves
    (Each-weaker (λ leaf. list_any (bytes_eq (take (suc d) leaf)) cuts ≡ true) (λ leaf. P (take (suc (suc d)) leaf)) among leaves
    (Each-unmap (λ q. list_any (bytes_eq q) cuts ≡ true) leaves (Each-among cuts))))
  where
    cuts : List (List ℕ)
    cuts = map (take (suc d)) leaves

    P : List ℕ → Type 0
    P q = list_any (bytes_eq (take (suc d) q)) (first_appearances cuts) ≡ true

    Each-unmap : (Q : List ℕ → Type 0) (xs : List (List ℕ)) → Each Q (map (take (suc d)) xs) → Each (λ x. Q (take (suc d) x)) xs
    Each-unmap Q [] e = tt
    Each-unmap Q (x ∷ xs) e = (e.0, Each-unmap Q xs e.1)

    among : (leaf : List ℕ) → list_any (bytes_eq (take (suc d) leaf)) cuts ≡ true → P (take (suc (suc d)) leaf)
    among leaf e =
        let le : suc d ≤ suc (suc d) = omega arith in
        ap (λ q. list_any (bytes_eq q) (first_appearances cuts)) (take-take (suc d) (suc (suc d)) leaf le) ∙ any-same (bytes_eq (take (suc d) leaf)) cuts ∙ e

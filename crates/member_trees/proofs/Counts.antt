-- A depth has at most as many paths as there are leaves: a leaf begins with at most one path of each depth.
use Rattle.std.proofs.Common.{◌≡◌, refl, sym, ◌∙◌, ap, ℕ, zero, suc, ◌+◌, ◌≤◌, List, [], ◌∷◌, ◌++◌, length, take, map, filter, Bool, true, false, cond, not, All, bytes_eq, flat_map, arith, length-append}
use Rattle.std.proofs.lemmas.Bool.{true≢false}
use Rattle.std.proofs.lemmas.List.{take_at, length-map, take-take}
use Rattle.std.proofs.lemmas.List.Elements.{All-head, All-tail, All-weaker, filter-append}
use Rattle.std.proofs.lemmas.Slice.Eq.{bytes_eq-Decides}
use Rattle.olap_meaning.specs.Catalog.{first_appearances}
use Rattle.olap_meaning.specs.Catalog.{below, at_depth}
use Rattle.olap_meaning.proofs.Lists.{appearances_le, filter_le}
use Rattle.member_trees.specs.Nodes.{last_value}
use Rattle.member_trees.proofs.Below.{begins, front_of, begins_from, shape, cut, is_next, long_below}

-- how many of some paths a leaf begins with
abbrev pub fronts : List ℕ → List (List ℕ) → ℕ
fronts leaf paths = length (filter (begins leaf) paths)

-- and over some leaves
abbrev pub all_fronts : List (List ℕ) → List (List ℕ) → ℕ
all_fronts [] paths = 0
all_fronts (leaf ∷ leaves) paths = fronts leaf paths + all_fronts leaves paths

-- a test that is met where another is meets at most as many
filter-fewer : {A : Type 0} (p q : A → Bool) (xs : List A) → All (λ x. p x ≡ true → q x ≡ true) xs → length (filter p xs) ≤ length (filter q xs)
filter-fewer p q [] h = omega arith
filter-fewer {A} p q (x ∷ xs) h = by (p x) (q x) (All-head (λ y. p y ≡ true → q y ≡ true) x xs h) (filter-fewer p q xs (All-tail (λ y. p y ≡ true → q y ≡ true) x xs h))
  where
    by : (a b : Bool) → (a ≡ true → b ≡ true) → length (filter p xs) ≤ length (filter q xs) → length (cond a (x ∷ filter p xs) (filter p xs)) ≤ length (cond b (x ∷ filter q xs) (filter q xs))
    by true true k le = omega arith
    by true false k le = absurd (true≢false (sym (k refl)))
    by false true k le = omega arith
    by false false k le = le

-- a filter of a filter keeps no more
filter-of : {A : Type 0} (p q : A → Bool) (xs : List A) → length (filter p (filter q xs)) ≤ length (filter p xs)
filter-of p q [] = omega arith
filter-of {A} p q (x ∷ xs) = by (q x) (filter-of p q xs)
  where
    by : (b : Bool) → length (filter p (filter q xs)) ≤ length (filter p xs) → length (filter p (cond b (x ∷ filter q xs) (filter q xs))) ≤ length (cond (p x) (x ∷ filter p xs) (filter p xs))
    by true le = by-p (p x)
      where
        by-p : (c : Bool) → length (cond c (x ∷ filter p (filter q xs)) (filter p (filter q xs))) ≤ length (cond c (x ∷ filter p xs) (filter p xs))
        by-p true = omega arith
        by-p false = le
    by false le = by-p (p x)
      where
        by-p : (c : Bool) → length (filter p (filter q xs)) ≤ length (cond c (x ∷ filter p xs) (filter p xs))
        by-p true = omega arith
        by-p false = le

-- what one filter leaves out, another does not find
filter-none : {A : Type 0} (p q : A → Bool) → ((x : A) → p x ≡ true → q x ≡ false) → (xs : List A) → length (filter p (filter q xs)) ≡ 0
filter-none p q apart [] = refl
filter-none {A} p q apart (x ∷ xs) = by (q x) (p x) refl refl (filter-none p q apart xs)
  where
    by : (b a : Bool) → q x ≡ b → p x ≡ a → length (filter p (filter q xs)) ≡ 0 → length (filter p (cond b (x ∷ filter q xs) (filter q xs))) ≡ 0
    by true true e e' none = absurd (true≢false (sym e ∙ apart x e'))
    by true false e e' none = ap (λ c. length (cond c (x ∷ filter p (filter q xs)) (filter p (filter q xs)))) e' ∙ none
    by false a e e' none = none

-- each text stands once among the first appearances
once : (text : List ℕ) (xs : List (List ℕ)) → length (filter (bytes_eq text) (first_appearances xs)) ≤ 1
once text [] = omega arith
once text (x ∷ xs) = by (once text xs) (bytes_eq text x) refl
  where
    others : List ℕ → Bool
    others other = not (bytes_eq x other)

    by : length (filter (bytes_eq text) (first_appearances xs)) ≤ 1 → (b : Bool) → bytes_eq text x ≡ b → length (cond b (x ∷ filter (bytes_eq text) (filter others (first_appearances xs))) (filter (bytes_eq text) (filter others (first_appearances xs)))) ≤ 1
    by le true e =
        let same : text ≡ x = (bytes_eq-Decides text x).0 e in
        let none : length (filter (bytes_eq text) (filter others (first_appearances xs))) ≡ 0 = filter-none (bytes_eq text) others (λ y k. ap (λ t. not (bytes_eq t y)) (sym same) ∙ ap not k) (first_appearances xs) in
        omega arith
    by le false e = let le' = filter-of (bytes_eq text) others (first_appearances xs) in omega (arith, le, le')

-- a leaf begins with at most one of the paths below a path, and with none where it does not begin with that path
fronts-below : (leaves : List (List ℕ)) (leaf path : List ℕ) → fronts leaf (below leaves path) ≤ cond (begins leaf path) 1 0
fronts-below leaves leaf path = by (begins leaf path) refl
  where
    up : (next : List ℕ) → next ≡ path ++ last_value next ∷ [] → begins leaf next ≡ true → begins leaf path ≡ true
    up next is e =
        let front : next ≡ take (length next) leaf = front_of leaf next e in
        let len : length next ≡ suc (length path) = ap length is ∙ length-append path (last_value next ∷ []) ∙ omega arith in
        begins_from leaf path (sym (take_at path (last_value next ∷ []) (length path) refl) ∙ ap (take (length path)) (sym is ∙ front) ∙ take-take (length path) (length next) leaf (omega arith))

    same : (next : List ℕ) → length next ≡ suc (length path) → begins leaf next ≡ true → bytes_eq (take (suc (length path)) leaf) next ≡ true
    same next long e = (bytes_eq-Decides (take (suc (length path)) leaf) next).1 (sym (front_of leaf next e ∙ ap (λ n. take n leaf) long))

    by : (b : Bool) → begins leaf path ≡ b → fronts leaf (below leaves path) ≤ cond b 1 0
    by true e =
        let fewer = filter-fewer (begins leaf) (bytes_eq (take (suc (length path)) leaf)) (below leaves path) (All-weaker (λ next. length next ≡ suc (length path)) (λ next. begins leaf next ≡ true → bytes_eq (take (suc (length path)) leaf) next ≡ true) same (below leaves path) (long_below leaves path)) in
        let one = once (take (suc (length path)) leaf) (filter (is_next path) (map (cut path) (filter (λ other. begins other path) leaves))) in
        omega (arith, fewer, one)
    by false e =
        let fewer = filter-fewer (begins leaf) (λ _. false) (below leaves path) (All-weaker (λ next. next ≡ path ++ last_value next ∷ []) (λ next. begins leaf next ≡ true → false ≡ true) (λ next is k. sym e ∙ up next is k) (below leaves path) (shape leaves path)) in
        let none : length (filter (λ _. false) (below leaves path)) ≡ 0 = never (below leaves path) in
        omega (arith, fewer, none)
      where
        never : (xs : List (List ℕ)) → length (filter (λ _. false) xs) ≡ 0
        never [] = refl
        never (x ∷ xs) = never xs

fronts-cons : (leaf path : List ℕ) (paths : List (List ℕ)) → fronts leaf (path ∷ paths) ≡ cond (begins leaf path) 1 0 + fronts leaf paths
fronts-cons leaf path paths = by (begins leaf path)
  where
    by : (b : Bool) → length (cond b (path ∷ filter (begins leaf) paths) (filter (begins leaf) paths)) ≡ cond b 1 0 + fronts leaf paths
    by true = omega arith
    by false = omega arith

fronts-flat : (leaves : List (List ℕ)) (leaf : List ℕ) (paths : List (List ℕ)) → fronts leaf (flat_map (below leaves) paths) ≤ fronts leaf paths
fronts-flat leaves leaf [] = omega arith
fronts-flat leaves leaf (path ∷ paths) =
    let rest = fronts-flat leaves leaf paths in
    let here = fronts-below leaves leaf path in
    let cons = fronts-cons leaf path paths in
    let parts : fronts leaf (below leaves path ++ flat_map (below leaves) paths) ≡ fronts leaf (below leaves path) + fronts leaf (flat_map (below leaves) paths) = ap length (filter-append (begins leaf) (below leaves path) (flat_map (below leaves) paths)) ∙ length-append (filter (begins leaf) (below leaves path)) (filter (begins leaf) (flat_map (below leaves) paths)) in
    omega (arith, rest, here, cons, parts)

one_front : (leaves : List (List ℕ)) (leaf : List ℕ) (depth : ℕ) → fronts leaf (at_depth leaves depth) ≤ 1
one_front leaves leaf zero = filter_le (begins leaf) ([] ∷ [])
one_front leaves leaf (suc depth) = let up = one_front leaves leaf depth in let le = fronts-flat leaves leaf (at_depth leaves depth) in omega (arith, up, le)

all-one : (leaves : List (List ℕ)) (paths : List (List ℕ)) → ((leaf : List ℕ) → fronts leaf paths ≤ 1) → all_fronts leaves paths ≤ length leaves
all-one [] paths h = omega arith
all-one (leaf ∷ leaves) paths h = let here = h leaf in let rest = all-one leaves paths h in omega (arith, here, rest)

-- how many leaves begin with a path
abbrev leaves_of : List (List ℕ) → List ℕ → ℕ
leaves_of leaves path = length (filter (λ leaf. begins leaf path) leaves)

all-cons : (leaves : List (List ℕ)) (path : List ℕ) (paths : List (List ℕ)) → all_fronts leaves (path ∷ paths) ≡ leaves_of leaves path + all_fronts leaves paths
all-cons [] path paths = refl
all-cons (leaf ∷ leaves) path paths =
    let rest = all-cons leaves path paths in
    let here = fronts-cons leaf path paths in
    let of : leaves_of (leaf ∷ leaves) path ≡ cond (begins leaf path) 1 0 + leaves_of leaves path = by (begins leaf path) in
    omega (arith, rest, here, of)
  where
    by : (b : Bool) → length (cond b (leaf ∷ filter (λ other. begins other path) leaves) (filter (λ other. begins other path) leaves)) ≡ cond b 1 0 + leaves_of leaves path
    by true = omega arith
    by false = omega arith

below-le : (leaves : List (List ℕ)) (path : List ℕ) → length (below leaves path) ≤ leaves_of leaves path
below-le leaves path =
    let kept : List (List ℕ) = filter (λ leaf. begins leaf path) leaves in
    let a = appearances_le (filter (is_next path) (map (cut path) kept)) in
    let b = filter_le (is_next path) (map (cut path) kept) in
    let c = length-map kept (cut path) in
    omega (arith, a, b, c)

flat-le : (leaves : List (List ℕ)) (paths : List (List ℕ)) → length (flat_map (below leaves) paths) ≤ all_fronts leaves paths
flat-le leaves [] = omega arith
flat-le leaves (path ∷ paths) =
    let rest = flat-le leaves paths in
    let here = below-le leaves path in
    let cons = all-cons leaves path paths in
    let parts = length-append (below leaves path) (flat_map (below leaves) paths) in
    omega (arith, rest, here, cons, parts)

-- a depth below the top has at most as many paths as there are leaves
pub few : (leaves : List (List ℕ)) (depth : ℕ) → length (at_depth leaves (suc depth)) ≤ length leaves
few leaves depth =
    let a = flat-le leaves (at_depth leaves depth) in
    let b = all-one leaves (at_depth leaves depth) (λ leaf. one_front leaves leaf depth) in
    omega (arith, a, b)

-- The paths of some levels below a path: how many they are by depth, and one level of them.
use Rattle.std.proofs.Common.{◌≡◌, refl, sym, ◌∙◌, ap, ℕ, zero, suc, ◌+◌, ◌-◌, ◌<◌, ◌≤◌, List, [], ◌∷◌, ◌++◌, length, flat_map, arith, length-append, append-nil}
use Rattle.std.proofs.lemmas.List.Concat.{flat_map-append}
use Rattle.olap_meaning.specs.Catalog.{at_depth, below, under}

-- the paths of some levels below the paths of a list, and of those one level further up
heads : (leaves : List (List ℕ)) (levels : ℕ) (paths : List (List ℕ)) → length (flat_map (λ next. next ∷ under leaves levels next) paths) ≡ length paths + length (flat_map (under leaves levels) paths)
heads leaves levels [] = refl
heads leaves levels (path ∷ paths) =
    let rest = heads leaves levels paths in
    let a = length-append (under leaves levels path) (flat_map (λ next. next ∷ under leaves levels next) paths) in
    let b = length-append (under leaves levels path) (flat_map (under leaves levels) paths) in
    omega (arith, rest, a, b)

step : (leaves : List (List ℕ)) (levels : ℕ) (paths : List (List ℕ)) → length (flat_map (under leaves (suc levels)) paths) ≡ length (flat_map (below leaves) paths) + length (flat_map (under leaves levels) (flat_map (below leaves) paths))
step leaves levels paths = ap length (joined paths) ∙ heads leaves levels (flat_map (below leaves) paths)
  where
    joined : (some : List (List ℕ)) → flat_map (under leaves (suc levels)) some ≡ flat_map (λ next. next ∷ under leaves levels next) (flat_map (below leaves) some)
    joined [] = refl
    joined (path ∷ some) = ap (λ xs. flat_map (λ next. next ∷ under leaves levels next) (below leaves path) ++ xs) (joined some) ∙ sym (flat_map-append (λ next. next ∷ under leaves levels next) (below leaves path) (flat_map (below leaves) some))

-- the paths left below a depth: those of the next, and those left below it
pub left-step : (leaves : List (List ℕ)) (levels depth : ℕ) → depth < levels → length (flat_map (under leaves (levels - depth)) (at_depth leaves depth)) ≡ length (at_depth leaves (suc depth)) + length (flat_map (under leaves (levels - suc depth)) (at_depth leaves (suc depth)))
left-step leaves levels depth h =
    ap (λ n. length (flat_map (under leaves n) (at_depth leaves depth))) (let e : levels - depth ≡ suc (levels - suc depth) = omega arith in e)
    ∙ step leaves (levels - suc depth) (at_depth leaves depth)

-- none are left below the last level
pub left-none : (leaves : List (List ℕ)) (levels depth : ℕ) → levels ≤ depth → length (flat_map (under leaves (levels - depth)) (at_depth leaves depth)) ≡ 0
left-none leaves levels depth h =
    ap (λ n. length (flat_map (under leaves n) (at_depth leaves depth))) (let e : levels - depth ≡ 0 = omega arith in e) ∙ none (at_depth leaves depth)
  where
    none : (paths : List (List ℕ)) → length (flat_map (under leaves zero) paths) ≡ 0
    none [] = refl
    none (path ∷ paths) = none paths

-- the paths below one, by those one level below it
pub under-step : (leaves : List (List ℕ)) (levels depth : ℕ) (path : List ℕ) → depth < levels → under leaves (levels - depth) path ≡ flat_map (λ next. next ∷ under leaves (levels - suc depth) next) (below leaves path)
under-step leaves levels depth path h = ap (λ n. under leaves n path) (let e : levels - depth ≡ suc (levels - suc depth) = omega arith in e)

pub under-none : (leaves : List (List ℕ)) (levels depth : ℕ) (path : List ℕ) → levels ≤ depth → under leaves (levels - depth) path ≡ []
under-none leaves levels depth path h = ap (λ n. under leaves n path) (let e : levels - depth ≡ 0 = omega arith in e)

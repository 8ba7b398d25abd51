-- One step of a walk down: from a span to that below one of its places.
use Rattle.std.proofs.Common.{◌≡◌, sym, ◌∙◌, ap, subst, ℕ, suc, ◌+◌, ◌-◌, ◌<◌, ◌≤◌, List, [], ◌∷◌, ◌++◌, length, take, drop, get_or, arith, take-suc, take-append-drop, flat_map, append_assoc, length-append, ◌⊎◌, inl, inr, eqb, false}
use Rattle.std.proofs.lemmas.List.{get_or-map, drop_more, take_more, take_all, flat_map_more}
use Rattle.std.proofs.lemmas.Bool.{cases_lt, eqb-false}
use Rattle.member_trees.specs.declared.node.Node.{Node}
use Rattle.olap_meaning.specs.Catalog.{at_depth, below, under}
use Rattle.member_trees.specs.Nodes.{first_below, nodes_below}
use Rattle.member_trees.specs.Spans.{values, firsts, IsSpan}
use Rattle.member_trees.proofs.RowsByPlace.{first-is, length-row}
use Rattle.member_trees.proofs.Spans.{span-at, span-child, span-none, span-length, in-span}
use Rattle.member_trees.proofs.Under.{under-step}

-- where the paths below the one of a node begin
pub first-at : (leaves : List (List ℕ)) (depth place : ℕ) (row : List Node) (node : Node) → 0 < depth → row ≡ nodes_below leaves (depth - 1) → place < length row → (get_or row place node).first ≡ first_below leaves depth place
first-at leaves depth place row node h is in' =
    let long = ap length is ∙ length-row leaves (depth - 1) in
    sym (get_or-map (λ (one : Node). one.first) row place node 0 in') ∙ ap (λ xs. get_or (firsts xs) place 0) is
    ∙ first-is leaves (depth - 1) place (omega (arith, long))
    ∙ ap (λ d. first_below leaves d place) (let e : suc (depth - 1) ≡ depth = omega arith in e)

-- the span below a place, by its ends
pub span-from : (leaves : List (List ℕ)) (depth place start end : ℕ) → place < length (at_depth leaves depth) → start ≡ first_below leaves depth place → end ≡ first_below leaves depth (place + 1) → IsSpan leaves depth (get_or (at_depth leaves depth) place []) start end
span-from leaves depth place start end h from to =
    let path : List ℕ = get_or (at_depth leaves depth) place [] in
    let next : suc place ≡ place + 1 = omega arith in
    subst (λ n. IsSpan leaves depth path n end) (sym from)
    (subst (λ n. IsSpan leaves depth path (first_below leaves depth place) n) (ap (first_below leaves depth) next ∙ sym to) (span-at leaves depth place h))

-- the value found leads to the span below its place
pub step-found : (leaves : List (List ℕ)) (depth : ℕ) (path : List ℕ) (start end place value from to : ℕ) (row : List Node) → IsSpan leaves depth (take depth path) start end → depth < length path → row ≡ nodes_below leaves depth → start ≤ place → place < end → get_or (values row) place 0 ≡ value → value ≡ get_or path depth value → IsSpan leaves (depth + 1) (get_or (at_depth leaves (depth + 1)) place []) from to → IsSpan leaves (suc depth) (take (suc depth) path) from to
step-found leaves depth path start end place value from to row span in' is low high found here below' =
    let next : depth + 1 ≡ suc depth = omega arith in
    let path-is : get_or (at_depth leaves (suc depth)) place [] ≡ take (suc depth) path =
    span-child span place low high
    ∙ ap (λ xs. take depth path ++ get_or (values xs) place 0 ∷ []) (sym is)
    ∙ ap (λ v. take depth path ++ v ∷ []) (found ∙ here) ∙ sym (take-suc path depth value in') in
    subst (λ p. IsSpan leaves (suc depth) p from to) path-is
    (subst (λ d. IsSpan leaves d (get_or (at_depth leaves d) place []) from to) next below')

-- a value that is not found leads nowhere
pub step-none : (leaves : List (List ℕ)) (depth : ℕ) (path : List ℕ) (start end value : ℕ) (row : List Node) → IsSpan leaves depth (take depth path) start end → depth < length path → row ≡ nodes_below leaves depth → value ≡ get_or path depth value → ((k : ℕ) → start ≤ k → k < end → get_or (values row) k 0 ≡ value → ⊥) → below leaves path ≡ []
step-none leaves depth path start end value row span in' is here none =
    ap (below leaves) (sym (take-append-drop depth path) ∙ ap (λ xs. take depth path ++ xs) (drop_more path depth value in') ∙ ap (λ v. take depth path ++ v ∷ drop (depth + 1) path) (sym here))
    ∙ span-none span value (λ k low high e. none k low high (ap (λ xs. get_or (values xs) k 0) is ∙ e)) (drop (depth + 1) path)

-- a search that goes on from a place without the value
pub place-more : (row : List Node) (start place value : ℕ) (node : Node) → place < length row → ((k : ℕ) → start ≤ k → k < place → get_or (values row) k 0 ≡ value → ⊥) → eqb (get_or row place node).value value ≡ false → (k : ℕ) → start ≤ k → k < place + 1 → get_or (values row) k 0 ≡ value → ⊥
place-more row start place value node in' before differs k low high e = by (cases_lt k place)
  where
    by : (k < place) ⊎ (place ≤ k) → ⊥
    by (inl h) = before k low h e
    by (inr h) =
        let same : k ≡ place = omega arith in
        eqb-false (get_or row place node).value value differs
        (sym (get_or-map (λ (one : Node). one.value) row place node 0 in') ∙ ap (λ n. get_or (values row) n 0) (sym same) ∙ e)

-- the path of a node of a span
pub next-is : {leaves : List (List ℕ)} {path : List ℕ} {start end : ℕ} → IsSpan leaves (length path) path start end → (row : List Node) (node : Node) (place : ℕ) → row ≡ nodes_below leaves (length path) → start ≤ place → place < end → path ++ (get_or row place node).value ∷ [] ≡ get_or (at_depth leaves (suc (length path))) place []
next-is {leaves} {path} {start} {end} span row node place is low high =
    let within : end ≤ length (at_depth leaves (suc (length path))) = span.within in
    let long = ap length is ∙ length-row leaves (length path) in
    ap (λ v. path ++ v ∷ []) (sym (get_or-map (λ (one : Node). one.value) row place node 0 (omega (arith, long))) ∙ ap (λ xs. get_or (values xs) place 0) is)
    ∙ sym (span-child span place low high)

pub next-long : (path next : List ℕ) (value : ℕ) → next ≡ path ++ value ∷ [] → length next ≡ suc (length path)
next-long path next value is = ap length is ∙ length-append path (value ∷ []) ∙ omega arith

-- the span below a path that is known
pub span-next : (leaves : List (List ℕ)) (depth place start end : ℕ) (next now : List ℕ) → depth ≡ length next → now ≡ next → next ≡ get_or (at_depth leaves (length next)) place [] → IsSpan leaves depth (get_or (at_depth leaves depth) place []) start end → IsSpan leaves (length now) now start end
span-next leaves depth place start end next now long same is span =
    subst (λ p. IsSpan leaves (length p) p start end) (sym same)
    (subst (λ p. IsSpan leaves (length next) p start end) (sym is) (subst (λ d. IsSpan leaves d (get_or (at_depth leaves d) place []) start end) long span))

-- one more path of a span, with those below it
pub add-step : {leaves : List (List ℕ)} {path : List ℕ} {start end : ℕ} → IsSpan leaves (length path) path start end → (levels place : ℕ) (next : List ℕ) (old paths new : List (List ℕ)) → start ≤ place → place < end → length next ≡ suc (length path) → next ≡ get_or (at_depth leaves (suc (length path))) place [] → paths ≡ old ++ flat_map (λ one. one ∷ under leaves (levels - suc (length path)) one) (take (place - start) (below leaves path)) → new ≡ (paths ++ next ∷ []) ++ under leaves (levels - length next) next → new ≡ old ++ flat_map (λ one. one ∷ under leaves (levels - suc (length path)) one) (take (place + 1 - start) (below leaves path))
add-step {leaves} {path} {start} {end} span levels place next old paths new low high long is before now =
    let count = span-length span in
    let more : take (place + 1 - start) (below leaves path) ≡ take (place - start) (below leaves path) ++ next ∷ [] =
    ap (λ n. take n (below leaves path)) (let e : place + 1 - start ≡ place - start + 1 = omega arith in e)
    ∙ take_more (below leaves path) (place - start) [] (omega (arith, count))
    ∙ ap (λ x. take (place - start) (below leaves path) ++ x ∷ []) (in-span span place low high ∙ sym is) in
    now ∙ append_assoc paths (next ∷ []) (under leaves (levels - length next) next)
    ∙ ap (λ n. paths ++ next ∷ under leaves (levels - n) next) long
    ∙ ap (λ xs. xs ++ next ∷ under leaves (levels - suc (length path)) next) before
    ∙ flat_map_more all old (take (place - start) (below leaves path)) next
    ∙ ap (λ xs. old ++ flat_map all xs) (sym more)
  where
    all : List ℕ → List (List ℕ)
    all one = one ∷ under leaves (levels - suc (length path)) one

-- all paths of a span are those below its path
pub add-all : {leaves : List (List ℕ)} {path : List ℕ} {start end : ℕ} → IsSpan leaves (length path) path start end → (levels place : ℕ) → end ≤ place → length path < levels → flat_map (λ one. one ∷ under leaves (levels - suc (length path)) one) (take (place - start) (below leaves path)) ≡ under leaves (levels - length path) path
add-all {leaves} {path} {start} {end} span levels place past above =
    let count = span-length span in
    ap (flat_map (λ one. one ∷ under leaves (levels - suc (length path)) one)) (take_all (place - start) (below leaves path) (omega (arith, count)))
    ∙ sym (under-step leaves levels (length path) path above)

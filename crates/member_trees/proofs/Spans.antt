-- Spans of paths: that of the top, that below a place, and what stands at a place of one.
use Rattle.std.proofs.Common.{◌≡◌, refl, sym, ◌∙◌, ap, ℕ, zero, suc, ◌+◌, ◌-◌, ◌<◌, ◌≤◌, List, [], ◌∷◌, ◌++◌, length, take, drop, map, get_or, flat_map, slice_range, All, arith, length-append, length-take, length-drop, take-append-drop, append-nil, take_at, drop_at, get_or-take, get_or-drop, take-suc}
use Rattle.std.proofs.lemmas.List.{get_or-map, take-map, drop-map, take_all, drop_more}
use Rattle.std.proofs.lemmas.List.Concat.{flat_map-append}
use Rattle.std.proofs.lemmas.List.Elements.{All-nil, All-cons, All-weaker, All-get_or, All-from_get_or}
use Rattle.member_trees.specs.declared.node.Node.{Node}
use Rattle.olap_meaning.specs.Catalog.{at_depth, below}
use Rattle.member_trees.specs.Nodes.{last_value, first_below, nodes_below}
use Rattle.member_trees.specs.Spans.{values, IsSpan}
use Rattle.member_trees.proofs.Below.{shape, long_below, none_beyond}
use Rattle.member_trees.proofs.RowsByPlace.{values-are, map-map, map-fixed, All-flat}

-- each path of a depth has its length
pub long-at : (leaves : List (List ℕ)) (depth : ℕ) → All (λ path. length path ≡ depth) (at_depth leaves depth)
long-at leaves zero = All-cons (λ path. length path ≡ 0) [] [] refl (All-nil (λ path. length path ≡ 0))
long-at leaves (suc depth) =
    All-flat (λ path. length path ≡ depth) (λ path. length path ≡ suc depth) (below leaves)
    (λ path h. All-weaker (λ next. length next ≡ suc (length path)) (λ next. length next ≡ suc depth) (λ next k. omega arith) (below leaves path) (long_below leaves path)) (at_depth leaves depth) (long-at leaves depth)

-- a list joined of parts, cut at one of them
parts : {A B : Type 0} (f : A → List B) (xs : List A) (i : ℕ) (d : A) → i < length xs → flat_map f xs ≡ flat_map f (take i xs) ++ (f (get_or xs i d) ++ flat_map f (drop (i + 1) xs))
parts f xs i d h =
    ap (flat_map f) (sym (take-append-drop i xs) ∙ ap (λ ys. take i xs ++ ys) (drop_more xs i d h))
    ∙ flat_map-append f (take i xs) (get_or xs i d ∷ drop (i + 1) xs)

front : {A B : Type 0} (f : A → List B) (xs : List A) (i : ℕ) (d : A) → i < length xs → length (flat_map f (take (suc i) xs)) ≡ length (flat_map f (take i xs)) + length (f (get_or xs i d))
front f xs i d h =
    ap (λ ys. length (flat_map f ys)) (take-suc xs i d h) ∙ ap length (flat_map-append f (take i xs) (get_or xs i d ∷ []))
    ∙ length-append (flat_map f (take i xs)) (f (get_or xs i d) ++ [])
    ∙ ap (λ ys. length (flat_map f (take i xs)) + length ys) (append-nil (f (get_or xs i d)))

piece : {A B : Type 0} (f : A → List B) (xs : List A) (i : ℕ) (d : A) → i < length xs → slice_range (flat_map f xs) (length (flat_map f (take i xs))) (length (flat_map f (take (suc i) xs))) ≡ f (get_or xs i d)
piece {A} {B} f xs i d h =
    let to = front f xs i d h in
    ap (λ ys. slice_range ys from (length (flat_map f (take (suc i) xs)))) (parts f xs i d h)
    ∙ ap (take (length (flat_map f (take (suc i) xs)) - from)) (drop_at (flat_map f (take i xs)) (f (get_or xs i d) ++ flat_map f (drop (i + 1) xs)) from refl)
    ∙ take_at (f (get_or xs i d)) (flat_map f (drop (i + 1) xs)) (length (flat_map f (take (suc i) xs)) - from) (omega (arith, to))
  where
    from : ℕ
    from = length (flat_map f (take i xs))

-- the paths below the one at a place
pub span-at : (leaves : List (List ℕ)) (depth place : ℕ) → place < length (at_depth leaves depth) → IsSpan leaves depth (get_or (at_depth leaves depth) place []) (first_below leaves depth place) (first_below leaves depth (suc place))
span-at leaves depth place h =
    let to = front (below leaves) (at_depth leaves depth) place [] h in
    let all = ap length (parts (below leaves) (at_depth leaves depth) place [] h) ∙ length-append (flat_map (below leaves) (take place (at_depth leaves depth))) (below leaves path ++ flat_map (below leaves) (drop (place + 1) (at_depth leaves depth))) ∙ ap (λ n. first_below leaves depth place + n) (length-append (below leaves path) (flat_map (below leaves) (drop (place + 1) (at_depth leaves depth)))) in record {
      long = All-get_or (λ one. length one ≡ depth) (at_depth leaves depth) place [] h (long-at leaves depth);
      ordered = omega (arith, to);
      within = omega (arith, to, all);
      are = piece (below leaves) (at_depth leaves depth) place [] h;
    }
  where
    path : List ℕ
    path = get_or (at_depth leaves depth) place []

-- how many paths a span has
pub span-length : {leaves : List (List ℕ)} {depth : ℕ} {path : List ℕ} {start end : ℕ} → IsSpan leaves depth path start end → length (below leaves path) ≡ end - start
span-length {leaves} {depth} {path} {start} {end} s =
    ap length (sym s.are) ∙ length-take (end - start) (drop start (at_depth leaves (suc depth)))
    ∙ let within = s.within in let k = length-drop start (at_depth leaves (suc depth)) in omega (arith, k)

pub in-span : {leaves : List (List ℕ)} {depth : ℕ} {path : List ℕ} {start end : ℕ} → IsSpan leaves depth path start end → (place : ℕ) → start ≤ place → place < end → get_or (below leaves path) (place - start) [] ≡ get_or (at_depth leaves (suc depth)) place []
in-span {leaves} {depth} {path} {start} {end} s place low high =
    ap (λ xs. get_or xs (place - start) []) (sym s.are)
    ∙ get_or-take (end - start) (drop start (at_depth leaves (suc depth))) (place - start) [] (omega arith)
    ∙ get_or-drop start (at_depth leaves (suc depth)) (place - start) []
    ∙ ap (λ n. get_or (at_depth leaves (suc depth)) n []) (let e : start + (place - start) ≡ place = omega arith in e)

value-at : (leaves : List (List ℕ)) (depth place : ℕ) → place < length (at_depth leaves (suc depth)) → get_or (values (nodes_below leaves depth)) place 0 ≡ last_value (get_or (at_depth leaves (suc depth)) place [])
value-at leaves depth place h = ap (λ xs. get_or xs place 0) (values-are leaves depth) ∙ get_or-map last_value (at_depth leaves (suc depth)) place [] 0 h

-- the path at a place of a span is the path above and the value there
pub span-child : {leaves : List (List ℕ)} {depth : ℕ} {path : List ℕ} {start end : ℕ} → IsSpan leaves depth path start end → (place : ℕ) → start ≤ place → place < end → get_or (at_depth leaves (suc depth)) place [] ≡ path ++ get_or (values (nodes_below leaves depth)) place 0 ∷ []
span-child {leaves} {depth} {path} {start} {end} s place low high =
    let within : end ≤ length (at_depth leaves (suc depth)) = s.within in
    let here = in-span s place low high in
    let long = span-length s in
    sym here
    ∙ All-get_or (λ next. next ≡ path ++ last_value next ∷ []) (below leaves path) (place - start) [] (omega (arith, long)) (shape leaves path)
    ∙ ap (λ next. path ++ last_value next ∷ []) here
    ∙ ap (λ v. path ++ v ∷ []) (sym (value-at leaves depth place (omega arith)))

-- where no place of a span has a value, nothing begins with it
pub span-none : {leaves : List (List ℕ)} {depth : ℕ} {path : List ℕ} {start end : ℕ} → IsSpan leaves depth path start end → (value : ℕ) → ((place : ℕ) → start ≤ place → place < end → get_or (values (nodes_below leaves depth)) place 0 ≡ value → ⊥) → (rest : List ℕ) → below leaves (path ++ value ∷ rest) ≡ []
span-none {leaves} {depth} {path} {start} {end} s value none rest =
    let long = span-length s in
    let within : end ≤ length (at_depth leaves (suc depth)) = s.within in
    none_beyond leaves path value rest
    (All-from_get_or (λ next. last_value next ≡ value → ⊥) (below leaves path) [] (λ i h e. none (start + i) (omega arith) (omega (arith, long))
    (value-at leaves depth (start + i) (omega (arith, long)) ∙ ap last_value (sym (in-span s (start + i) (omega arith) (omega (arith, long))) ∙ ap (λ n. get_or (below leaves path) n []) (let k : start + i - start ≡ i = omega arith in k)) ∙ e)))

-- the paths of a span by its nodes
pub span-paths : {leaves : List (List ℕ)} {depth : ℕ} {path : List ℕ} {start end : ℕ} → IsSpan leaves depth path start end → map (λ (node : Node). path ++ node.value ∷ []) (slice_range (nodes_below leaves depth) start end) ≡ below leaves path
span-paths {leaves} {depth} {path} {start} {end} s =
    sym (map-map (λ (node : Node). node.value) (λ v. path ++ v ∷ []) (slice_range (nodes_below leaves depth) start end))
    ∙ ap (map (λ v. path ++ v ∷ [])) (sym (take-map (λ (node : Node). node.value) (end - start) (drop start (nodes_below leaves depth))) ∙ ap (take (end - start)) (sym (drop-map (λ (node : Node). node.value) start (nodes_below leaves depth)) ∙ ap (drop start) (values-are leaves depth) ∙ drop-map last_value start (at_depth leaves (suc depth))) ∙ take-map last_value (end - start) (drop start (at_depth leaves (suc depth))) ∙ ap (map last_value) s.are)
    ∙ map-map last_value (λ v. path ++ v ∷ []) (below leaves path)
    ∙ map-fixed (λ next. path ++ last_value next ∷ []) (below leaves path) (shape leaves path)

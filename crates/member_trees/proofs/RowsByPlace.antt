-- What the nodes of a row hold: the last values of its paths, the places of the paths above them, and where the paths
-- below them begin.
use Rattle.std.proofs.Common.{◌≡◌, refl, sym, ◌∙◌, ap, ℕ, suc, ◌+◌, ◌<◌, List, [], ◌∷◌, ◌++◌, length, map, get_or, flat_map, All, arith, append_assoc}
use Rattle.std.specs.List.{enumerate_from}
use Rattle.std.proofs.lemmas.List.{length-map, get_or-map, get_or_at, length_push}
use Rattle.std.proofs.lemmas.List.FromFn.{length-enumerate_from, get_or-enumerate_from}
use Rattle.std.proofs.lemmas.List.Elements.{All-head, All-tail, All-nil, All-cons, All-append, All-weaker, All-map}
use Rattle.member_trees.specs.declared.node.Node.{Node}
use Rattle.olap_meaning.specs.Catalog.{at_depth, below}
use Rattle.olap_meaning.proofs.Lists.{flat_map_agree, map-flat_map}
use Rattle.member_trees.specs.Nodes.{last_value, places_below, first_below, nodes_below}
use Rattle.member_trees.specs.Spans.{values, firsts}
use Rattle.member_trees.proofs.Below.{shape}

-- what does not look at the places of an enumeration
map-items : {A B : Type 0} (f : A → B) (n : ℕ) (xs : List A) → map (λ (one : ℕ × A). f one.1) (enumerate_from n xs) ≡ map f xs
map-items f n [] = refl
map-items f n (x ∷ xs) = ap (λ ys. f x ∷ ys) (map-items f (n + 1) xs)

pub map-map : {A B C : Type 0} (f : A → B) (g : B → C) (xs : List A) → map g (map f xs) ≡ map (λ x. g (f x)) xs
map-map f g [] = refl
map-map f g (x ∷ xs) = ap (λ ys. g (f x) ∷ ys) (map-map f g xs)

flat-items : {A B : Type 0} (f : A → List B) (n : ℕ) (xs : List A) → flat_map (λ (one : ℕ × A). f one.1) (enumerate_from n xs) ≡ flat_map f xs
flat-items f n [] = refl
flat-items f n (x ∷ xs) = ap (λ ys. f x ++ ys) (flat-items f (n + 1) xs)

-- of the places below, the values
places-values : (leaves : List (List ℕ)) (depth : ℕ) → map (λ (one : ℕ × ℕ). one.1) (places_below leaves depth) ≡ map last_value (at_depth leaves (suc depth))
places-values leaves depth =
    map-flat_map (λ (one : ℕ × ℕ). one.1) (λ (parent : ℕ × List ℕ). map (λ path. (parent.0, last_value path)) (below leaves parent.1)) (enumerate_from 0 (at_depth leaves depth))
    ∙ flat_map_agree (λ (parent : ℕ × List ℕ). map (λ (one : ℕ × ℕ). one.1) (map (λ path. (parent.0, last_value path)) (below leaves parent.1))) (λ (parent : ℕ × List ℕ). map last_value (below leaves parent.1)) (λ parent. map-map (λ path. (parent.0, last_value path)) (λ (one : ℕ × ℕ). one.1) (below leaves parent.1)) (enumerate_from 0 (at_depth leaves depth))
    ∙ flat-items (λ path. map last_value (below leaves path)) 0 (at_depth leaves depth)
    ∙ sym (map-flat_map last_value (below leaves) (at_depth leaves depth))

-- a row has the last values of its depth's paths
pub values-are : (leaves : List (List ℕ)) (depth : ℕ) → values (nodes_below leaves depth) ≡ map last_value (at_depth leaves (suc depth))
values-are leaves depth =
    map-map (λ (one : ℕ × (ℕ × ℕ)). node one) (λ (node : Node). node.value) (enumerate_from 0 (places_below leaves depth))
    ∙ map-items (λ (one : ℕ × ℕ). one.1) 0 (places_below leaves depth) ∙ places-values leaves depth
  where
    node : ℕ × (ℕ × ℕ) → Node
    node one = record { parent = one.1.0; value = one.1.1; first = first_below leaves (suc depth) one.0 }

pub length-row : (leaves : List (List ℕ)) (depth : ℕ) → length (nodes_below leaves depth) ≡ length (at_depth leaves (suc depth))
length-row leaves depth =
    sym (length-map (nodes_below leaves depth) (λ (node : Node). node.value)) ∙ ap length (values-are leaves depth) ∙ length-map (at_depth leaves (suc depth)) last_value

-- and where the paths below each begin
pub first-is : (leaves : List (List ℕ)) (depth place : ℕ) → place < length (at_depth leaves (suc depth)) → get_or (firsts (nodes_below leaves depth)) place 0 ≡ first_below leaves (suc depth) place
first-is leaves depth place h =
    let long : length (enumerate_from 0 (places_below leaves depth)) ≡ length (at_depth leaves (suc depth)) = length-enumerate_from 0 (places_below leaves depth) ∙ sym (length-map (places_below leaves depth) (λ (one : ℕ × ℕ). one.1)) ∙ ap length (places-values leaves depth) ∙ length-map (at_depth leaves (suc depth)) last_value in
    let long' = length-enumerate_from 0 (places_below leaves depth) in
    ap (λ xs. get_or xs place 0) (map-map node (λ (node : Node). node.first) (enumerate_from 0 (places_below leaves depth)))
    ∙ get_or-map (λ (one : ℕ × (ℕ × ℕ)). first_below leaves (suc depth) one.0) (enumerate_from 0 (places_below leaves depth)) place (0, (0, 0)) 0 (omega (arith, long))
    ∙ ap (λ (one : ℕ × (ℕ × ℕ)). first_below leaves (suc depth) one.0) (get_or-enumerate_from 0 (places_below leaves depth) place (0, (0, 0)) (omega (arith, long, long')))
    ∙ ap (first_below leaves (suc depth)) (let e : 0 + place ≡ place = omega arith in e)
  where
    node : ℕ × (ℕ × ℕ) → Node
    node one = record { parent = one.1.0; value = one.1.1; first = first_below leaves (suc depth) one.0 }

-- what is as a function makes it is its map
pub map-fixed : {A : Type 0} (f : A → A) (xs : List A) → All (λ x. x ≡ f x) xs → map f xs ≡ xs
map-fixed f [] h = refl
map-fixed {A} f (x ∷ xs) h =
    ap (λ y. y ∷ map f xs) (sym (All-head (λ (y : A). y ≡ f y) x xs h)) ∙ ap (λ ys. x ∷ ys) (map-fixed f xs (All-tail (λ (y : A). y ≡ f y) x xs h))

-- the paths below some paths, each by the place of the path above it
rebuilt : (leaves every before paths : List (List ℕ)) (n : ℕ) → length before ≡ n → before ++ paths ≡ every → flat_map (λ (parent : ℕ × List ℕ). map (λ path. get_or every parent.0 [] ++ last_value path ∷ []) (below leaves parent.1)) (enumerate_from n paths) ≡ flat_map (below leaves) paths
rebuilt leaves every before [] n len is = refl
rebuilt leaves every before (path ∷ paths) n len is =
    let here : get_or every n [] ≡ path = ap (λ xs. get_or xs n []) (sym is) ∙ get_or_at before path paths [] n len in
    ap (λ above. map (λ next. above ++ last_value next ∷ []) (below leaves path) ++ flat_map (λ (parent : ℕ × List ℕ). map (λ next. get_or every parent.0 [] ++ last_value next ∷ []) (below leaves parent.1)) (enumerate_from (n + 1) paths)) here
    ∙ ap (λ xs. xs ++ flat_map (λ (parent : ℕ × List ℕ). map (λ next. get_or every parent.0 [] ++ last_value next ∷ []) (below leaves parent.1)) (enumerate_from (n + 1) paths)) (map-fixed (λ next. path ++ last_value next ∷ []) (below leaves path) (shape leaves path))
    ∙ ap (λ xs. below leaves path ++ xs) (rebuilt leaves every (before ++ path ∷ []) paths (n + 1) (length_push before path ∙ ap (λ k. k + 1) len) (append_assoc before (path ∷ []) paths ∙ is))

-- the paths of a depth, each as the path at its parent's place and its value
pub by-parents : (leaves : List (List ℕ)) (depth : ℕ) → map (λ (node : Node). get_or (at_depth leaves depth) node.parent [] ++ node.value ∷ []) (nodes_below leaves depth) ≡ at_depth leaves (suc depth)
by-parents leaves depth =
    map-map node (λ (one : Node). get_or above one.parent [] ++ one.value ∷ []) (enumerate_from 0 (places_below leaves depth))
    ∙ map-items (λ (one : ℕ × ℕ). get_or above one.0 [] ++ one.1 ∷ []) 0 (places_below leaves depth)
    ∙ map-flat_map (λ (one : ℕ × ℕ). get_or above one.0 [] ++ one.1 ∷ []) (λ (parent : ℕ × List ℕ). map (λ path. (parent.0, last_value path)) (below leaves parent.1)) (enumerate_from 0 above)
    ∙ flat_map_agree (λ (parent : ℕ × List ℕ). map (λ (one : ℕ × ℕ). get_or above one.0 [] ++ one.1 ∷ []) (map (λ path. (parent.0, last_value path)) (below leaves parent.1))) (λ (parent : ℕ × List ℕ). map (λ path. get_or above parent.0 [] ++ last_value path ∷ []) (below leaves parent.1)) (λ parent. map-map (λ path. (parent.0, last_value path)) (λ (one : ℕ × ℕ). get_or above one.0 [] ++ one.1 ∷ []) (below leaves parent.1)) (enumerate_from 0 above)
    ∙ rebuilt leaves above [] above 0 refl refl
  where
    above : List (List ℕ)
    above = at_depth leaves depth

    node : ℕ × (ℕ × ℕ) → Node
    node one = record { parent = one.1.0; value = one.1.1; first = first_below leaves (suc depth) one.0 }

-- what holds of each part holds of all joined
pub All-flat : {A B : Type 0} (Q : A → Type 0) (P : B → Type 0) (f : A → List B) → ((x : A) → Q x → All P (f x)) → (xs : List A) → All Q xs → All P (flat_map f xs)
All-flat Q P f given [] all = All-nil P
All-flat Q P f given (x ∷ xs) all = All-append P (f x) (flat_map f xs) (given x (All-head Q x xs all)) (All-flat Q P f given xs (All-tail Q x xs all))

numbered : {A : Type 0} (n : ℕ) (xs : List A) → All (λ (one : ℕ × A). one.0 < n + length xs) (enumerate_from n xs)
numbered n [] = All-nil (λ one. one.0 < n + 0)
numbered {A} n (x ∷ xs) =
    All-cons (λ (one : ℕ × A). one.0 < n + suc (length xs)) (n, x) (enumerate_from (n + 1) xs) (omega arith)
    (All-weaker (λ (one : ℕ × A). one.0 < n + 1 + length xs) (λ (one : ℕ × A). one.0 < n + suc (length xs)) (λ one h. omega arith) (enumerate_from (n + 1) xs) (numbered (n + 1) xs))

items-hold : {A : Type 0} (P : A → Type 0) (n : ℕ) (xs : List A) → All P xs → All (λ (one : ℕ × A). P one.1) (enumerate_from n xs)
items-hold {A} P n [] h = All-nil (λ (one : ℕ × A). P one.1)
items-hold {A} P n (x ∷ xs) h = All-cons (λ (one : ℕ × A). P one.1) (n, x) (enumerate_from (n + 1) xs) (All-head P x xs h) (items-hold P (n + 1) xs (All-tail P x xs h))

-- the parents of a row are places of the depth above
pub parents-within : (leaves : List (List ℕ)) (depth : ℕ) → All (λ (node : Node). node.parent < length (at_depth leaves depth)) (nodes_below leaves depth)
parents-within leaves depth =
    All-map (λ (one : Node). one.parent < length above) node (enumerate_from 0 (places_below leaves depth))
    (items-hold (λ (one : ℕ × ℕ). one.0 < length above) 0 (places_below leaves depth)
    (All-flat (λ (parent : ℕ × List ℕ). parent.0 < 0 + length above) (λ (one : ℕ × ℕ). one.0 < length above) (λ (parent : ℕ × List ℕ). map (λ path. (parent.0, last_value path)) (below leaves parent.1)) (λ parent h. All-map (λ (one : ℕ × ℕ). one.0 < length above) (λ path. (parent.0, last_value path)) (below leaves parent.1) (λ _ _ _. omega arith)) (enumerate_from 0 above) (numbered 0 above)))
  where
    above : List (List ℕ)
    above = at_depth leaves depth

    node : ℕ × (ℕ × ℕ) → Node
    node one = record { parent = one.1.0; value = one.1.1; first = first_below leaves (suc depth) one.0 }

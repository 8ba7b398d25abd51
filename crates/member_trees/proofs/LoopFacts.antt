-- One step more of the loops that list children, place them and number a row's nodes.
use Rattle.std.proofs.Common.{◌≡◌, refl, sym, ◌∙◌, ap, subst, inl, inr, ℕ, zero, suc, ◌+◌, ◌<◌, ◌≤◌, ◌==◌, nat_eq, List, [], ◌∷◌, ◌++◌, length, take, map, flat_map, filter, replicate, get_or, set, slice_index_or, Bool, true, false, cond, arith, append-nil, length-append}
use Rattle.std.specs.List.{AllByRecursion as Each, enumerate_from, range_with_len}
use Rattle.std.proofs.lemmas.Bool.Decides.{eqb_tells}
use Rattle.std.proofs.lemmas.List.{map-append, length-set, length-take-le, get_or-set_same, get_or-set_other, take_more, take_at, take-append-le, get_or_read}
use Rattle.std.proofs.lemmas.List.Concat.{flat_map-append}
use Rattle.std.proofs.lemmas.List.Folds.{length-flat_map-take}
use Rattle.std.proofs.lemmas.List.Elements.{filter-append}
use Rattle.std.proofs.lemmas.List.FromFn.{fill_by_all, get_or-map-range_with_len, length-map-range_with_len}
use Rattle.member_trees.specs.declared.node.Node.{Node}
use Rattle.member_trees.specs.declared.rows.Placed.{Placed}
use Rattle.member_trees.specs.Numbered.{children_of, placed_child, placed_children, listed_nodes}
use Rattle.member_trees.proofs.Lists.{Each-weaker, map_same, enumerate_push}

pub no_children : (a n : ℕ) → replicate n [] ≡ map (children_of []) (range_with_len a n)
no_children a zero = refl
no_children a (suc n) = ap (λ ls. [] ∷ ls) (no_children (a + 1) n)

children_push : (ms : List (ℕ × ℕ)) (m : ℕ × ℕ) (k : ℕ) → children_of (ms ++ m ∷ []) k ≡ children_of ms k ++ cond (nat_eq m.0 k) ((length ms, m.1) ∷ []) []
children_push ms m k =
    ap (λ es. map shown (filter under es)) (enumerate_push 0 ms m)
    ∙ ap (map shown) (filter-append under (enumerate_from 0 ms) ((0 + length ms, m) ∷ []))
    ∙ map-append shown (filter under (enumerate_from 0 ms)) (filter under ((0 + length ms, m) ∷ []))
    ∙ ap (λ es. children_of ms k ++ es) (last (nat_eq m.0 k) ∙ ap (λ n. cond (nat_eq m.0 k) ((n, m.1) ∷ []) []) (let e : 0 + length ms ≡ length ms = omega arith in e))
  where
    shown : ℕ × (ℕ × ℕ) → ℕ × ℕ
    shown one = (one.0, one.1.1)

    under : ℕ × (ℕ × ℕ) → Bool
    under one = one.1.0 == k

    last : (b : Bool) → map shown (cond b ((0 + length ms, m) ∷ []) []) ≡ cond b ((0 + length ms, m.1) ∷ []) []
    last true = refl
    last false = refl

-- the lists with one member more
pub children_step : (ms : List (ℕ × ℕ)) (j parents : ℕ) (lists : List (List (ℕ × ℕ))) (old new : List (ℕ × ℕ)) → lists ≡ map (children_of (take j ms)) (range_with_len 0 parents) → j < length ms
    → (get_or ms j (0, 0)).0 < parents → old ≡ get_or lists (get_or ms j (0, 0)).0 old → new ≡ old ++ (j, (get_or ms j (0, 0)).1) ∷ []
    → set lists (get_or ms j (0, 0)).0 new ≡ map (children_of (take (j + 1) ms)) (range_with_len 0 parents)
children_step ms j parents lists old new are within known had adds =
    fill_by_all (children_of (take (j + 1) ms)) (set lists m.0 new) parents [] (length-set lists m.0 new ∙ long) at
  where
    m : ℕ × ℕ
    m = get_or ms j (0, 0)

    long : length lists ≡ parents
    long = ap length are ∙ length-map-range_with_len (children_of (take j ms)) 0 parents

    was : (k : ℕ) (d : List (ℕ × ℕ)) → k < parents → get_or lists k d ≡ children_of (take j ms) k
    was k d lt = ap (λ ls. get_or ls k d) are ∙ get_or-map-range_with_len (children_of (take j ms)) 0 parents k k d lt (omega arith)

    more : (k : ℕ) → children_of (take (j + 1) ms) k ≡ children_of (take j ms) k ++ cond (nat_eq m.0 k) ((j, m.1) ∷ []) []
    more k =
        ap (λ xs. children_of xs k) (take_more ms j (0, 0) within) ∙ children_push (take j ms) m k
        ∙ ap (λ n. children_of (take j ms) k ++ cond (nat_eq m.0 k) ((n, m.1) ∷ []) []) (length-take-le j ms (omega (arith, within)))

    at : (k : ℕ) → k < parents → get_or (set lists m.0 new) k [] ≡ children_of (take (j + 1) ms) k
    at k lt = elim (eqb_tells m.0 k) [
      | inl t ↦
          (let P : ℕ → Type 0 = λ i. get_or (set lists m.0 new) i [] ≡ children_of (take j ms) i ++ (j, m.1) ∷ [] in
          subst P t.1 (get_or-set_same lists m.0 new [] (omega (arith, known, long)) ∙ adds ∙ ap (λ os. os ++ (j, m.1) ∷ []) (had ∙ was m.0 old known)))
          ∙ sym (more k ∙ ap (λ b. children_of (take j ms) k ++ cond b ((j, m.1) ∷ []) []) t.0)
      | inr t ↦
          get_or-set_other lists m.0 k new [] (λ e. t.1 (sym e)) ∙ was k [] lt
          ∙ sym (more k ∙ ap (λ b. children_of (take j ms) k ++ cond b ((j, m.1) ∷ []) []) t.0 ∙ append-nil (children_of (take j ms) k))
    ]

-- the children of one parent more
pub placed_step : (lists : List (List (ℕ × ℕ))) (order : List ℕ) (i : ℕ) → i < length order
    → placed_children lists (take (i + 1) order) ≡ placed_children lists (take i order) ++ map (placed_child i) (slice_index_or lists (get_or order i 0) [])
placed_step lists order i within =
    ap (λ xs. flat_map place (enumerate_from 0 xs)) (take_more order i 0 within)
    ∙ ap (flat_map place) (enumerate_push 0 (take i order) (get_or order i 0))
    ∙ flat_map-append place (enumerate_from 0 (take i order)) ((0 + length (take i order), get_or order i 0) ∷ [])
    ∙ ap (λ ps. placed_children lists (take i order) ++ ps) (append-nil (place (0 + length (take i order), get_or order i 0)) ∙ ap (λ n. map (placed_child n) (slice_index_or lists (get_or order i 0) [])) here)
  where
    place : ℕ × ℕ → List Placed
    place one = map (placed_child one.0) (slice_index_or lists one.1 [])

    here : 0 + length (take i order) ≡ i
    here = let l = length-take-le i order (omega (arith, within)) in omega (arith, l)

places_below : {X : Type 0} (a : ℕ) (xs : List X) → Each (λ e. e.0 ≤ a + length xs) (enumerate_from a xs)
places_below a [] = tt
places_below {X} a (x ∷ xs) = (omega arith, Each-weaker (λ (e : ℕ × X). e.0 ≤ (a + 1) + length xs) (λ (e : ℕ × X). e.0 ≤ a + suc (length xs)) (λ e h. omega (arith, h)) (enumerate_from (a + 1) xs) (places_below (a + 1) xs))

-- the nodes with one member more
pub listed_push : (lists : List (List (ℕ × ℕ))) (xs : List Placed) (x : Placed)
    → listed_nodes lists (xs ++ x ∷ []) ≡ listed_nodes lists xs ++ (record {
      parent = x.parent;
      value = x.value;
      first = length (flat_map (λ (p : Placed). slice_index_or lists p.number []) xs);
    }) ∷ []
listed_push lists xs x =
    ap (map (node (xs ++ x ∷ []))) (enumerate_push 0 xs x)
    ∙ map-append (node (xs ++ x ∷ [])) (enumerate_from 0 xs) ((0 + length xs, x) ∷ [])
    ∙ ap (λ ns. ns ++ node (xs ++ x ∷ []) (0 + length xs, x) ∷ []) (map_same (node (xs ++ x ∷ [])) (node xs) (enumerate_from 0 xs) (Each-weaker (λ (e : ℕ × Placed). e.0 ≤ 0 + length xs) (λ (e : ℕ × Placed). node (xs ++ x ∷ []) e ≡ node xs e) same (enumerate_from 0 xs) (places_below 0 xs)))
    ∙ ap (λ ys. listed_nodes lists xs ++ made x (length (flat_map kids ys)) ∷ []) (take_at xs (x ∷ []) (0 + length xs) (omega arith))
  where
    kids : Placed → List (ℕ × ℕ)
    kids p = slice_index_or lists p.number []

    made : Placed → ℕ → Node
    made one first = record {
      parent = one.parent;
      value = one.value;
      first = first;
    }

    node : List Placed → ℕ × Placed → Node
    node ys one = made one.1 (length (flat_map kids (take one.0 ys)))

    same : (e : ℕ × Placed) → e.0 ≤ 0 + length xs → node (xs ++ x ∷ []) e ≡ node xs e
    same e le = ap (λ ys. made e.1 (length (flat_map kids ys))) (take-append-le e.0 xs (x ∷ []) (omega (arith, le)))

-- how many children there are up to the end of one member's
pub row_fits : (lists : List (List (ℕ × ℕ))) (placed : List Placed) (i limit : ℕ) (x : Placed) (kids : List (ℕ × ℕ)) → i < length placed → get_or placed i x ≡ x → x.number < length lists → kids ≡ get_or lists x.number kids
    → length (flat_map (λ (p : Placed). slice_index_or lists p.number []) placed) ≤ limit → length (flat_map (λ (p : Placed). slice_index_or lists p.number []) (take i placed)) + length kids ≤ limit
row_fits lists placed i limit x kids within at known read few =
    let up = length-flat_map-take (λ (p : Placed). slice_index_or lists p.number []) placed i x within in
    let same : length (slice_index_or lists (get_or placed i x).number []) ≡ length kids = ap (λ (p : Placed). length (slice_index_or lists p.number [])) at ∙ ap length (sym (get_or_read lists x.number kids known read [])) in
    omega (arith, up, same, few)

pub row_listed : (lists : List (List (ℕ × ℕ))) (placed : List Placed) (i first : ℕ) (x : Placed) (row new : List Node) → i < length placed → get_or placed i x ≡ x
    → row ≡ listed_nodes lists (take i placed) → first ≡ length (flat_map (λ (p : Placed). slice_index_or lists p.number []) (take i placed))
    → new ≡ row ++ (record {
      parent = x.parent;
      value = x.value;
      first = first;
    }) ∷ []
    → new ≡ listed_nodes lists (take (i + 1) placed)
row_listed lists placed i first x row new within at was counted adds =
    adds ∙ ap (λ ns. ns ++ made first ∷ []) was ∙ ap (λ n. listed_nodes lists (take i placed) ++ made n ∷ []) counted
    ∙ sym (ap (listed_nodes lists) (take_more placed i x within ∙ ap (λ p. take i placed ++ p ∷ []) at) ∙ listed_push lists (take i placed) x)
  where
    made : ℕ → Node
    made n = record {
      parent = x.parent;
      value = x.value;
      first = n;
    }

pub row_counted : (lists : List (List (ℕ × ℕ))) (placed : List Placed) (i first : ℕ) (x : Placed) (kids : List (ℕ × ℕ)) → i < length placed → get_or placed i x ≡ x → x.number < length lists → kids ≡ get_or lists x.number kids
    → first ≡ length (flat_map (λ (p : Placed). slice_index_or lists p.number []) (take i placed))
    → first + length kids ≡ length (flat_map (λ (p : Placed). slice_index_or lists p.number []) (take (i + 1) placed))
row_counted lists placed i first x kids within at known read counted =
    let more : length (flat_map own (take (i + 1) placed)) ≡ length (flat_map own (take i placed)) + length (own x) =
    ap (λ ps. length (flat_map own ps)) (take_more placed i x within ∙ ap (λ p. take i placed ++ p ∷ []) at)
    ∙ ap length (flat_map-append own (take i placed) (x ∷ []))
    ∙ length-append (flat_map own (take i placed)) (own x ++ [])
    ∙ ap (λ ks. length (flat_map own (take i placed)) + length ks) (append-nil (own x)) in
    let same : length (own x) ≡ length kids = ap length (sym (get_or_read lists x.number kids known read [])) in
    omega (arith, more, same, counted)
  where
    own : Placed → List (ℕ × ℕ)
    own p = slice_index_or lists p.number []

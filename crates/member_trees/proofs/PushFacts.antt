-- One leaf more: what becomes of the members by first appearance.
use Rattle.std.proofs.Common.{◌≡◌, refl, sym, ◌∙◌, ap, subst, inl, inr, ℕ, zero, suc, ◌+◌, ◌-◌, ◌<◌, ◌≤◌, List, [], ◌∷◌, ◌++◌, length, take, map, replicate, get_or, set, Bool, true, false, cond, ◌||◌, ◌&&◌, bytes_eq, nat_eq, arith, append-nil}
use Rattle.std.specs.List.{AllByRecursion as Each, list_any, position_or_len, range_with_len}
use Rattle.std.proofs.lemmas.Bool.Decides.{eqb_tells}
use Rattle.std.proofs.lemmas.List.{map-append, take-take, get_or-take, length_push, length-set, length-replicate, get_or-set_same, get_or-set_other, get_or_read}
use Rattle.std.proofs.lemmas.List.Elements.{All-push}
use Rattle.std.proofs.lemmas.List.Folds.{list_any-append}
use Rattle.std.proofs.lemmas.List.FromFn.{fill_by_all, get_or-map-range_with_len}
use Rattle.indexmap.specs.IndexSet.{insert_key}
use Rattle.olap_meaning.proofs.Appearances.{appearances_push, any-same, first_at, none_at}
use Rattle.olap_meaning.specs.Catalog.{first_appearances}
use Rattle.olap_meaning.specs.declared.schema.TheConstants.{LEVEL_LIMIT, RECORD_LIMIT}
use Rattle.olap_meaning.proofs.Lists.{text_self}
use Rattle.member_trees.specs.Nodes.{last_value}
use Rattle.member_trees.specs.Numbered.{AreNumbered, pair_eq, fronts, number_in, members_below}
use Rattle.member_trees.specs.Trees.{AreWhole}
use Rattle.member_trees.proofs.Lists.{Each-weaker, map_same, any_same, position_same, position_kept}
use Rattle.member_trees.proofs.Fronts.{same_number, front_lengths, fronts_above, cut_length}
use Rattle.member_trees.proofs.RowFacts.{members_few}

-- one path more by first appearance: where it is not there yet
abbrev with_path : List (List ℕ) → List ℕ → List (List ℕ)
with_path paths path = paths ++ cond (list_any (bytes_eq path) paths) [] (path ∷ [])

fronts_push : (leaves : List (List ℕ)) (path : List ℕ) (d : ℕ) → fronts (leaves ++ path ∷ []) d ≡ with_path (fronts leaves d) (take d path)
fronts_push leaves path zero = refl
fronts_push leaves path (suc d) =
    ap first_appearances (map-append (take (suc d)) leaves (path ∷ [])) ∙ appearances_push cuts (take (suc d) path)
    ∙ ap (λ b. first_appearances cuts ++ cond b [] (take (suc d) path ∷ [])) (sym (any-same (bytes_eq (take (suc d) path)) cuts))
  where
    cuts : List (List ℕ)
    cuts = map (take (suc d)) leaves

equal_split : (d : ℕ) (y q : List ℕ) → length y ≡ suc d → length q ≡ suc d → (bytes_eq (take d y) (take d q) && nat_eq (get_or y d 0) (get_or q d 0)) ≡ bytes_eq y q
equal_split d [] q e f = absurd (omega (arith, e))
equal_split d (a ∷ ys) [] e f = absurd (omega (arith, f))
equal_split zero (a ∷ []) (b ∷ []) e f = by (nat_eq a b)
  where
    by : (c : Bool) → c ≡ (c && true)
    by true = refl
    by false = refl
equal_split zero (a ∷ x ∷ ys) (b ∷ qs) e f = absurd (omega (arith, e))
equal_split zero (a ∷ []) (b ∷ x ∷ qs) e f = absurd (omega (arith, f))
equal_split (suc d) (a ∷ ys) (b ∷ qs) e f = by (nat_eq a b) (equal_split d ys qs (omega (arith, e)) (omega (arith, f)))
  where
    by : (c : Bool) → (bytes_eq (take d ys) (take d qs) && nat_eq (get_or ys d 0) (get_or qs d 0)) ≡ bytes_eq ys qs
        → ((c && bytes_eq (take d ys) (take d qs)) && nat_eq (get_or ys d 0) (get_or qs d 0)) ≡ (c && bytes_eq ys qs)
    by true h = h
    by false h = refl

last_at : (d : ℕ) (q : List ℕ) → length q ≡ suc d → last_value q ≡ get_or q d 0
last_at d q e = let l : length q - 1 ≡ d = omega (arith, e) in ap (λ i. get_or q i 0) l

insert_by : (f : List ℕ → ℕ × ℕ) (paths : List (List ℕ)) (path : List ℕ) (b : Bool) → cond b (map f paths) (map f paths ++ f path ∷ []) ≡ map f (paths ++ cond b [] (path ∷ []))
insert_by f paths path true = ap (map f) (sym (append-nil paths))
insert_by f paths path false = sym (map-append f paths (path ∷ []))

-- where a function keeps apart a path and others, its value is inserted as the path is
insert-map : (f : List ℕ → ℕ × ℕ) (paths : List (List ℕ)) (path : List ℕ) → Each (λ q. pair_eq (f path) (f q) ≡ bytes_eq path q) paths → insert_key pair_eq (map f paths) (f path) ≡ map f (with_path paths path)
insert-map f paths path apart =
    ap (λ b. cond b (map f paths) (map f paths ++ f path ∷ [])) (any_same (bytes_eq path) (pair_eq (f path)) f paths apart) ∙ insert_by f paths path (list_any (bytes_eq path) paths)

number-with : (paths : List (List ℕ)) (path : List ℕ) → position_or_len (bytes_eq path) paths ≡ number_in (with_path paths path) path
number-with paths path = by (list_any (bytes_eq path) paths) refl
  where
    by : (b : Bool) → list_any (bytes_eq path) paths ≡ b → position_or_len (bytes_eq path) paths ≡ position_or_len (bytes_eq path) (paths ++ cond b [] (path ∷ []))
    by true e = sym (position_kept (bytes_eq path) paths [] e)
    by false e = none_at (bytes_eq path) paths e ∙ sym (first_at (bytes_eq path) paths [] path e (text_self path))

number-kept : (paths : List (List ℕ)) (path q : List ℕ) → list_any (bytes_eq q) paths ≡ true → number_in paths q ≡ number_in (with_path paths path) q
number-kept paths path q found = sym (position_kept (bytes_eq q) paths (cond (list_any (bytes_eq path) paths) [] (path ∷ [])) found)

found-kept : (paths : List (List ℕ)) (path q : List ℕ) → list_any (bytes_eq q) paths ≡ true → list_any (bytes_eq q) (with_path paths path) ≡ true
found-kept paths path q found =
    list_any-append (bytes_eq q) paths (cond (list_any (bytes_eq path) paths) [] (path ∷ [])) ∙ ap (λ b. b || list_any (bytes_eq q) (cond (list_any (bytes_eq path) paths) [] (path ∷ []))) found

-- a path one level below a depth as a member, by numbers among some paths
abbrev member_by : List (List ℕ) → ℕ → List ℕ → ℕ × ℕ
member_by paths d q = (number_in paths (take d q), last_value q)

apart : (paths : List (List ℕ)) (d : ℕ) (y q : List ℕ) → length y ≡ suc d → length q ≡ suc d → list_any (bytes_eq (take d q)) paths ≡ true → pair_eq (member_by paths d y) (member_by paths d q) ≡ bytes_eq y q
apart paths d y q e f found =
    ap (λ b. b && nat_eq (last_value y) (last_value q)) (same_number paths (take d y) (take d q) found)
    ∙ ap (λ i. bytes_eq (take d y) (take d q) && nat_eq i (last_value q)) (last_at d y e)
    ∙ ap (λ i. bytes_eq (take d y) (take d q) && nat_eq (get_or y d 0) i) (last_at d q f)
    ∙ equal_split d y q e f

both : {X : Type 0} (P Q R : X → Type 0) (xs : List X) → ((x : X) → P x → Q x → R x) → Each P xs → Each Q xs → Each R xs
both P Q R [] h e f = tt
both P Q R (x ∷ xs) h e f = (h x e.0 f.0, both P Q R xs h e.1 f.1)

-- the leaf as a member one level below a depth
abbrev pub key_at : List (List ℕ) → List ℕ → ℕ → ℕ × ℕ
key_at leaves path d = (number_in (fronts (leaves ++ path ∷ []) d) (take d path), get_or path d 0)

key_is : (n d : ℕ) (leaves : List (List ℕ)) (path : List ℕ) → length path ≡ n → suc d ≤ n → key_at leaves path d ≡ member_by (with_path (fronts leaves d) (take d path)) d (take (suc d) path)
key_is n d leaves path long within =
    ap (λ k. (k, get_or path d 0)) (ap (λ paths. number_in paths (take d path)) (fronts_push leaves path d) ∙ ap (number_in (with_path (fronts leaves d) (take d path))) (sym (take-take d (suc d) path le)))
    ∙ ap (λ v. (number_in (with_path (fronts leaves d) (take d path)) (take d (take (suc d) path)), v)) (sym (last_at d (take (suc d) path) (cut_length n (suc d) path within long) ∙ get_or-take (suc d) path d 0 lt))
  where
    le : d ≤ suc d
    le = omega arith

    lt : d < suc d
    lt = omega arith

-- the members so far, by the numbers that paths have with the leaf
members_by : (n d : ℕ) (leaves : List (List ℕ)) (path : List ℕ) → AreWhole n leaves → suc d ≤ n → members_below leaves d ≡ map (member_by (with_path (fronts leaves d) (take d path)) d) (fronts leaves (suc d))
members_by n d leaves path whole within =
    map_same (member_by (fronts leaves d) d) (member_by (with_path (fronts leaves d) (take d path)) d) (fronts leaves (suc d))
    (Each-weaker (λ q. list_any (bytes_eq (take d q)) (fronts leaves d) ≡ true) (λ q. member_by (fronts leaves d) d q ≡ member_by (with_path (fronts leaves d) (take d path)) d q)
    (λ q found. ap (λ k. (k, last_value q)) (number-kept (fronts leaves d) (take d path) (take d q) found)) (fronts leaves (suc d)) (fronts_above leaves d))

all_apart : (n d : ℕ) (leaves : List (List ℕ)) (path : List ℕ) → AreWhole n leaves → length path ≡ n → suc d ≤ n
    → Each (λ q. pair_eq (member_by (with_path (fronts leaves d) (take d path)) d (take (suc d) path)) (member_by (with_path (fronts leaves d) (take d path)) d q) ≡ bytes_eq (take (suc d) path) q) (fronts leaves (suc d))
all_apart n d leaves path whole long within =
    both (λ q. length q ≡ suc d) (λ q. list_any (bytes_eq (take d q)) (fronts leaves d) ≡ true)
    (λ q. pair_eq (member_by (with_path (fronts leaves d) (take d path)) d (take (suc d) path)) (member_by (with_path (fronts leaves d) (take d path)) d q) ≡ bytes_eq (take (suc d) path) q) (fronts leaves (suc d))
    (λ q e found. apart (with_path (fronts leaves d) (take d path)) d (take (suc d) path) q (cut_length n (suc d) path within long) e (found-kept (fronts leaves d) (take d path) (take d q) found))
    (front_lengths n (suc d) leaves whole within) (fronts_above leaves d)

-- the members with the leaf
pub members_push : (n d : ℕ) (leaves : List (List ℕ)) (path : List ℕ) → AreWhole n leaves → length path ≡ n → suc d ≤ n
    → insert_key pair_eq (members_below leaves d) (key_at leaves path d) ≡ members_below (leaves ++ path ∷ []) d
members_push n d leaves path whole long within =
    ap (insert_key pair_eq (members_below leaves d)) (key_is n d leaves path long within)
    ∙ ap (λ ms. insert_key pair_eq ms (member (take (suc d) path))) (members_by n d leaves path whole within)
    ∙ insert-map member (fronts leaves (suc d)) (take (suc d) path) (all_apart n d leaves path whole long within)
    ∙ ap (λ paths. map (member_by paths d) (with_path (fronts leaves (suc d)) (take (suc d) path))) (sym (fronts_push leaves path d))
    ∙ ap (map (member_by (fronts (leaves ++ path ∷ []) d) d)) (sym (fronts_push leaves path (suc d)))
  where
    member : List ℕ → ℕ × ℕ
    member = member_by (with_path (fronts leaves d) (take d path)) d

-- the number of the leaf's front in the next depth
pub number_push : (n d : ℕ) (leaves : List (List ℕ)) (path : List ℕ) → AreWhole n leaves → length path ≡ n → suc d ≤ n
    → position_or_len (pair_eq (key_at leaves path d)) (members_below leaves d) ≡ number_in (fronts (leaves ++ path ∷ []) (suc d)) (take (suc d) path)
number_push n d leaves path whole long within =
    ap (λ k. position_or_len (pair_eq k) (members_below leaves d)) (key_is n d leaves path long within)
    ∙ ap (position_or_len (pair_eq (member (take (suc d) path)))) (members_by n d leaves path whole within)
    ∙ position_same (bytes_eq (take (suc d) path)) (pair_eq (member (take (suc d) path))) member (fronts leaves (suc d)) (all_apart n d leaves path whole long within)
    ∙ number-with (fronts leaves (suc d)) (take (suc d) path)
    ∙ ap (λ paths. number_in paths (take (suc d) path)) (sym (fronts_push leaves path (suc d)))
  where
    member : List ℕ → ℕ × ℕ
    member = member_by (with_path (fronts leaves d) (take d path)) d

-- the levels while a leaf is numbered: those above a depth have it, the others not yet
pub record HasComeTo (leaves : List (List ℕ)) (path : List ℕ) (count d parent : ℕ) (levels : List (List (ℕ × ℕ))) : Type 0 where
  pub long : length levels ≡ count
  pub done : (k : ℕ) → k < d → get_or levels k [] ≡ members_below (leaves ++ path ∷ []) k
  pub rest : (k : ℕ) → d ≤ k → k < count → get_or levels k [] ≡ members_below leaves k
  pub parent_is : parent ≡ number_in (fronts (leaves ++ path ∷ []) d) (take d path)

pub come_none : (leaves : List (List ℕ)) (path : List ℕ) (levels : List (List (ℕ × ℕ))) → AreNumbered leaves levels → HasComeTo leaves path (length levels) 0 0 levels
come_none leaves path levels numbered = record {
  long = refl;
  done = λ k h. absurd (omega (arith, h));
  rest = λ k h l. ap (λ ls. get_or ls k []) numbered.levels_are ∙ get_or-map-range_with_len (members_below leaves) 0 (length levels) k k [] l (omega arith);
  parent_is = refl;
}

pub come_more : (leaves : List (List ℕ)) (path : List ℕ) (count d parent number : ℕ) (levels : List (List (ℕ × ℕ))) (old new : List (ℕ × ℕ)) → AreWhole count leaves → length path ≡ count → d < count
    → HasComeTo leaves path count d parent levels → old ≡ get_or levels d old → new ≡ insert_key pair_eq old (parent, get_or path d 0) → number ≡ position_or_len (pair_eq (parent, get_or path d 0)) old
    → HasComeTo leaves path count (d + 1) number (set levels d new)
come_more leaves path count d parent number levels old new whole length_is within come read inserted numbered = record {
  long = length-set levels d new ∙ come.long;
  done = λ k h. elim (eqb_tells k d) [
    | inl t ↦ (let P : ℕ → Type 0 = λ i. get_or (set levels d new) i [] ≡ members_below (leaves ++ path ∷ []) i in subst P (sym t.1) here)
    | inr t ↦ get_or-set_other levels d k new [] t.1 ∙ come.done k (let ne = t.1 in omega (arith, h, ne))
  ];
  rest = λ k h l. get_or-set_other levels d k new [] (λ e. omega (arith, h, e)) ∙ come.rest k (omega (arith, h)) l;
  parent_is =
      numbered ∙ ap (λ k. position_or_len (pair_eq (k, get_or path d 0)) old) come.parent_is ∙ ap (position_or_len (pair_eq (key_at leaves path d))) was
      ∙ number_push count d leaves path whole length_is (omega (arith, within)) ∙ ap (λ i. number_in (fronts (leaves ++ path ∷ []) i) (take i path)) (let e : suc d ≡ d + 1 = omega arith in e);
}
  where
    within_levels : d < length levels
    within_levels = let l = come.long in omega (arith, l, within)

    was : old ≡ members_below leaves d
    was = get_or_read levels d old within_levels read [] ∙ come.rest d (omega arith) within

    here : get_or (set levels d new) d [] ≡ members_below (leaves ++ path ∷ []) d
    here =
        get_or-set_same levels d new [] within_levels ∙ inserted ∙ ap (λ ms. insert_key pair_eq ms (parent, get_or path d 0)) was
        ∙ ap (λ k. insert_key pair_eq (members_below leaves d) (k, get_or path d 0)) come.parent_is ∙ members_push count d leaves path whole length_is (omega (arith, within))

-- there is room for one more member
pub come_few : (leaves : List (List ℕ)) (path : List ℕ) (count d parent : ℕ) (levels : List (List (ℕ × ℕ))) (old : List (ℕ × ℕ)) → d < count → HasComeTo leaves path count d parent levels
    → old ≡ get_or levels d old → length old ≤ length leaves
come_few leaves path count d parent levels old within come read =
    let l = come.long in
    let was : length old ≡ length (members_below leaves d) = ap length (get_or_read levels d old (omega (arith, l, within)) read [] ∙ come.rest d (omega arith) within) in
    let few = members_few leaves d in
    omega (arith, was, few)

pub come_all : (leaves : List (List ℕ)) (path : List ℕ) (before levels : List (List (ℕ × ℕ))) (d parent : ℕ) → AreNumbered leaves before → length path ≡ length before → length leaves < RECORD_LIMIT
    → length path ≤ d → HasComeTo leaves path (length before) d parent levels → AreNumbered (leaves ++ path ∷ []) levels
come_all leaves path before levels d parent numbered length_is room end come = record {
  whole = (let P : ℕ → Type 0 = λ n. AreWhole n (leaves ++ path ∷ []) in subst P (sym come.long) (All-push (λ leaf. length leaf ≡ length before) leaves path numbered.whole length_is));
  few_levels = (let l = come.long in let few = numbered.few_levels in omega (arith, l, few));
  few_leaves = (let l = length_push leaves path in omega (arith, l, room));
  levels_are = fill_by_all (members_below (leaves ++ path ∷ [])) levels (length levels) [] refl (λ k h. come.done k (let l = come.long in omega (arith, h, l, end, length_is)));
}

no_members : (a n : ℕ) → replicate n [] ≡ map (members_below []) (range_with_len a n)
no_members a zero = refl
no_members a (suc n) = ap (λ ls. [] ∷ ls) (no_members (a + 1) n)

-- levels with no member are those of no leaf
pub numbered_none : (n : ℕ) (leaves : List (List ℕ)) (levels : List (List (ℕ × ℕ))) → n ≤ LEVEL_LIMIT → leaves ≡ [] → levels ≡ replicate n [] → AreNumbered leaves levels
numbered_none n leaves levels few none empty =
    let P : List (List ℕ) → Type 0 = λ ls. AreNumbered ls levels in
    subst P (sym none) (record {
      whole = λ k d h. absurd (omega (arith, h));
      few_levels = omega (arith, long, few);
      few_leaves = omega arith;
      levels_are = empty ∙ no_members 0 n ∙ ap (λ k. map (members_below []) (range_with_len 0 k)) (sym long);
    })
  where
    long : length levels ≡ n
    long = ap length empty ∙ length-replicate n []

-- The paths one level below a path: each is the path and one value more, and a value that none of them ends with leads
-- to no leaf.
use Rattle.std.proofs.Common.{◌≡◌, refl, sym, ◌∙◌, ap, ℕ, suc, ◌+◌, ◌-◌, ◌<◌, ◌≤◌, List, [], ◌∷◌, ◌++◌, length, take, map, get_or, filter, Bool, true, false, cond, not, All, bytes_eq, nat_eq, arith, length-append, length-take, take_at, eqb-true, eq-eqb, add-one}
use Rattle.std.specs.List.{starts_with, list_any}
use Rattle.std.proofs.lemmas.Bool.{false_from_ne_true, true≢false, or_parts}
use Rattle.std.proofs.lemmas.List.{take_more, get_or_push, append_assoc, take-take}
use Rattle.std.proofs.lemmas.List.Elements.{All-nil, All-cons, All-head, All-tail, All-filter, All-weaker}
use Rattle.std.proofs.lemmas.List.Folds.{list_any_none}
use Rattle.std.proofs.lemmas.Slice.Eq.{bytes_eq-Decides}
use Rattle.olap_meaning.specs.Catalog.{first_appearances}
use Rattle.olap_meaning.proofs.Appearances.{any-same}
use Rattle.olap_meaning.specs.Catalog.{below}
use Rattle.member_trees.specs.Trees.{AreWhole}
use Rattle.member_trees.specs.Nodes.{last_value}

-- whether a leaf begins with a path
abbrev pub begins : List ℕ → List ℕ → Bool
begins leaf path = starts_with nat_eq leaf path

-- a leaf's front of one value more than a path has
abbrev pub cut : List ℕ → List ℕ → List ℕ
cut path leaf = take (suc (length path)) leaf

-- whether a front has one value more than a path
abbrev pub is_next : List ℕ → List ℕ → Bool
is_next path front = nat_eq (length front) (suc (length path))

pub front_of : (leaf path : List ℕ) → begins leaf path ≡ true → path ≡ take (length path) leaf
front_of leaf path h = (bytes_eq-Decides path (take (length path) leaf)).0 h

pub begins_from : (leaf path : List ℕ) → path ≡ take (length path) leaf → begins leaf path ≡ true
begins_from leaf path h = (bytes_eq-Decides path (take (length path) leaf)).1 h

pub All-appearances : (P : List ℕ → Type 0) (xs : List (List ℕ)) → All P xs → All P (first_appearances xs)
All-appearances P [] h = All-nil P
All-appearances P (x ∷ xs) h =
    All-cons P x (filter (λ other. not (bytes_eq x other)) (first_appearances xs)) (All-head P x xs h)
    (All-filter (λ other. not (bytes_eq x other)) P (first_appearances xs) (All-appearances P xs (All-tail P x xs h)))

-- what holds of what a filter, a map and a filter leave
All-kept : {A B : Type 0} (Q : A → Type 0) (P : B → Type 0) (t : A → Bool) (f : A → B) (u : B → Bool) → ((x : A) → Q x → t x ≡ true → u (f x) ≡ true → P (f x)) → (xs : List A) → All Q xs → All P (filter u (map f (filter t xs)))
All-kept Q P t f u given [] all = All-nil P
All-kept {A} {B} Q P t f u given (x ∷ xs) all = by (All-kept Q P t f u given xs (All-tail Q x xs all)) (t x) refl
  where
    by-u : All P (filter u (map f (filter t xs))) → t x ≡ true → (b : Bool) → u (f x) ≡ b → All P (cond b (f x ∷ filter u (map f (filter t xs))) (filter u (map f (filter t xs))))
    by-u rest e true e' = All-cons P (f x) (filter u (map f (filter t xs))) (given x (All-head Q x xs all) e e') rest
    by-u rest e false e' = rest

    by : All P (filter u (map f (filter t xs))) → (b : Bool) → t x ≡ b → All P (filter u (map f (cond b (x ∷ filter t xs) (filter t xs))))
    by rest true e = by-u rest e (u (f x)) refl
    by rest false e = rest

-- what holds of each front of a leaf that goes on from a path holds of each path below it
pub All-below : (Q P : List ℕ → Type 0) (leaves : List (List ℕ)) (path : List ℕ) → All Q leaves → ((leaf : List ℕ) → Q leaf → begins leaf path ≡ true → length (cut path leaf) ≡ suc (length path) → P (cut path leaf)) → All P (below leaves path)
All-below Q P leaves path all given =
    All-appearances P (filter (is_next path) (map (cut path) (filter (λ leaf. begins leaf path) leaves)))
    (All-kept Q P (λ leaf. begins leaf path) (cut path) (is_next path) (λ leaf q e e'. given leaf q e (eqb-true (length (cut path leaf)) (suc (length path)) e')) leaves all)

pub last_push : (path : List ℕ) (value : ℕ) → last_value (path ++ value ∷ []) ≡ value
last_push path value =
    let n : length (path ++ value ∷ []) ≡ length path + 1 = length-append path (value ∷ []) in
    get_or_push path value 0 (length (path ++ value ∷ []) - 1) (omega arith)

-- a path below another is it and one value more
pub shape : (leaves : List (List ℕ)) (path : List ℕ) → All (λ next. next ≡ path ++ last_value next ∷ []) (below leaves path)
shape leaves path = All-below (λ _. Unit {0}) (λ next. next ≡ path ++ last_value next ∷ []) leaves path (λ _ _ _. tt) (λ leaf _ e long. one leaf e long)
  where
    one : (leaf : List ℕ) → begins leaf path ≡ true → length (cut path leaf) ≡ suc (length path) → cut path leaf ≡ path ++ last_value (cut path leaf) ∷ []
    one leaf e long =
        let in' : length path < length leaf = omega (arith, long, length-take (suc (length path)) leaf) in
        let more : take (suc (length path)) leaf ≡ take (length path) leaf ++ get_or leaf (length path) 0 ∷ [] = rw (← add-one) (take_more leaf (length path) 0 in') in
        let is : cut path leaf ≡ path ++ get_or leaf (length path) 0 ∷ [] = more ∙ ap (λ p. p ++ get_or leaf (length path) 0 ∷ []) (sym (front_of leaf path e)) in
        is ∙ ap (λ v. path ++ v ∷ []) (sym (ap last_value is ∙ last_push path (get_or leaf (length path) 0)))

-- and so it is longer by one
pub long_below : (leaves : List (List ℕ)) (path : List ℕ) → All (λ next. length next ≡ suc (length path)) (below leaves path)
long_below leaves path = All-below (λ _. Unit {0}) (λ next. length next ≡ suc (length path)) leaves path (λ _ _ _. tt) (λ leaf _ e long. long)

nothing : {A : Type 0} (xs : List A) → All (λ _. ⊥) xs → xs ≡ []
nothing [] h = refl
nothing (x ∷ xs) h = absurd (All-head (λ _. ⊥) x xs h)

-- a path with a value in each level has nothing below
pub none_past : (leaves : List (List ℕ)) (levels : ℕ) (path : List ℕ) → AreWhole levels leaves → levels ≤ length path → below leaves path ≡ []
none_past leaves levels path whole h =
    nothing (below leaves path)
    (All-below (λ leaf. length leaf ≡ levels) (λ _. ⊥) leaves path whole (λ leaf q e long. omega (arith, q, long, length-take (suc (length path)) leaf)))

none_kept : {A B : Type 0} (t g : A → Bool) (f : A → B) (u e : B → Bool) → ((x : A) → g x ≡ true → (t x ≡ true) × (u (f x) ≡ true) × (e (f x) ≡ true)) → (xs : List A) → list_any e (filter u (map f (filter t xs))) ≡ false → filter g xs ≡ []
none_kept t g f u e given [] h = refl
none_kept {A} {B} t g f u e given (x ∷ xs) h = by (none_kept t g f u e given xs) (g x) refl
  where
    rest-u : (b : Bool) → list_any e (cond b (f x ∷ filter u (map f (filter t xs))) (filter u (map f (filter t xs)))) ≡ false → list_any e (filter u (map f (filter t xs))) ≡ false
    rest-u true k = (or_parts (e (f x)) (list_any e (filter u (map f (filter t xs)))) k).1
    rest-u false k = k

    rest : (b : Bool) → list_any e (filter u (map f (cond b (x ∷ filter t xs) (filter t xs)))) ≡ false → list_any e (filter u (map f (filter t xs))) ≡ false
    rest true k = rest-u (u (f x)) k
    rest false k = k

    not_here : t x ≡ true → u (f x) ≡ true → e (f x) ≡ true → list_any e (filter u (map f (filter t (x ∷ xs)))) ≡ false → ⊥
    not_here p q r k =
        let first : list_any e (cond true (f x ∷ filter u (map f (filter t xs))) (filter u (map f (filter t xs)))) ≡ false =
        sym (ap (λ c. list_any e (cond c (f x ∷ filter u (map f (filter t xs))) (filter u (map f (filter t xs))))) q)
        ∙ sym (ap (λ c. list_any e (filter u (map f (cond c (x ∷ filter t xs) (filter t xs))))) p) ∙ k in
        absurd (true≢false (sym r ∙ (or_parts (e (f x)) (list_any e (filter u (map f (filter t xs)))) first).0))

    by : (list_any e (filter u (map f (filter t xs))) ≡ false → filter g xs ≡ []) → (b : Bool) → g x ≡ b → filter g (x ∷ xs) ≡ []
    by next true k = let all = given x k in absurd (not_here all.0 all.1 all.2 h)
    by next false k = ap (λ b. cond b (x ∷ filter g xs) (filter g xs)) k ∙ next (rest (t x) h)

-- where no path below another ends with a value, nothing goes on from there
pub none_beyond : (leaves : List (List ℕ)) (path : List ℕ) (value : ℕ) (rest : List ℕ) → All (λ next. last_value next ≡ value → ⊥) (below leaves path) → below leaves (path ++ value ∷ rest) ≡ []
none_beyond leaves path value rest none =
    ap (λ kept. first_appearances (filter (is_next far) (map (cut far) kept)))
    (none_kept (λ leaf. begins leaf path) (λ leaf. begins leaf far) (cut path) (is_next path) (bytes_eq next) leads leaves
    (sym (any-same (bytes_eq next) (filter (is_next path) (map (cut path) (filter (λ leaf. begins leaf path) leaves)))) ∙ absent))
  where
    next : List ℕ
    next = path ++ value ∷ []

    far : List ℕ
    far = path ++ value ∷ rest

    absent : list_any (bytes_eq next) (below leaves path) ≡ false
    absent = list_any_none (bytes_eq next) (below leaves path) (All-weaker (λ other. last_value other ≡ value → ⊥) (λ other. bytes_eq next other ≡ false) (λ other differs. false_from_ne_true (bytes_eq next other) (λ same. differs (ap last_value (sym ((bytes_eq-Decides next other).0 same)) ∙ last_push path value))) (below leaves path) none)

    leads : (leaf : List ℕ) → begins leaf far ≡ true → (begins leaf path ≡ true) × (is_next path (cut path leaf) ≡ true) × (bytes_eq next (cut path leaf) ≡ true)
    leads leaf e =
        let len : length far ≡ length path + suc (length rest) = length-append path (value ∷ rest) in
        let front : far ≡ take (length far) leaf = front_of leaf far e in
        let cut-is : cut path leaf ≡ next = sym (take-take (suc (length path)) (length far) leaf (omega arith)) ∙ ap (take (suc (length path))) (sym front) ∙ ap (take (suc (length path))) (sym (append_assoc path (value ∷ []) rest)) ∙ take_at next rest (suc (length path)) (length-append path (value ∷ []) ∙ omega arith) in
        let path-is : path ≡ take (length path) leaf = sym (take_at path (value ∷ rest) (length path) refl) ∙ ap (take (length path)) front ∙ take-take (length path) (length far) leaf (omega arith) in (
          begins_from leaf path path-is,
          eq-eqb (length (cut path leaf)) (suc (length path)) (ap length cut-is ∙ length-append path (value ∷ []) ∙ omega arith),
          (bytes_eq-Decides next (cut path leaf)).1 (sym cut-is),
        )

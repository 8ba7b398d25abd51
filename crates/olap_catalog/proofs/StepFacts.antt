-- What a name means below a path: by the first test that passes, as the members' names give it.
use Rattle.std.proofs.Common.{inl, inr, ◌⊎◌, ◌≡◌, ◌∙◌, ◌<◌, ◌≤◌, ◌&&◌, ◌++◌, ℕ, suc, Bool, true, false, cond, List, [], ◌∷◌, Option, Some, None, refl, sym, ap, map, option_map, option_and_then, unwrap_or, slice_get, get_or, length, nat_lt, bytes_eq, position, ok_or, arith, if◌then◌else◌}
use Rattle.std.specs.List.{find, position_or_len}
use Rattle.std.specs.Option.{option_or, option_map_or}
use Rattle.std.proofs.lemmas.Bool.Decides.{nat_tests}
use Rattle.std.proofs.lemmas.List.{length-map}
use Rattle.std.proofs.lemmas.List.Folds.{find-append, find_at}
use Rattle.std.proofs.lemmas.Option.{slice_get_past, slice_get_cases}
use Rattle.olap_meaning.specs.declared.tables.Hierarchy.{Hierarchy}
use Rattle.olap_meaning.specs.declared.tables.Catalog.{Catalog}
use Rattle.olap_meaning.specs.declared.cells.Member.{Member}
use Rattle.olap_meaning.specs.declared.cells.Member.TheVariants as member
use Rattle.olap_meaning.specs.History.{is_some_and}
use Rattle.olap_meaning.specs.Catalog.{paths, below, paths_below, values, all_member, members_with, member_name, named}
use Rattle.member_trees.specs.Nodes.{last_value}
use Rattle.member_trees.proofs.Below.{shape}
use Rattle.member_trees.proofs.RowsByPlace.{map-map, map-fixed}
use Rattle.olap_catalog.specs.declared.members.Below.{Below}
use Rattle.olap_catalog.specs.declared.members.Below.TheVariants as below
use Rattle.catalog_tables.specs.Names.{is_but_case}
use Rattle.olap_meaning.specs.Catalog.{all_text}
use Rattle.olap_meaning.proofs.Lists.{find-map}
use Rattle.olap_catalog.specs.Members.{child_values, child_text, all_by, below_by, members_below, spot, onward}
use Rattle.catalog_tables.proofs.SeenFacts.{position-map}
use Rattle.catalog_tables.proofs.FieldFacts.{position_within}
use Rattle.olap_catalog.proofs.PartFacts.{item_behind, length_snoc}

-- the member that stands below a path
abbrev pub below_member : ℕ → List ℕ → Below → Member
below_member h path below.All = member.All h
below_member h path (below.Child value) = member.At h (path ++ value ∷ [])

-- the paths below a path are the path with each of their last values
lasts_are : (leaves : List (List ℕ)) (path : List ℕ) → below leaves path ≡ map (λ v. path ++ v ∷ []) (map last_value (below leaves path))
lasts_are leaves path = sym (map-map last_value (λ v. path ++ v ∷ []) (below leaves path) ∙ map-fixed (λ next. path ++ last_value next ∷ []) (below leaves path) (shape leaves path))

-- the first path below a path that passes a test
find_path : (catalog : Catalog) (hierarchy : Hierarchy) (path : List ℕ) (t : List ℕ → Bool) → find t (paths_below catalog hierarchy path) ≡ option_map (λ v. path ++ v ∷ []) (find (λ v. t (path ++ v ∷ [])) (map last_value (paths_below catalog hierarchy path)))
find_path catalog hierarchy path t =
    ap (find t) (lasts_are (paths catalog hierarchy) path) ∙ find-map t (λ v. path ++ v ∷ []) (map last_value (paths_below catalog hierarchy path))

-- the name of a path's child
child_named : (catalog : Catalog) (cube h : ℕ) (path : List ℕ) (v : ℕ) → member_name catalog cube (member.At h (path ++ v ∷ [])) ≡ child_text catalog h path v
child_named catalog cube h [] v = refl
child_named catalog cube h (x ∷ xs) v =
    ap (λ n. unwrap_or (option_and_then (λ (hierarchy : Hierarchy). option_and_then (λ column. option_and_then (slice_get (values catalog column)) (slice_get (x ∷ (xs ++ v ∷ [])) n)) (slice_get hierarchy.levels n)) (slice_get catalog.hierarchies h)) []) (length_snoc xs v)
    ∙ ap (λ o. unwrap_or (option_and_then (λ (hierarchy : Hierarchy). option_and_then (λ column. option_and_then (slice_get (values catalog column)) o) (slice_get hierarchy.levels (suc (length xs)))) (slice_get catalog.hierarchies h)) []) (item_behind xs [] v)

-- the first member below a path whose name passes a test
pub find_below : (catalog : Catalog) (cube h : ℕ) (with_all : Bool) (path : List ℕ) (test : List ℕ → Bool) →
    find (λ m. test (member_name catalog cube m)) (members_below catalog h with_all path) ≡ option_map (below_member h path) (below_by test catalog h with_all path)
find_below catalog cube h with_all path test =
    find-append (λ m. test (member_name catalog cube m)) (if with_all then all_member catalog h else []) (members_with catalog h (λ hierarchy. paths_below catalog hierarchy path))
    ∙ ap (λ o. option_or o (find (λ m. test (member_name catalog cube m)) (members_with catalog h (λ hierarchy. paths_below catalog hierarchy path)))) (alls with_all)
    ∙ ap (λ o. option_or (option_map (below_member h path) (all_by test catalog h with_all)) o) children
    ∙ joined (all_by test catalog h with_all) (option_map below.Child (find (λ v. test (child_text catalog h path v)) (child_values catalog h path)))
  where
    joined : (a b : Option Below) → option_or (option_map (below_member h path) a) (option_map (below_member h path) b) ≡ option_map (below_member h path) (option_or a b)
    joined None b = refl
    joined (Some x) b = refl

    alls : (w : Bool) → find (λ m. test (member_name catalog cube m)) (if w then all_member catalog h else []) ≡ option_map (below_member h path) (all_by test catalog h w)
    alls false = refl
    alls true = by (all_text catalog h) refl
      where
        by : (o : Option (List ℕ)) → all_text catalog h ≡ o → find (λ m. test (member_name catalog cube m)) (all_member catalog h) ≡ option_map (below_member h path) (all_by test catalog h true)
        by None e =
            ap (λ x. find (λ m. test (member_name catalog cube m)) (option_map_or (λ name. member.All h ∷ []) x [])) e
            ∙ sym (ap (λ x. option_map (below_member h path) (if true && is_some_and test x then Some below.All else None)) e)
        by (Some name) e =
            ap (λ x. find (λ m. test (member_name catalog cube m)) (option_map_or (λ name. member.All h ∷ []) x [])) e
            ∙ ap (λ x. cond (test (unwrap_or x [])) (Some (member.All h)) None) e ∙ passed (test name)
            ∙ sym (ap (λ x. option_map (below_member h path) (if true && is_some_and test x then Some below.All else None)) e)
          where
            passed : (b : Bool) → cond b (Some (member.All h)) None ≡ option_map (below_member h path) (if true && b then Some below.All else None)
            passed true = refl
            passed false = refl

    congruent : {A : Type 0} (p q : A → Bool) (xs : List A) → ((x : A) → p x ≡ q x) → find p xs ≡ find q xs
    congruent p q [] same = refl
    congruent p q (x ∷ xs) same = ap (λ b. cond b (Some x) (find p xs)) (same x) ∙ ap (λ o. cond (q x) (Some x) o) (congruent p q xs same)

    twice : (o : Option ℕ) → option_map (member.At h) (option_map (λ v. path ++ v ∷ []) o) ≡ option_map (below_member h path) (option_map below.Child o)
    twice None = refl
    twice (Some v) = refl

    of_hierarchy : (o : Option Hierarchy) → find (λ m. test (member_name catalog cube m)) (map (member.At h) (option_map_or (λ hierarchy. paths_below catalog hierarchy path) o []))
        ≡ option_map (below_member h path) (option_map below.Child (find (λ v. test (child_text catalog h path v)) (option_map_or (λ hierarchy. map last_value (paths_below catalog hierarchy path)) o [])))
    of_hierarchy None = refl
    of_hierarchy (Some hierarchy) =
        find-map (λ m. test (member_name catalog cube m)) (member.At h) (paths_below catalog hierarchy path)
        ∙ ap (option_map (member.At h)) (find_path catalog hierarchy path (λ p. test (member_name catalog cube (member.At h p)))
        ∙ ap (option_map (λ v. path ++ v ∷ [])) (congruent (λ v. test (member_name catalog cube (member.At h (path ++ v ∷ [])))) (λ v. test (child_text catalog h path v)) (map last_value (paths_below catalog hierarchy path)) (λ v. ap test (child_named catalog cube h path v))))
        ∙ twice (find (λ v. test (child_text catalog h path v)) (map last_value (paths_below catalog hierarchy path)))

    children : find (λ m. test (member_name catalog cube m)) (members_with catalog h (λ hierarchy. paths_below catalog hierarchy path))
        ≡ option_map (below_member h path) (option_map below.Child (find (λ v. test (child_text catalog h path v)) (child_values catalog h path)))
    children = of_hierarchy (slice_get catalog.hierarchies h)

-- the item at the place that passes first is the first that passes
at_first : {A B : Type 0} (p : B → Bool) (f : A → B) (xs : List A) → option_and_then (slice_get xs) (position p (map f xs)) ≡ find (λ x. p (f x)) xs
at_first {A} p f xs =
    ap (option_and_then (slice_get xs)) (position-map f p xs) ∙ by (nat_lt n (length xs)) refl ∙ sym (find_at (λ x. p (f x)) xs)
  where
    n : ℕ
    n = position_or_len (λ x. p (f x)) xs

    by : (b : Bool) → nat_lt n (length xs) ≡ b → option_and_then (slice_get xs) (cond b (Some n) None) ≡ slice_get xs n
    by true e = refl
    by false e = sym (slice_get_past xs n (past n (length xs) e))
      where
        past : (a b : ℕ) → nat_lt a b ≡ false → b ≤ a
        past a b h = grind (arith, nat_tests)

-- a name among members: the first with exactly this name, or else the first with it except for case
pub named_is : (catalog : Catalog) (cube : ℕ) (members : List Member) (name : List ℕ) →
    named catalog cube members name ≡ ok_or (option_or (find (λ m. bytes_eq name (member_name catalog cube m)) members) (find (λ m. is_but_case name (member_name catalog cube m)) members)) name
named_is catalog cube members name =
    ap (λ o. ok_or o name) (by (position (bytes_eq name) names) refl
    ∙ ap (λ o. option_or o (find (λ m. is_but_case name (member_name catalog cube m)) members)) (at_first (bytes_eq name) (member_name catalog cube) members))
  where
    names : List (List ℕ)
    names = map (member_name catalog cube) members

    like : option_and_then (slice_get members) (position (is_but_case name) names) ≡ find (λ m. is_but_case name (member_name catalog cube m)) members
    like = at_first (is_but_case name) (member_name catalog cube) members

    count : length names ≡ length members
    count = length-map members (member_name catalog cube)

    by : (o : Option ℕ) → position (bytes_eq name) names ≡ o → option_and_then (slice_get members) (option_or o (position (is_but_case name) names))
        ≡ option_or (option_and_then (slice_get members) o) (find (λ m. is_but_case name (member_name catalog cube m)) members)
    by None e = like
    by (Some i) e = found (slice_get members i) refl
      where
        within : i < length members
        within = let w = position_within (bytes_eq name) names i e in omega (arith, count)

        found : (o : Option Member) → slice_get members i ≡ o → o ≡ option_or o (find (λ m. is_but_case name (member_name catalog cube m)) members)
        found None none = absurd (outside (slice_get_cases members i).1)
          where
            outside : ((x : Member) × (i < length members) × (slice_get members i ≡ Some x) × (get_or members i x ≡ x)) ⊎ ((length members ≤ i) × (slice_get members i ≡ None)) → ⊥
            outside (inl here) = let k : Some here.0 ≡ None = sym here.2 ∙ none in cc k
            outside (inr past) = omega (arith, past.0, within)
        found (Some m) some = refl

-- the path of what stands below a path leads to its member
pub onward_spot : (h : ℕ) (path : List ℕ) (b : Below) → (b ≡ below.All → path ≡ []) → below_member h path b ≡ spot h (onward path b)
onward_spot h path below.All top = sym (ap (spot h) (top refl))
onward_spot h [] (below.Child v) top = refl
onward_spot h (x ∷ xs) (below.Child v) top = refl

-- the all member is found only where it was asked for
all_asked : (test : List ℕ → Bool) (catalog : Catalog) (h : ℕ) (path : List ℕ) → below_by test catalog h false path ≡ Some below.All → ⊥
all_asked test catalog h path e = by (find (λ value. test (child_text catalog h path value)) (child_values catalog h path)) e
  where
    by : (o : Option ℕ) → option_map below.Child o ≡ Some below.All → ⊥
    by None k = cc k
    by (Some v) k = cc k

-- what a name means below a path
pub step_is : (catalog : Catalog) (cube h : ℕ) (with_all : Bool) (path name : List ℕ) (found : Option Below) → (with_all ≡ true → path ≡ [])
    → found ≡ option_or (below_by (bytes_eq name) catalog h with_all path) (below_by (is_but_case name) catalog h with_all path)
    → named catalog cube (members_below catalog h with_all path) name ≡ ok_or (option_map (λ b. spot h (onward path b)) found) name
step_is catalog cube h with_all path name found top is =
    named_is catalog cube (members_below catalog h with_all path) name
    ∙ ap (λ o. ok_or o name) (ap (λ o. option_or o (find (λ m. is_but_case name (member_name catalog cube m)) (members_below catalog h with_all path))) (find_below catalog cube h with_all path (bytes_eq name))
    ∙ ap (λ o. option_or (option_map (below_member h path) (below_by (bytes_eq name) catalog h with_all path)) o) (find_below catalog cube h with_all path (is_but_case name))
    ∙ joined (below_by (bytes_eq name) catalog h with_all path) (below_by (is_but_case name) catalog h with_all path) ∙ ap (option_map (below_member h path)) (sym is) ∙ spots found is)
  where
    joined : (a b : Option Below) → option_or (option_map (below_member h path) a) (option_map (below_member h path) b) ≡ option_map (below_member h path) (option_or a b)
    joined None b = refl
    joined (Some x) b = refl

    asked : (w : Bool) → (w ≡ true → path ≡ []) → Some below.All ≡ option_or (below_by (bytes_eq name) catalog h w path) (below_by (is_but_case name) catalog h w path) → path ≡ []
    asked true t e = t refl
    asked false t e = absurd (by (below_by (bytes_eq name) catalog h false path) refl e)
      where
        by : (o : Option Below) → below_by (bytes_eq name) catalog h false path ≡ o → Some below.All ≡ option_or o (below_by (is_but_case name) catalog h false path) → ⊥
        by None own k = all_asked (is_but_case name) catalog h path (sym k)
        by (Some b) own k = all_asked (bytes_eq name) catalog h path (own ∙ sym k)

    spots : (o : Option Below) → o ≡ option_or (below_by (bytes_eq name) catalog h with_all path) (below_by (is_but_case name) catalog h with_all path) → option_map (below_member h path) o ≡ option_map (λ b. spot h (onward path b)) o
    spots None e = refl
    spots (Some b) e = ap (λ m. Some m) (onward_spot h path b (λ all. asked with_all top (ap (λ x. Some x) (sym all) ∙ e)))

-- A path of names, walked name by name.
use Rattle.std.proofs.Common.{inl, inr, ◌⊎◌, ◌≡◌, ◌∙◌, ◌+◌, ◌<◌, ◌≤◌, ℕ, true, false, List, [], ◌∷◌, Option, Some, None, Ok, Err, refl, sym, ap, drop, option_map, slice_get, get_or, length, ok_or, arith, length-drop}
use Rattle.std.specs.List.{find}
use Rattle.olap_meaning.specs.declared.tables.Catalog.{Catalog}
use Rattle.olap_meaning.specs.declared.cells.Member.{Member}
use Rattle.olap_meaning.specs.declared.cells.LevelRef.TheVariants.{Whole}
use Rattle.olap_meaning.specs.Catalog.{named, named_below, children, default_member, first_members, and_then}
use Rattle.olap_meaning.proofs.Lists.{drop_step}
use Rattle.olap_catalog.specs.declared.members.Below.{Below}
use Rattle.olap_catalog.specs.declared.fault.NameFault.{NameFault}
use Rattle.olap_catalog.specs.declared.fault.NameFault.TheVariants.{UnknownMember, OutOfMemory}
use Rattle.olap_catalog.specs.Members.{below_by, members_below, spot, onward, or_fault, from_root_or_fault}
use Rattle.olap_catalog.proofs.StepFacts.{below_member, find_below, onward_spot}

first_is : {A : Type 0} (xs : List A) → slice_get xs 0 ≡ find (λ x. true) xs
first_is [] = refl
first_is (x ∷ xs) = refl

-- the default member of a hierarchy
pub default_is : (catalog : Catalog) (cube h : ℕ) → default_member catalog cube (Whole h) ≡ option_map (below_member h []) (below_by (λ name. true) catalog h true [])
default_is catalog cube h = first_is (members_below catalog h true []) ∙ find_below catalog cube h true [] (λ name. true)

-- a path begins with its first name
cons_is : (path : List (List ℕ)) (name : List ℕ) → 0 < length path → name ≡ get_or path 0 name → path ≡ name ∷ drop 1 path
cons_is path name some at = drop_step path 0 name some at

-- what a path means from the default member of its hierarchy on
walk_is : (catalog : Catalog) (cube h : ℕ) (path : List (List ℕ)) (name : List ℕ) (first : Option Below) → 0 < length path → name ≡ get_or path 0 name → first ≡ below_by (λ n. true) catalog h true []
    → from_root_or_fault catalog cube (Whole h) path ≡ or_fault (and_then (named_below catalog cube (drop 1 path) (members_below catalog h true [])) (ok_or (option_map (below_member h []) first) name))
walk_is catalog cube h path name first some at is =
    ap (from_root_or_fault catalog cube (Whole h)) (cons_is path name some at)
    ∙ ap (λ o. or_fault (and_then (named_below catalog cube (drop 1 path) (members_below catalog h true [])) (ok_or o name))) (default_is catalog cube h ∙ ap (option_map (below_member h [])) (sym is))

-- without a default member the hierarchy's name has no match
pub no_default : (catalog : Catalog) (cube h : ℕ) (path : List (List ℕ)) (name : List ℕ) (fault : NameFault) (first : Option Below) → 0 < length path → name ≡ get_or path 0 name → first ≡ below_by (λ n. true) catalog h true [] → first ≡ None
    → (fault ≡ OutOfMemory) ⊎ (fault ≡ UnknownMember name) → (fault ≡ OutOfMemory) ⊎ (from_root_or_fault catalog cube (Whole h) path ≡ Err fault)
no_default catalog cube h path name fault first some at is none (inl memory) = inl memory
no_default catalog cube h path name fault first some at is none (inr unknown) =
    inr (walk_is catalog cube h path name first some at is
    ∙ ap (λ o. or_fault (and_then (named_below catalog cube (drop 1 path) (members_below catalog h true [])) (ok_or (option_map (below_member h []) o) name))) none ∙ ap (λ f. Err f) (sym unknown))

pub drop_past : {A : Type 0} (xs : List A) (i : ℕ) → length xs ≤ i → drop i xs ≡ []
drop_past xs i past = nothing (drop i xs) (omega (arith, length-drop i xs))
  where
    nothing : {A : Type 0} (ys : List A) → length ys ≤ 0 → ys ≡ []
    nothing [] h = refl
    nothing (y ∷ ys) h = absurd (omega arith)

-- a hierarchy's name alone means its default member
pub default_alone : (catalog : Catalog) (cube h : ℕ) (path : List (List ℕ)) (name : List ℕ) (first : Option Below) (b : Below) (top values : List ℕ) → 0 < length path → name ≡ get_or path 0 name → first ≡ below_by (λ n. true) catalog h true [] → first ≡ Some b
    → length path ≡ 1 → top ≡ [] → values ≡ onward top b → from_root_or_fault catalog cube (Whole h) path ≡ Ok (spot h values)
default_alone catalog cube h path name first b top values some at is there one empty added =
    walk_is catalog cube h path name first some at is
    ∙ ap (λ o. or_fault (and_then (named_below catalog cube (drop 1 path) (members_below catalog h true [])) (ok_or (option_map (below_member h []) o) name))) there
    ∙ ap (λ ns. or_fault (named_below catalog cube ns (members_below catalog h true []) (below_member h [] b))) (drop_past path 1 (omega arith))
    ∙ ap (λ m. Ok m) (onward_spot h [] b (λ e. refl)) ∙ ap (λ p. Ok (spot h (onward p b))) (sym empty) ∙ ap (λ p. Ok (spot h p)) (sym added)

-- and the default member is what it means
pub default_found : (catalog : Catalog) (cube h : ℕ) (m : Member) → from_root_or_fault catalog cube (Whole h) ([] ∷ []) ≡ Ok m → default_member catalog cube (Whole h) ≡ Some m
default_found catalog cube h m is = by (default_member catalog cube (Whole h)) refl is
  where
    by : (o : Option Member) → default_member catalog cube (Whole h) ≡ o → or_fault (and_then (named_below catalog cube [] (first_members catalog cube (Whole h))) (ok_or o [])) ≡ Ok m → default_member catalog cube (Whole h) ≡ Some m
    by None e this = absurd (cc this)
    by (Some x) e this = e ∙ cc this

-- the children of a member are what stands below its path
children_are : (catalog : Catalog) (h : ℕ) (path : List ℕ) → children catalog (spot h path) ≡ members_below catalog h false path
children_are catalog h [] = refl
children_are catalog h (x ∷ xs) = refl

-- one name more
pub walked : (catalog : Catalog) (cube h : ℕ) (members : List Member) (found : Member) (path : List (List ℕ)) (i : ℕ) (name : List ℕ) (longer : List ℕ) → i < length path → name ≡ get_or path i name → named catalog cube members name ≡ Ok (spot h longer)
    → named_below catalog cube (drop (i + 1) path) (children catalog (spot h longer)) (spot h longer) ≡ named_below catalog cube (drop i path) members found
walked catalog cube h members found path i name longer within at is =
    sym (ap (λ ns. named_below catalog cube ns members found) (drop_step path i name within at)
    ∙ ap (and_then (λ next. named_below catalog cube (drop (i + 1) path) (children catalog next) next)) is)

pub walked_below : (catalog : Catalog) (cube h : ℕ) (values : List ℕ) (path : List (List ℕ)) (i : ℕ) (name : List ℕ) (longer : List ℕ) → i < length path → name ≡ get_or path i name → named catalog cube (members_below catalog h false values) name ≡ Ok (spot h longer)
    → named_below catalog cube (drop (i + 1) path) (children catalog (spot h longer)) (spot h longer) ≡ named_below catalog cube (drop i path) (children catalog (spot h values)) (spot h values)
walked_below catalog cube h values path i name longer within at is =
    walked catalog cube h (children catalog (spot h values)) (spot h values) path i name longer within at (ap (λ ms. named catalog cube ms name) (children_are catalog h values) ∙ is)

-- a name without a match ends the walk
stopped : (catalog : Catalog) (cube : ℕ) (members : List Member) (found : Member) (path : List (List ℕ)) (i : ℕ) (name : List ℕ) → i < length path → name ≡ get_or path i name → named catalog cube members name ≡ Err name
    → named_below catalog cube (drop i path) members found ≡ Err name
stopped catalog cube members found path i name within at is =
    ap (λ ns. named_below catalog cube ns members found) (drop_step path i name within at) ∙ ap (and_then (λ next. named_below catalog cube (drop (i + 1) path) (children catalog next) next)) is

-- what the whole walk gives, where a default member is there
whole : (catalog : Catalog) (cube h : ℕ) (path : List (List ℕ)) (name : List ℕ) (first : Option Below) (b : Below) → 0 < length path → name ≡ get_or path 0 name → first ≡ below_by (λ n. true) catalog h true [] → first ≡ Some b
    → from_root_or_fault catalog cube (Whole h) path ≡ or_fault (named_below catalog cube (drop 1 path) (members_below catalog h true []) (below_member h [] b))
whole catalog cube h path name first b some at is there =
    walk_is catalog cube h path name first some at is
    ∙ ap (λ o. or_fault (and_then (named_below catalog cube (drop 1 path) (members_below catalog h true [])) (ok_or (option_map (below_member h []) o) name))) there

pub any_first : (path : List (List ℕ)) → 0 < length path → (name : List ℕ) × (name ≡ get_or path 0 name)
any_first [] some = absurd (omega arith)
any_first (x ∷ xs) some = (x, refl)

-- the first name after the hierarchy's has no match
pub stopped_first : (catalog : Catalog) (cube h : ℕ) (path : List (List ℕ)) (name : List ℕ) (fault : NameFault) (first : Option Below) (b : Below) (top : List ℕ) → 1 < length path → name ≡ get_or path 1 name → first ≡ below_by (λ n. true) catalog h true []
    → first ≡ Some b → top ≡ [] → (fault ≡ OutOfMemory) ⊎ ((fault ≡ UnknownMember name) × ((k : ℕ) → named catalog k (members_below catalog h true top) name ≡ Err name)) → (fault ≡ OutOfMemory) ⊎ (from_root_or_fault catalog cube (Whole h) path ≡ Err fault)
stopped_first catalog cube h path name fault first b top within at is there empty (inl memory) = inl memory
stopped_first catalog cube h path name fault first b top within at is there empty (inr unknown) =
    let start = any_first path (omega arith) in
    inr (whole catalog cube h path start.0 first b (omega arith) start.1 is there
    ∙ ap or_fault (stopped catalog cube (members_below catalog h true []) (below_member h [] b) path 1 name within at (ap (λ p. named catalog cube (members_below catalog h true p) name) (sym empty) ∙ unknown.1 cube)) ∙ ap (λ f. Err f) (sym unknown.0))

-- a later name has no match
pub stopped_later : (catalog : Catalog) (cube h : ℕ) (path : List (List ℕ)) (i : ℕ) (name : List ℕ) (values : List ℕ) (fault : NameFault) (first : Option Below) (b : Below) → i < length path → name ≡ get_or path i name → first ≡ below_by (λ n. true) catalog h true [] → first ≡ Some b
    → ((k : ℕ) (m : Member) → named_below catalog k (drop i path) (children catalog (spot h values)) (spot h values) ≡ named_below catalog k (drop 1 path) (members_below catalog h true []) m)
    → (fault ≡ OutOfMemory) ⊎ ((fault ≡ UnknownMember name) × ((k : ℕ) → named catalog k (members_below catalog h false values) name ≡ Err name)) → (fault ≡ OutOfMemory) ⊎ (from_root_or_fault catalog cube (Whole h) path ≡ Err fault)
stopped_later catalog cube h path i name values fault first b within at is there rest (inl memory) = inl memory
stopped_later catalog cube h path i name values fault first b within at is there rest (inr unknown) =
    let start = any_first path (omega arith) in
    inr (whole catalog cube h path start.0 first b (omega arith) start.1 is there
    ∙ ap or_fault (sym (rest cube (below_member h [] b)) ∙ stopped catalog cube (children catalog (spot h values)) (spot h values) path i name within at (ap (λ ms. named catalog cube ms name) (children_are catalog h values) ∙ unknown.1 cube))
    ∙ ap (λ f. Err f) (sym unknown.0))

-- all names were found
pub all_walked : (catalog : Catalog) (cube h : ℕ) (path : List (List ℕ)) (i : ℕ) (values : List ℕ) (first : Option Below) (b : Below) → 0 < length path → length path ≤ i → first ≡ below_by (λ n. true) catalog h true [] → first ≡ Some b
    → ((k : ℕ) (m : Member) → named_below catalog k (drop i path) (children catalog (spot h values)) (spot h values) ≡ named_below catalog k (drop 1 path) (members_below catalog h true []) m)
    → from_root_or_fault catalog cube (Whole h) path ≡ Ok (spot h values)
all_walked catalog cube h path i values first b some past is there rest =
    let start = any_first path some in
    whole catalog cube h path start.0 first b some start.1 is there
    ∙ ap or_fault (sym (rest cube (below_member h [] b)) ∙ ap (λ ns. named_below catalog cube ns (children catalog (spot h values)) (spot h values)) (drop_past path i past))

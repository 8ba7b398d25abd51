-- The children of a path, by the nodes of its hierarchy's tree.
use Rattle.std.proofs.Common.{◌≡◌, ◌∙◌, ◌<◌, ◌++◌, ℕ, true, List, [], ◌∷◌, Option, Some, None, All, refl, sym, ap, subst, map, option_map, option_and_then, unwrap_or, slice_get, length, get_or, nat_lt, arith}
use Rattle.std.proofs.lemmas.Bool.{and_parts}
use Rattle.std.specs.List.{AllByRecursion as Each}
use Rattle.std.specs.Option.{option_map_or}
use Rattle.std.proofs.lemmas.Bool.Decides.{nat_tests}
use Rattle.std.proofs.lemmas.Option.{slice_get_within, slice_get_read}
use Rattle.olap_meaning.specs.declared.tables.Column.{Column}
use Rattle.olap_meaning.specs.declared.tables.Hierarchy.{Hierarchy}
use Rattle.olap_meaning.specs.declared.tables.Catalog.{Catalog}
use Rattle.olap_meaning.specs.declared.cells.Member.TheVariants as member
use Rattle.olap_meaning.specs.Catalog.{first_appearances, field_texts, records, values, below, paths_below, children}
use Rattle.olap_meaning.specs.MemberOf.{IsMemberOf, is_path, level_columns}
use Rattle.member_trees.specs.declared.node.Node.{Node}
use Rattle.member_trees.specs.Nodes.{last_value}
use Rattle.member_trees.specs.Trees.{TreeOf}
use Rattle.member_trees.proofs.Below.{last_push}
use Rattle.olap_catalog.specs.Members.{child_text, child_values}
use Rattle.olap_catalog.specs.Parts.{tree_of}
use Rattle.olap_catalog.proofs.OwnFacts.{IsWhole, children_own, each_all}
use Rattle.olap_catalog.proofs.TreeFacts.{with_tree}

-- the paths of some nodes below a path
abbrev pub paths_of : List ℕ → List Node → List (List ℕ)
paths_of path nodes = map (λ node. path ++ node.value ∷ []) nodes

lasts : (path : List ℕ) (nodes : List Node) → map last_value (paths_of path nodes) ≡ map (λ node. node.value) nodes
lasts path [] = refl
lasts path (n ∷ ns) = ap (λ v. v ∷ map last_value (paths_of path ns)) (last_push path n.value) ∙ ap (λ vs. n.value ∷ vs) (lasts path ns)

-- the values of a path's children are those of the nodes below it
pub values_in_tree : (catalog : Catalog) (h : ℕ) (tree : TreeOf) (path : List ℕ) (nodes : List Node) → Some tree ≡ option_map (tree_of catalog) (slice_get catalog.hierarchies h) → paths_of path nodes ≡ below tree.leaves path
    → map (λ node. node.value) nodes ≡ child_values catalog h path
values_in_tree catalog h tree path nodes is are = sym (lasts path nodes) ∙ ap (map last_value) are ∙ by (slice_get catalog.hierarchies h) is
  where
    by : (o : Option Hierarchy) → Some tree ≡ option_map (tree_of catalog) o → map last_value (below tree.leaves path) ≡ option_map_or (λ hierarchy. map last_value (paths_below catalog hierarchy path)) o []
    by None e = absurd (cc e)
    by (Some x) e = let own : tree ≡ tree_of catalog x = cc e in ap (λ (t : TreeOf). map last_value (below t.leaves path)) own

-- without a hierarchy there are none
pub no_values : (catalog : Catalog) (h : ℕ) (path : List ℕ) → None ≡ option_map (tree_of catalog) (slice_get catalog.hierarchies h) → [] ≡ child_values catalog h path
no_values catalog h path is = by (slice_get catalog.hierarchies h) is
  where
    by : (o : Option Hierarchy) → None ≡ option_map (tree_of catalog) o → [] ≡ option_map_or (λ hierarchy. map last_value (paths_below catalog hierarchy path)) o []
    by None e = refl
    by (Some x) e = absurd (cc e)

each_of_map : {A B : Type 0} (P : B → Type 0) (f : A → B) (xs : List A) → Each P (map f xs) → Each (λ x. P (f x)) xs
each_of_map P f [] each = tt
each_of_map P f (x ∷ xs) each = (each.0, each_of_map P f xs each.1)

-- each of them is a member of the catalog
pub nodes_own : (catalog : Catalog) (h : ℕ) (tree : TreeOf) (path : List ℕ) (nodes : List Node) → IsWhole catalog → Some tree ≡ option_map (tree_of catalog) (slice_get catalog.hierarchies h) → paths_of path nodes ≡ below tree.leaves path
    → All (λ node. IsMemberOf catalog 0 (member.At h (path ++ node.value ∷ []))) nodes
nodes_own catalog h tree path nodes whole is are =
    let same : children catalog (member.At h path) ≡ map (member.At h) (paths_of path nodes) =
    sym (ap (map (member.At h)) are ∙ with_tree catalog h tree (λ x. paths_below catalog x path) (λ t. below t.leaves path) is (λ x. refl)) in
    let each : Each (IsMemberOf catalog 0) (map (member.At h) (paths_of path nodes)) = subst (Each (IsMemberOf catalog 0)) same (children_own catalog 0 (member.At h path) whole) in
    each_all (λ (node : Node). IsMemberOf catalog 0 (member.At h (path ++ node.value ∷ []))) nodes
    (each_of_map (λ p. IsMemberOf catalog 0 (member.At h p)) (λ (node : Node). path ++ node.value ∷ []) nodes (each_of_map (IsMemberOf catalog 0) (member.At h) (paths_of path nodes) each))

-- a path of some levels has a level for its last value, which is one of the column's
path_within : (catalog : Catalog) (levels path : List ℕ) (v : ℕ) → is_path catalog levels (path ++ v ∷ []) ≡ true → (length path < length levels) × ((column : ℕ) → slice_get levels (length path) ≡ Some column → v < length (values catalog column))
path_within catalog [] [] v own = absurd (cc own)
path_within catalog [] (x ∷ xs) v own = absurd (cc own)
path_within catalog (c ∷ levels) [] v own =
    let parts = and_parts (nat_lt v (length (values catalog c))) true own in
    (omega arith, λ (column : ℕ) at. let same : c ≡ column = cc at in subst (λ k. v < length (values catalog k)) same (less (length (values catalog c)) parts.0))
  where
    less : (n : ℕ) → nat_lt v n ≡ true → v < n
    less n e = grind (arith, nat_tests)
path_within catalog (c ∷ levels) (x ∷ xs) v own =
    let rest = path_within catalog levels xs v (and_parts (nat_lt x (length (values catalog c))) (is_path catalog levels (xs ++ v ∷ [])) own).1 in
    let within = rest.0 in
    (omega (arith, within), rest.1)

levels_are : (catalog : Catalog) (h : ℕ) (hierarchy : Hierarchy) → slice_get catalog.hierarchies h ≡ Some hierarchy → level_columns catalog h ≡ hierarchy.levels
levels_are catalog h hierarchy at = ap (λ o. option_map_or (λ (x : Hierarchy). x.levels) o []) at

-- the level of a path's child
pub child_level : (catalog : Catalog) (h : ℕ) (hierarchy : Hierarchy) (path : List ℕ) (v : ℕ) → IsMemberOf catalog 0 (member.At h (path ++ v ∷ [])) → slice_get catalog.hierarchies h ≡ Some hierarchy → length path < length hierarchy.levels
child_level catalog h hierarchy path v own at = (path_within catalog hierarchy.levels path v (ap (λ ls. is_path catalog ls (path ++ v ∷ [])) (sym (levels_are catalog h hierarchy at)) ∙ own.1)).0

-- the column of that level, as it was read
pub child_column : (catalog : Catalog) (h : ℕ) (hierarchy : Hierarchy) (path : List ℕ) (v column : ℕ) (levels : List ℕ) → IsMemberOf catalog 0 (member.At h (path ++ v ∷ [])) → slice_get catalog.hierarchies h ≡ Some hierarchy
    → levels ≡ hierarchy.levels → column ≡ get_or levels (length path) column → slice_get hierarchy.levels (length path) ≡ Some column
child_column catalog h hierarchy path v column levels own at are read =
    slice_get_read hierarchy.levels (length hierarchy.levels) (length path) column refl (child_level catalog h hierarchy path v own at) (read ∙ ap (λ ls. get_or ls (length path) column) are)

-- its value is one of the level's column
pub child_within : (catalog : Catalog) (h : ℕ) (hierarchy : Hierarchy) (path : List ℕ) (v column : ℕ) → IsMemberOf catalog 0 (member.At h (path ++ v ∷ [])) → slice_get catalog.hierarchies h ≡ Some hierarchy → slice_get hierarchy.levels (length path) ≡ Some column
    → v < length (values catalog column)
child_within catalog h hierarchy path v column own at level = (path_within catalog hierarchy.levels path v (ap (λ ls. is_path catalog ls (path ++ v ∷ [])) (sym (levels_are catalog h hierarchy at)) ∙ own.1)).1 column level

-- a column that has a value is one of the catalog's
pub column_there : (catalog : Catalog) (column v : ℕ) → v < length (values catalog column) → column < length catalog.columns
column_there catalog column v within = by (slice_get catalog.columns column) refl within
  where
    by : (o : Option Column) → slice_get catalog.columns column ≡ o → v < length (option_map_or (λ (c : Column). first_appearances (field_texts c.field (records catalog c.dimension))) o []) → column < length catalog.columns
    by None at w = absurd (omega (arith, w))
    by (Some c) at w = slice_get_within catalog.columns column c at

-- the name of a path's child
pub child_named : (catalog : Catalog) (h : ℕ) (hierarchy : Hierarchy) (path : List ℕ) (v column : ℕ) (name : List ℕ) → slice_get catalog.hierarchies h ≡ Some hierarchy → slice_get hierarchy.levels (length path) ≡ Some column → Some name ≡ slice_get (values catalog column) v
    → name ≡ child_text catalog h path v
child_named catalog h hierarchy path v column name at level is =
    sym (ap (λ o. unwrap_or (option_and_then (λ (x : Hierarchy). option_and_then (λ k. slice_get (values catalog k) v) (slice_get x.levels (length path))) o) []) at
    ∙ ap (λ o. unwrap_or (option_and_then (λ k. slice_get (values catalog k) v) o) []) level ∙ ap (λ o. unwrap_or o []) (sym is))

-- What the first name of a path may mean, by the names that a catalog keeps.
use Rattle.std.proofs.Common.{◌≡◌, ◌∙◌, ◌+◌, ◌-◌, ◌<◌, ℕ, zero, suc, List, [], ◌∷◌, Option, Some, None, refl, sym, ap, map, flat_map, option_map, option_and_then, slice_get, get_or, length, codes, arith}
use Rattle.std.specs.List.{zip}
use Rattle.std.specs.Option.{option_map_or}
use Rattle.std.proofs.lemmas.List.{length-map}
use Rattle.std.proofs.lemmas.Option.{slice_get-map, slice_get-get_or}
use Rattle.olap_meaning.specs.declared.schema.Schema.{Schema}
use Rattle.olap_meaning.specs.declared.schema.SchemaDimension.{SchemaDimension}
use Rattle.olap_meaning.specs.declared.tables.Record.{Record}
use Rattle.olap_meaning.specs.declared.tables.Dimension.{Dimension}
use Rattle.olap_meaning.specs.declared.tables.Column.{Column}
use Rattle.olap_meaning.specs.declared.tables.Hierarchy.{Hierarchy}
use Rattle.olap_meaning.specs.declared.tables.Cube.{Cube}
use Rattle.olap_meaning.specs.declared.cells.LevelRef.TheVariants.{Measures, Whole}
use Rattle.olap_meaning.specs.Schema.{dimension_with}
use Rattle.olap_meaning.specs.Catalog.{full_name, root_name, hierarchies_of, find_root, match_of}
use Rattle.catalog_tables.specs.Tables.{TableOf}
use Rattle.olap_meaning.specs.FullNames.{joined_name}
use Rattle.olap_catalog.specs.Parts.{plain, records_in}
use Rattle.olap_catalog.specs.Roots.{hierarchies_among, full_name_in, name_at, root_names_in}

-- the item at a place above the first, less one
pub whole_at : (hs : List ℕ) (i h : ℕ) → (i ≡ 0 → ⊥) → i - 1 < length hs → h ≡ get_or hs (i - 1) h → Some (Whole h) ≡ slice_get (Measures ∷ map Whole hs) i
whole_at hs zero h other within at = absurd (other refl)
whole_at hs (suc i) h other within at =
    let e : suc i - 1 ≡ i = omega arith in
    ap (λ x. Some (Whole x)) at ∙ ap (λ n. Some (Whole (get_or hs n h))) e ∙ sym (slice_get-map Whole hs i ∙ ap (option_map Whole) (slice_get-get_or hs i h (omega arith)))

-- a dimension has its schema's name
dimension_named : (ds : List SchemaDimension) (rs : List (List Record)) (d : ℕ) → length rs ≡ length ds
    → option_map_or (λ (x : Dimension). x.name) (slice_get (map dimension_with (zip ds rs)) d) [] ≡ option_map_or (λ (x : SchemaDimension). x.name) (slice_get ds d) []
dimension_named [] [] d same = refl
dimension_named [] (r ∷ rs) d same = absurd (omega arith)
dimension_named (x ∷ xs) [] d same = absurd (omega arith)
dimension_named (x ∷ xs) (r ∷ rs) zero same = refl
dimension_named (x ∷ xs) (r ∷ rs) (suc d) same = dimension_named xs rs d (omega arith)

records_length : (ts : List TableOf) → length (records_in ts) ≡ length ts
records_length ts = length-map ts (λ (t : TableOf). t.records)

-- the full name of a hierarchy is the one over the schema's dimensions
pub full_names_same : (schema : Schema) (tables : List TableOf) (columns : List Column) (hierarchies : List Hierarchy) (cubes : List Cube) (hierarchy : Hierarchy) → length tables ≡ length schema.dimensions
    → full_name (plain schema tables columns hierarchies cubes) hierarchy ≡ full_name_in schema.dimensions hierarchy
full_names_same schema tables columns hierarchies cubes hierarchy paired =
    ap (λ n. joined_name n hierarchy.name) (dimension_named schema.dimensions (records_in tables) hierarchy.dimension (records_length tables ∙ paired))

-- the name of a root is the one that is kept
kept_name : (schema : Schema) (tables : List TableOf) (columns : List Column) (hierarchies : List Hierarchy) (cubes : List Cube) (full_names : List (List ℕ)) (h : ℕ) → length tables ≡ length schema.dimensions
    → full_names ≡ map (full_name_in schema.dimensions) hierarchies → root_name (plain schema tables columns hierarchies cubes) (Whole h) ≡ name_at full_names h
kept_name schema tables columns hierarchies cubes full_names h paired named =
    by (slice_get hierarchies h) ∙ sym (ap (λ o. option_map_or (λ (n : List ℕ). n) o []) (ap (λ ns. slice_get ns h) named ∙ slice_get-map (full_name_in schema.dimensions) hierarchies h))
  where
    by : (o : Option Hierarchy) → option_map_or (full_name (plain schema tables columns hierarchies cubes)) o [] ≡ option_map_or (λ (n : List ℕ). n) (option_map (full_name_in schema.dimensions) o) []
    by None = refl
    by (Some x) = full_names_same schema tables columns hierarchies cubes x paired

-- the full name of a hierarchy is the one that is kept
pub name_kept : (schema : Schema) (tables : List TableOf) (columns : List Column) (hierarchies : List Hierarchy) (cubes : List Cube) (full_names : List (List ℕ)) (h : ℕ) (name : List ℕ) → length tables ≡ length schema.dimensions
    → full_names ≡ map (full_name_in schema.dimensions) hierarchies → h < length hierarchies → name ≡ get_or full_names h name → name ≡ root_name (plain schema tables columns hierarchies cubes) (Whole h)
name_kept schema tables columns hierarchies cubes full_names h name paired named within at =
    let count : length full_names ≡ length hierarchies = ap length named ∙ length-map hierarchies (full_name_in schema.dimensions) in
    sym (kept_name schema tables columns hierarchies cubes full_names h paired named ∙ ap (λ o. option_map_or (λ (n : List ℕ). n) o []) (slice_get-get_or full_names h name (omega (arith, count))) ∙ sym at)

kept_names : (schema : Schema) (tables : List TableOf) (columns : List Column) (hierarchies : List Hierarchy) (cubes : List Cube) (full_names : List (List ℕ)) (hs : List ℕ) → length tables ≡ length schema.dimensions
    → full_names ≡ map (full_name_in schema.dimensions) hierarchies → map (root_name (plain schema tables columns hierarchies cubes)) (Measures ∷ map Whole hs) ≡ root_names_in full_names hs
kept_names schema tables columns hierarchies cubes full_names hs paired named = ap (λ ns. codes "Measures" ∷ ns) (by hs)
  where
    by : (xs : List ℕ) → map (root_name (plain schema tables columns hierarchies cubes)) (map Whole xs) ≡ map (name_at full_names) xs
    by [] = refl
    by (x ∷ xs) =
        ap (λ n. n ∷ map (root_name (plain schema tables columns hierarchies cubes)) (map Whole xs)) (kept_name schema tables columns hierarchies cubes full_names x paired named)
        ∙ ap (λ ns. name_at full_names x ∷ ns) (by xs)

-- what a name means among a cube's roots, by the lists that are kept for the cube
pub root_found : (schema : Schema) (tables : List TableOf) (columns : List Column) (hierarchies : List Hierarchy) (cubes : List Cube) (full_names : List (List ℕ)) (root_lists : List (List ℕ)) (root_names : List (List (List ℕ)))
    (cube : ℕ) (hs : List ℕ) (names : List (List ℕ)) (name : List ℕ) → length tables ≡ length schema.dimensions → full_names ≡ map (full_name_in schema.dimensions) hierarchies
    → root_lists ≡ map (λ c. flat_map (hierarchies_among hierarchies) c.dimensions) cubes → root_names ≡ map (root_names_in full_names) root_lists → cube < length cubes → hs ≡ get_or root_lists cube hs → names ≡ get_or root_names cube names
    → option_and_then (slice_get (Measures ∷ map Whole hs)) (match_of name names) ≡ find_root (plain schema tables columns hierarchies cubes) cube name
root_found schema tables columns hierarchies cubes full_names root_lists root_names cube hs names name paired named rooted roots_named within hs_at names_at =
    ap (λ ns. option_and_then (slice_get (Measures ∷ map Whole hs)) (match_of name ns)) (kept ∙ sym (kept_names schema tables columns hierarchies cubes full_names hs paired named))
    ∙ ap (λ xs. option_and_then (slice_get (Measures ∷ map Whole xs)) (match_of name (map (root_name (plain schema tables columns hierarchies cubes)) (Measures ∷ map Whole xs)))) own
  where
    count : length root_lists ≡ length cubes
    count = ap length rooted ∙ length-map cubes (λ (c : Cube). flat_map (hierarchies_among hierarchies) c.dimensions)

    listed : slice_get root_lists cube ≡ Some hs
    listed = slice_get-get_or root_lists cube hs (omega (arith, count)) ∙ ap (λ x. Some x) (sym hs_at)

    own : hs ≡ hierarchies_of (plain schema tables columns hierarchies cubes) cube
    own = by (slice_get cubes cube) (sym listed ∙ ap (λ ls. slice_get ls cube) rooted ∙ slice_get-map (λ (c : Cube). flat_map (hierarchies_among hierarchies) c.dimensions) cubes cube)
      where
        by : (o : Option Cube) → Some hs ≡ option_map (λ (c : Cube). flat_map (hierarchies_among hierarchies) c.dimensions) o → hs ≡ option_map_or (λ (c : Cube). flat_map (hierarchies_among hierarchies) c.dimensions) o []
        by None e = absurd (cc e)
        by (Some c) e = cc e

    kept : names ≡ root_names_in full_names hs
    kept =
        let there : slice_get root_names cube ≡ Some (root_names_in full_names hs) = ap (λ ls. slice_get ls cube) roots_named ∙ slice_get-map (root_names_in full_names) root_lists cube ∙ ap (option_map (root_names_in full_names)) listed in
        let inside : cube < length root_names = let e = ap length roots_named in omega (arith, count, length-map root_lists (root_names_in full_names)) in
        let same : Some names ≡ Some (root_names_in full_names hs) = ap (λ x. Some x) names_at ∙ sym (slice_get-get_or root_names cube names inside) ∙ there in
        cc same

-- there is one name more than hierarchies
pub root_count : (hierarchies : List Hierarchy) (cubes : List Cube) (full_names : List (List ℕ)) (root_lists : List (List ℕ)) (root_names : List (List (List ℕ))) (cube : ℕ) (hs : List ℕ) (names : List (List ℕ))
    → root_lists ≡ map (λ c. flat_map (hierarchies_among hierarchies) c.dimensions) cubes → root_names ≡ map (root_names_in full_names) root_lists → cube < length cubes → hs ≡ get_or root_lists cube hs → names ≡ get_or root_names cube names
    → length names ≡ length hs + 1
root_count hierarchies cubes full_names root_lists root_names cube hs names rooted roots_named within hs_at names_at =
    let count : length root_lists ≡ length cubes = ap length rooted ∙ length-map cubes (λ (c : Cube). flat_map (hierarchies_among hierarchies) c.dimensions) in
    let listed : slice_get root_lists cube ≡ Some hs = slice_get-get_or root_lists cube hs (omega (arith, count)) ∙ ap (λ x. Some x) (sym hs_at) in
    let there : slice_get root_names cube ≡ Some (root_names_in full_names hs) = ap (λ ls. slice_get ls cube) roots_named ∙ slice_get-map (root_names_in full_names) root_lists cube ∙ ap (option_map (root_names_in full_names)) listed in
    let inside : cube < length root_names = let e = ap length roots_named in omega (arith, count, length-map root_lists (root_names_in full_names)) in
    let same : Some names ≡ Some (root_names_in full_names hs) = ap (λ x. Some x) names_at ∙ sym (slice_get-get_or root_names cube names inside) ∙ there in
    let kept : names ≡ root_names_in full_names hs = cc same in
    ap length kept ∙ plus_one (length-map hs (name_at full_names))
  where
    plus_one : {n m : ℕ} → n ≡ m → suc n ≡ m + 1
    plus_one e = omega arith

-- What a query means, by its parts.
use Rattle.std.proofs.Common.{◌≡◌, ◌∙◌, ◌<◌, ◌≤◌, ◌*◌, ◌++◌, ℕ, Bool, false, List, [], Option, None, Some, Ok, Err, Result, All, IfErr, IfOk, IfSome, OnOk, arith, refl, sym, ap, subst, length, map, max, min, ok_or, option_map, if◌then◌else◌}
use Rattle.std.proofs.lemmas.Bool.{le-leb, lt-leb}
use Rattle.std.specs.Option.{option_map_or}
use Rattle.std.proofs.lemmas.List.Elements.{All-append, All-nil}
use Rattle.olap_meaning.specs.Catalog.{find_cube}
use Rattle.olap_meaning.specs.MemberOf.{IsLevelIn, IsMemberOf}
use Rattle.olap_meaning.specs.Results.{◌>>=◌, unless}
use Rattle.olap_meaning.specs.declared.TheConstants.{CELL_LIMIT}
use Rattle.olap_meaning.specs.declared.cells.LevelRef.{LevelRef}
use Rattle.olap_meaning.specs.declared.cells.Member.{Member}
use Rattle.olap_meaning.specs.declared.tables.Catalog.{Catalog}
use Rattle.olap_meaning.proofs.Lists.{option_map-map}
use Rattle.query_meaning.specs.declared.axes.Axes.{Axes}
use Rattle.query_meaning.specs.declared.axes.Axis.{Axis}
use Rattle.query_meaning.specs.declared.query.Query.{Query}
use Rattle.query_meaning.specs.Resolution.{Meaning, NoCube, Refusal, TooManyCells, all_roots, axes_meant, axes_of, cell_count, most_told, root_of, rows_meant, set_meant, too_many, tuple_meant, twice}
use Rattle.cell_request.specs.declared.fault.ResolveFault.{ResolveFault}
use Rattle.cell_request.specs.declared.fault.ResolveFault.TheVariants as fault_variants
use Rattle.cell_request.specs.declared.parts.Part.{Part}
use Rattle.cell_request.specs.Faults.{IsFaultOf, IsReason}
use Rattle.cell_request.specs.Parts.{part_meant, unless_refused, IsPartOf}
use Rattle.cell_request.specs.Plans.{listed}
use Rattle.cell_request.proofs.BraceFacts.{map_or_map}
use Rattle.cell_request.proofs.Counts.{capped_product}
use Rattle.cell_request.proofs.Faults.{reason_refuses}
use Rattle.cell_request.proofs.RootFacts.{roots_own}

-- the roots of the columns, the rows and the slicer
abbrev pub shared : Part → Option Part → List Member → List LevelRef
shared columns rows slicer = columns.roots ++ option_map_or (λ part. part.roots) rows [] ++ map root_of slicer

-- how many cells there are, by the counts of the parts
abbrev pub cells : Part → Option Part → ℕ
cells columns rows = max 1 columns.count * max 1 (option_map_or (λ part. part.count) rows 1)

rows_own : (catalog : Catalog) (cube : ℕ) (rows : Option Part) → IfSome rows (IsPartOf catalog cube) → All (IsLevelIn catalog) (option_map_or (λ part. part.roots) rows [])
rows_own catalog cube None own = All-nil (IsLevelIn catalog)
rows_own catalog cube (Some part) own = own.roots

-- these roots are the catalog's
pub shared_own : (catalog : Catalog) (cube : ℕ) (columns : Part) (rows : Option Part) (slicer : List Member) → IsPartOf catalog cube columns → IfSome rows (IsPartOf catalog cube) → All (IsMemberOf catalog cube) slicer → All (IsLevelIn catalog) (shared columns rows slicer)
shared_own catalog cube columns rows slicer one other own =
    All-append (IsLevelIn catalog) (columns.roots ++ option_map_or (λ part. part.roots) rows []) (map root_of slicer)
    (All-append (IsLevelIn catalog) columns.roots (option_map_or (λ part. part.roots) rows []) one.roots (rows_own catalog cube rows other))
    (roots_own catalog cube slicer own)

one_at_least : (most n : ℕ) → 0 < most → max 1 (min n most) ≡ min (max 1 n) most
one_at_least most n h = omega arith

rows_told : (catalog : Catalog) (cube : ℕ) (rows : Option Part) → IfSome rows (IsPartOf catalog cube) → max 1 (option_map_or (λ part. part.count) rows 1) ≡ min (max 1 (option_map_or (λ meant. length meant.tuples) (option_map (part_meant catalog cube) rows) 1)) most_told
rows_told catalog cube None own = refl
rows_told catalog cube (Some part) own = ap (max 1) own.count ∙ one_at_least most_told (length (listed catalog cube part.plan)) (omega arith)

-- the number of cells, as far as it is told
pub cells_told : (catalog : Catalog) (cube : ℕ) (columns : Part) (rows : Option Part) → IsPartOf catalog cube columns → IfSome rows (IsPartOf catalog cube) → min (cells columns rows) most_told ≡ min (cell_count (part_meant catalog cube columns) (option_map (part_meant catalog cube) rows)) most_told
cells_told catalog cube columns rows one other =
    ap (λ n. min (max 1 n * max 1 (option_map_or (λ part. part.count) rows 1)) most_told) one.count
    ∙ ap (λ n. min (n * max 1 (option_map_or (λ part. part.count) rows 1)) most_told) (one_at_least most_told (length (listed catalog cube columns.plan)) (omega arith))
    ∙ ap (λ n. min (min (max 1 (length (listed catalog cube columns.plan))) most_told * n) most_told) (rows_told catalog cube rows other)
    ∙ capped_product most_told (max 1 (length (listed catalog cube columns.plan))) (max 1 (option_map_or (λ meant. length meant.tuples) (option_map (part_meant catalog cube) rows) 1))

below_cap : (most limit n : ℕ) → limit < most → min n most ≤ limit → n ≤ limit
below_cap most limit n h k = omega arith

above_cap : (most limit n : ℕ) → limit < min n most → limit < n
above_cap most limit n h = omega arith

-- as many cells as the limit are not too many
pub few : (n count : ℕ) → count ≡ min n most_told → count ≤ CELL_LIMIT → too_many n ≡ None
few n count is within = ap (λ b. if b then None else Some (TooManyCells (min n most_told) CELL_LIMIT)) (le-leb n CELL_LIMIT (below_cap most_told CELL_LIMIT n (omega arith) (subst (λ m. m ≤ CELL_LIMIT) is within)))

-- and more are
pub many : (n count : ℕ) → count ≡ min n most_told → CELL_LIMIT < count → too_many n ≡ Some (TooManyCells count CELL_LIMIT)
many n count is over =
    ap (λ b. if b then None else Some (TooManyCells (min n most_told) CELL_LIMIT)) (lt-leb n CELL_LIMIT (above_cap most_told CELL_LIMIT n (subst (λ m. CELL_LIMIT < m) is over)))
    ∙ ap (λ m. Some (TooManyCells m CELL_LIMIT)) (sym is)

-- ---- axes that are refused

module _ (catalog : Catalog) (cube : ℕ) (columns : Part) (rows : Option Part) (slicer : List Member) where
  abbrev counted : ℕ
  counted = cell_count (part_meant catalog cube columns) (option_map (part_meant catalog cube) rows)

  by_roots : (axes : Axes) → unless_refused catalog cube columns rows slicer axes ≡ unless (twice catalog (shared columns rows slicer)) (unless (too_many counted) (Ok axes))
  by_roots axes = ap (λ more. unless (twice catalog (columns.roots ++ more ++ map root_of slicer)) (unless (too_many counted) (Ok axes))) (map_or_map (λ meant. meant.roots) (part_meant catalog cube) rows [])

  -- a hierarchy that stands twice
  pub refused_twice : (fault : ResolveFault) → IsReason fault (twice catalog (shared columns rows slicer)) → (axes : Axes) → IsFaultOf fault (unless_refused catalog cube columns rows slicer axes)
  refused_twice fault is axes = subst (λ o. IsFaultOf fault o) (sym (by_roots axes)) (reason_refuses fault (twice catalog (shared columns rows slicer)) _ is)

  module _ (once : twice catalog (shared columns rows slicer) ≡ None) where
    by_count : (axes : Axes) → unless_refused catalog cube columns rows slicer axes ≡ unless (too_many counted) (Ok axes)
    by_count axes = by_roots axes ∙ ap (λ o. unless o (unless (too_many counted) (Ok axes))) once

    -- too many cells
    pub refused_many : (refusal : Refusal) → too_many counted ≡ Some refusal → (axes : Axes) → unless_refused catalog cube columns rows slicer axes ≡ Err refusal
    refused_many refusal is axes = by_count axes ∙ ap (λ o. unless o (Ok axes)) is

    -- neither
    pub not_refused : too_many counted ≡ None → (axes : Axes) → unless_refused catalog cube columns rows slicer axes ≡ Ok axes
    not_refused is axes = by_count axes ∙ ap (λ o. unless o (Ok axes)) is

    -- as the number of cells is tested
    pub tested : (result : Result Unit ResolveFault) (count : ℕ) → count ≡ min counted most_told → OnOk result (count ≤ CELL_LIMIT) → OnOk result ((axes : Axes) → unless_refused catalog cube columns rows slicer axes ≡ Ok axes)
    tested (Ok u) count is within = not_refused (few counted count is within)
    tested (Err e) count is within = tt

    pub tested_fault :
        (result : Result Unit ResolveFault) (count : ℕ) → count ≡ min counted most_told → IfErr result (λ fault. CELL_LIMIT < count) → IfErr result (λ fault. fault ≡ fault_variants.TooManyCells count CELL_LIMIT)
        → IfErr result (λ fault. (axes : Axes) → IsFaultOf fault (unless_refused catalog cube columns rows slicer axes))
    tested_fault (Ok u) count is over told = tt
    tested_fault (Err e) count is over told = rw told (refused_many (TooManyCells count CELL_LIMIT) (many counted count is over))

-- ---- what a query means

-- the axes that a query means, where its parts mean these
pub meant_as :
    (catalog : Catalog) (query : Query) (cube : ℕ) (columns : Part) (rows : Option Part) (slicer : List Member) → find_cube catalog query.cube ≡ Some cube → set_meant catalog cube query.columns.set ≡ Ok (part_meant catalog cube columns)
    → rows_meant catalog cube query.rows ≡ Ok (option_map (part_meant catalog cube) rows) → tuple_meant catalog cube query.slicer ≡ Ok slicer
    → axes_meant catalog query ≡ unless_refused catalog cube columns rows slicer (axes_of cube query (part_meant catalog cube columns) (option_map (part_meant catalog cube) rows) slicer)
meant_as catalog query cube columns rows slicer found is_columns are_rows is_slicer =
    ap (λ o. ok_or o (NoCube query.cube) >>= (λ k. set_meant catalog k query.columns.set >>= (λ one. rows_meant catalog k query.rows >>= (λ other. tuple_meant catalog k query.slicer >>= (λ members. ends k one other members))))) found
    ∙ ap (λ r. r >>= (λ one. rows_meant catalog cube query.rows >>= (λ other. tuple_meant catalog cube query.slicer >>= (λ members. ends cube one other members)))) is_columns
    ∙ ap (λ r. r >>= (λ other. tuple_meant catalog cube query.slicer >>= (λ members. ends cube (part_meant catalog cube columns) other members))) are_rows
    ∙ ap (λ r. r >>= (λ members. ends cube (part_meant catalog cube columns) (option_map (part_meant catalog cube) rows) members)) is_slicer
  where
    ends : ℕ → Meaning → Option Meaning → List Member → Result Axes Refusal
    ends k one other members = unless (twice catalog (all_roots one other members)) (unless (too_many (cell_count one other)) (Ok (axes_of k query one other members)))

-- axes that are listed are those that are meant, if no test refuses them
pub listed_ok : (result : Result Axes ResolveFault) (outcome : Result Axes Refusal) (wanted : Axes) → outcome ≡ Ok wanted → IfOk result (λ axes. axes ≡ wanted) → IfOk result (λ axes. outcome ≡ Ok axes)
listed_ok (Ok axes) outcome wanted meant is = meant ∙ ap (λ a. Ok a) (sym is)
listed_ok (Err e) outcome wanted meant is = tt

pub listed_fault : (result : Result Axes ResolveFault) (outcome : Result Axes Refusal) → IfErr result (λ fault. fault ≡ fault_variants.OutOfMemory) → IfErr result (λ fault. IsFaultOf fault outcome)
listed_fault (Ok axes) outcome is = tt
listed_fault (Err e) outcome is = rw is tt

-- the axes of these parts
pub shown :
    (catalog : Catalog) (query : Query) (cube : ℕ) (columns : Part) (rows : Option Part) (slicer : List Member) (across : Axis) (down : Option Axis) (non_empty : Bool) → across ≡ record { non_empty = query.columns.non_empty; tuples = listed catalog cube columns.plan }
    → non_empty ≡ option_map_or (λ axis. axis.non_empty) query.rows false → down ≡ option_map (λ part. record { non_empty = non_empty; tuples = listed catalog cube part.plan }) rows
    → ◌≡◌ {A = Axes} (record { cube = cube; columns = across; rows = down; slicer = slicer }) (axes_of cube query (part_meant catalog cube columns) (option_map (part_meant catalog cube) rows) slicer)
shown catalog query cube columns rows slicer across down non_empty is_across is_empty is_down =
    sym
    (ap (λ a. record { cube = cube; columns = a; rows = option_map (λ meant. record { non_empty = option_map_or (λ axis. axis.non_empty) query.rows false; tuples = meant.tuples }) (option_map (part_meant catalog cube) rows); slicer = slicer }) (sym is_across)
    ∙ ap (λ d. record { cube = cube; columns = across; rows = d; slicer = slicer })
    (option_map-map (λ meant. record { non_empty = option_map_or (λ axis. axis.non_empty) query.rows false; tuples = meant.tuples }) (part_meant catalog cube) rows
    ∙ ap (λ b. option_map (λ part. record { non_empty = b; tuples = listed catalog cube part.plan }) rows) (sym is_empty)
    ∙ sym is_down))

-- What the costs of loads depend on, and their sums over entries.
use Rattle.std.proofs.Common.{◌≡◌, ◌∙◌, ◌+◌, ℕ, zero, suc, false, List, [], ◌∷◌, ◌++◌, Option, None, Some, append_assoc, length, take, filter_map, refl, sym, ap, arith}
use Rattle.std.specs.Prelude.{◌||◌, option_and_then}
use Rattle.std.specs.List.{list_any, range_with_len}
use Rattle.std.specs.Option.{option_map_or, option_or}
use Rattle.std.proofs.Math.Seq.{take-append_seam}
use Rattle.std.proofs.lemmas.List.{take-append-le}
use Rattle.olap_meaning.specs.declared.tables.Catalog.{Catalog}
use Rattle.olap_meaning.specs.History.{Entry, Append, Agg, Flush, Start, Done, Drop, Evict, Answer, Saw, Load, load_at}
use Rattle.olap_meaning.specs.Worth.{load_rows}
use Rattle.olap_meaning.proofs.Loads.{load_start, start_load}
use Rattle.olap_meaning.proofs.Positions.{entry_within, get_seam}
use Rattle.olap_meaning.proofs.Growing.{load_stays}
use Rattle.agg_tables.specs.Costs.{cheapest, read_cost}
use Rattle.agg_tables.specs.Tables.{TableOf}
use Rattle.load_costs.specs.Costs.{builds, cost, last_built, reads, seat_costs, start_cost, start_read, table_built, tables_built, version_built}

-- what a load costs that was started stays as it is
pub cost_on : (catalog : Catalog) (entries more : List Entry) (j : ℕ) (load : Load) → load_at entries j ≡ Some load → cost catalog (entries ++ more) j ≡ cost catalog entries j
cost_on catalog entries more zero load at = refl
cost_on catalog entries more (suc b) load at =
    let within = entry_within entries (suc b) (Start load) (load_start entries (suc b) load at) in
    ap (λ (h : List Entry). option_map_or (start_cost catalog h) (load_at (entries ++ more) (suc b)) 0) (take-append-le b entries more (omega (arith, within.1)))
    ∙ ap (λ (o : Option Load). option_map_or (start_cost catalog (take b entries)) o 0) (load_stays entries more (suc b) load at ∙ sym at)

-- and what it reads
pub reads_on : (catalog : Catalog) (entries more : List Entry) (j : ℕ) (load : Load) → load_at entries j ≡ Some load → reads catalog (entries ++ more) j ≡ reads catalog entries j
reads_on catalog entries more zero load at = refl
reads_on catalog entries more (suc b) load at =
    let within = entry_within entries (suc b) (Start load) (load_start entries (suc b) load at) in
    ap (λ (h : List Entry). option_and_then (start_read catalog h) (load_at (entries ++ more) (suc b))) (take-append-le b entries more (omega (arith, within.1)))
    ∙ ap (λ (o : Option Load). option_and_then (start_read catalog (take b entries)) o) (load_stays entries more (suc b) load at ∙ sym at)

-- what a load costs is what it costs after the entries before it
pub cost_at : (catalog : Catalog) (entries rest : List Entry) (load : Load) → cost catalog (entries ++ Start load ∷ rest) (suc (length entries)) ≡ start_cost catalog entries load
cost_at catalog entries rest load =
    ap (λ (h : List Entry). option_map_or (start_cost catalog h) (load_at (entries ++ Start load ∷ rest) (suc (length entries))) 0) (take-append_seam entries (Start load ∷ rest))
    ∙ ap (λ (o : Option Load). option_map_or (start_cost catalog entries) o 0) (start_load (entries ++ Start load ∷ rest) (suc (length entries)) load (get_seam entries rest (Start load)))

-- and it reads what it reads after them
pub reads_at : (catalog : Catalog) (entries rest : List Entry) (load : Load) → reads catalog (entries ++ Start load ∷ rest) (suc (length entries)) ≡ start_read catalog entries load
reads_at catalog entries rest load =
    ap (λ (h : List Entry). option_and_then (start_read catalog h) (load_at (entries ++ Start load ∷ rest) (suc (length entries)))) (take-append_seam entries (Start load ∷ rest))
    ∙ ap (λ (o : Option Load). option_and_then (start_read catalog entries) o) (start_load (entries ++ Start load ∷ rest) (suc (length entries)) load (get_seam entries rest (Start load)))

-- no table is built where no entry builds one
none_last : (table : ℕ) (history : List Entry) → list_any builds history ≡ false → last_built table history ≡ None
none_last table [] none = refl
none_last table (entry ∷ entries) none = by entry none (none_last table entries)
  where
    by : (e : Entry) → (builds e || list_any builds entries) ≡ false → (list_any builds entries ≡ false → last_built table entries ≡ None) → option_or (last_built table entries) (version_built table e) ≡ None
    by (Append who cube v rows) none rest = rw (rest none) refl
    by (Agg who t v) none rest = absurd (cc)
    by (Flush who region) none rest = rw (rest none) refl
    by (Start load) none rest = rw (rest none) refl
    by (Done who j) none rest = rw (rest none) refl
    by (Drop who j) none rest = rw (rest none) refl
    by (Evict j) none rest = rw (rest none) refl
    by (Answer who cells) none rest = rw (rest none) refl
    by (Saw who) none rest = rw (rest none) refl

none_built : (catalog : Catalog) (history : List Entry) → list_any builds history ≡ false → tables_built catalog history ≡ []
none_built catalog history none = by (range_with_len 0 (length catalog.schema.aggregates))
  where
    by : (tables : List ℕ) → filter_map (table_built catalog history) tables ≡ []
    by [] = refl
    by (table ∷ tables) = rw (none_last table history none) (by tables)

-- where no table is built a load costs the rows of its version
pub reads_rows : (catalog : Catalog) (history : List Entry) (load : Load) → list_any builds history ≡ false → start_cost catalog history load ≡ load_rows history load
reads_rows catalog history load none = ap (λ (tables : List TableOf). read_cost (load_rows history load) (cheapest load.header load.version (load_rows history load) tables)) (none_built catalog history none)

-- what a seat's loads cost, first and then
pub costs-append : (catalog : Catalog) (seat : ℕ) (before xs ys : List Entry) → seat_costs catalog seat before (xs ++ ys) ≡ seat_costs catalog seat before xs + seat_costs catalog seat (before ++ xs) ys
costs-append catalog seat before [] ys = ap (λ (h : List Entry). seat_costs catalog seat h ys) (sym (nil before)) ∙ omega arith
  where
    nil : (zs : List Entry) → zs ++ [] ≡ zs
    nil [] = refl
    nil (z ∷ zs) = ap (λ (l : List Entry). z ∷ l) (nil zs)
costs-append catalog seat before (x ∷ xs) ys =
    let rest = costs-append catalog seat (before ++ x ∷ []) xs ys in
    let joined = ap (λ (h : List Entry). seat_costs catalog seat h ys) (append_assoc before (x ∷ []) xs) in
    omega (arith, rest, joined)

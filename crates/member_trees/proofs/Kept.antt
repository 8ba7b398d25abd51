-- The rows of a tree that is kept: one for each level, each with few nodes.
use Rattle.std.proofs.Common.{◌≡◌, ◌∙◌, ap, ℕ, ◌<◌, ◌≤◌, List, length, get_or, arith}
use Rattle.std.proofs.lemmas.List.FromFn.{length-map-range_with_len, get_or-map-range_with_len}
use Rattle.olap_meaning.specs.declared.schema.TheConstants.{RECORD_LIMIT}
use Rattle.member_trees.specs.declared.node.Node.{Node}
use Rattle.member_trees.specs.Nodes.{AreKept, nodes_below}
use Rattle.member_trees.proofs.Counts.{few}
use Rattle.member_trees.proofs.RowsByPlace.{length-row}

pub length-rows : {levels : ℕ} {leaves : List (List ℕ)} {rows : List (List Node)} → AreKept levels leaves rows → length rows ≡ levels
length-rows {levels} {leaves} {rows} kept = ap length kept.rows_are ∙ length-map-range_with_len (nodes_below leaves) 0 levels

-- the row at a depth
pub row-is : {levels : ℕ} {leaves : List (List ℕ)} {rows : List (List Node)} → AreKept levels leaves rows → (depth : ℕ) (row : List Node) → depth < levels → row ≡ get_or rows depth row → row ≡ nodes_below leaves depth
row-is {levels} {leaves} {rows} kept depth row h e =
    e ∙ ap (λ all. get_or all depth row) kept.rows_are ∙ get_or-map-range_with_len (nodes_below leaves) 0 levels depth depth row h (omega arith)

pub few-nodes : {levels : ℕ} {leaves : List (List ℕ)} {rows : List (List Node)} → AreKept levels leaves rows → (depth : ℕ) → length (nodes_below leaves depth) ≤ RECORD_LIMIT
few-nodes {levels} {leaves} {rows} kept depth =
    let a = few leaves depth in
    let b = length-row leaves depth in
    let c = kept.few_leaves in
    omega (arith, a, b, c)

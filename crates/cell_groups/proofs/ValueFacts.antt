-- The values of cells at a place among their columns, sorted and each once.
use Rattle.std.proofs.Common.{◌≡◌, ◌∙◌, ◌+◌, ◌<◌, ℕ, List, [], ◌∷◌, ◌++◌, length, map, take, get_or, sym, ap, subst, true, nat_eq, All}
use Rattle.std.specs.Borrow.{Bor}
use Rattle.std.specs.Prelude.{◌==◌}
use Rattle.std.specs.List.{dedup}
use Rattle.std.specs.List.Sorted.{IsPermutation, IsSorted}
use Rattle.std.specs.Ordering.{nat_cmp}
use Rattle.std.proofs.lemmas.List.{map_push}
use Rattle.std.proofs.lemmas.List.Sorted.{list_any-IsPermutation}
use Rattle.std.proofs.lemmas.Map.Keys.{IsStrictlyIncreasing-dedup}
use Rattle.olap_meaning.specs.declared.cells.Cell.{Cell}
use Rattle.olap_meaning.specs.Covering.{among}
use Rattle.olap_meaning.specs.Legal.{rise}
use Rattle.olap_meaning.proofs.Lists.{take_step}
use Rattle.olap_meaning.proofs.Orders.{among_once, rise_from}
use Rattle.cell_groups.specs.Gathered.{value_at}
use Rattle.cell_groups.specs.Lent.{lent}
use Rattle.cell_groups.proofs.GroupFacts.{lent_at, lent_within}

-- ---- one value more

pub value_more : (place : ℕ) (cells : List (Bor Cell)) (i : ℕ) (cell : Bor Cell) (values longer : List ℕ) → i < length cells → cell ≡ get_or cells i cell → longer ≡ values ++ value_at place cell.now ∷ []
    → values ≡ map (value_at place) (take i (lent cells)) → longer ≡ map (value_at place) (take (i + 1) (lent cells))
value_more place cells i cell values longer l is more so_far =
    more ∙ ap (λ (vs : List ℕ). vs ++ value_at place cell.now ∷ []) so_far ∙ sym (map_push (value_at place) (take i (lent cells)) cell.now)
    ∙ ap (map (value_at place)) (sym (take_step (lent cells) i cell.now (lent_within cells i l) (lent_at cells i cell l is)))

-- what holds of all cells holds of one that is lent
pub lent_holds : (place : ℕ) (cells : List (Bor Cell)) (i : ℕ) (cell : Bor Cell) → All (λ c. place < length c.at) (lent cells) → i < length cells → cell ≡ get_or cells i cell → place < length cell.now.at
lent_holds place cells i cell all l is =
    subst (λ (c : Cell). place < length c.at) (sym (lent_at cells i cell l is)) (all i cell.now (lent_within cells i l))

-- ---- numbers that rise

-- sorted numbers, each once, rise
pub once_rise : (sorted once : List ℕ) → IsSorted nat_cmp sorted → once ≡ dedup nat_eq sorted → rise once ≡ true
once_rise sorted once up left = ap rise left ∙ rise_from (dedup nat_eq sorted) (IsStrictlyIncreasing-dedup sorted up)

-- ---- the same numbers

-- sorted numbers, each once, are the same as before
pub once_same : (found sorted once : List ℕ) → IsPermutation found sorted → once ≡ dedup nat_eq sorted → (v : ℕ) → among once v ≡ among found v
once_same found sorted once moved left v =
    ap (λ (ns : List ℕ). among ns v) left ∙ among_once sorted v ∙ sym (list_any-IsPermutation (λ n. n == v) found sorted moved)

-- the values that were read are those of the cells
pub among_read :
    (place : ℕ) (cells slice : List (Bor Cell)) (read once : List ℕ) → slice ≡ cells → read ≡ map (value_at place) (lent slice) → ((v : ℕ) → among once v ≡ among read v)
    → (v : ℕ) → among once v ≡ among (map (value_at place) (lent cells)) v
among_read place cells slice read once same are once_are v = once_are v ∙ ap (λ (ns : List ℕ). among ns v) (are ∙ ap (λ (cs : List (Bor Cell)). map (value_at place) (lent cs)) same)

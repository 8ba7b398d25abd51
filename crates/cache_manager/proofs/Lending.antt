-- References and the cells that they lend.
use Rattle.std.proofs.Common.{◌≡◌, refl, sym, ◌∙◌, ap, List, [], ◌∷◌, ◌++◌, Bool, true, false, cond, ◌||◌}
use Rattle.std.specs.Borrow.{Bor}
use Rattle.std.specs.List.{list_any}
use Rattle.std.proofs.lemmas.List.{map_push}
use Rattle.olap_meaning.specs.declared.cells.Cell.{Cell}
use Rattle.history_core.specs.Groups.{alike}
use Rattle.cell_groups.specs.Lent.{lent}

-- whether a cell is alike to one that is lent
pub seen_lent : (cell : Cell) (xs : List (Bor Cell)) → list_any (λ first. alike cell first.now) xs ≡ list_any (alike cell) (lent xs)
seen_lent cell [] = refl
seen_lent cell (x ∷ xs) = ap (λ (b : Bool). alike cell x.now || b) (seen_lent cell xs)

-- a cell that is seen is not added
pub added_seen : (cell : Cell) (xs : List (Bor Cell)) → list_any (λ first. alike cell first.now) xs ≡ true → lent xs ≡ cond (list_any (alike cell) (lent xs)) (lent xs) (lent xs ++ cell ∷ [])
added_seen cell xs seen = rw (sym (seen_lent cell xs) ∙ seen) refl

-- and another is
pub added_new : (x : Bor Cell) (xs longer : List (Bor Cell)) → list_any (λ first. alike x.now first.now) xs ≡ false → longer ≡ xs ++ x ∷ [] → lent longer ≡ cond (list_any (alike x.now) (lent xs)) (lent xs) (lent xs ++ x.now ∷ [])
added_new x xs longer new is = rw (sym (seen_lent x.now xs) ∙ new) (ap lent is ∙ map_push (λ (b : Bor Cell). b.now) xs x)

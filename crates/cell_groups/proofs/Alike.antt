-- Cells that are alike: they have one cube, one measure and the same columns.
use Rattle.std.proofs.Common.{◌≡◌, refl, sym, ◌∙◌, ap, List, [], ◌∷◌, Bool, true, ◌&&◌, ◌||◌, ◌==◌, bytes_eq}
use Rattle.std.specs.List.{list_any}
use Rattle.std.proofs.lemmas.Bool.{and_from, and_parts, eq-eqb, eqb-true}
use Rattle.std.proofs.lemmas.Slice.Eq.{bytes_eq-Decides}
use Rattle.olap_meaning.specs.declared.cells.Cell.{Cell}
use Rattle.olap_meaning.specs.Covering.{columns_of}
use Rattle.olap_meaning.proofs.Lists.{same_bool}
use Rattle.history_core.specs.Groups.{alike}

pub record Alike (one other : Cell) : Type 0 where
  pub cube : one.cube ≡ other.cube
  pub measure : one.measure ≡ other.measure
  pub columns : columns_of one ≡ columns_of other

pub alike_told : (one other : Cell) → alike one other ≡ true → Alike one other
alike_told one other h =
    let whole = and_parts ((one.cube == other.cube) && (one.measure == other.measure)) (bytes_eq (columns_of one) (columns_of other)) h in
    let front = and_parts (one.cube == other.cube) (one.measure == other.measure) whole.0 in
    record { cube = eqb-true one.cube other.cube front.0; measure = eqb-true one.measure other.measure front.1; columns = (bytes_eq-Decides (columns_of one) (columns_of other)).0 whole.1 }

pub alike_from : (one other : Cell) → Alike one other → alike one other ≡ true
alike_from one other is = and_from _ _ (and_from _ _ (eq-eqb _ _ is.cube) (eq-eqb _ _ is.measure)) ((bytes_eq-Decides (columns_of one) (columns_of other)).1 is.columns)

pub alike_self : (cell : Cell) → alike cell cell ≡ true
alike_self cell = alike_from cell cell (record { cube = refl; measure = refl; columns = refl })

turned : (one other : Cell) → alike one other ≡ true → alike other one ≡ true
turned one other h =
    let is = alike_told one other h in
    alike_from other one (record { cube = sym is.cube; measure = sym is.measure; columns = sym is.columns })

-- it does not matter which of two cells is asked
pub alike_turned : (one other : Cell) → alike one other ≡ alike other one
alike_turned one other = same_bool (alike one other) (alike other one) (turned one other) (turned other one)

through : (one two other : Cell) → alike one two ≡ true → alike two other ≡ true → alike one other ≡ true
through one two other h k =
    let is = alike_told one two h in
    let also = alike_told two other k in
    alike_from one other (record { cube = is.cube ∙ also.cube; measure = is.measure ∙ also.measure; columns = is.columns ∙ also.columns })

-- cells that are alike are alike to the same cells
pub alike_same : (one two other : Cell) → alike one two ≡ true → alike one other ≡ alike two other
alike_same one two other h =
    same_bool (alike one other) (alike two other)
    (λ k. through two one other (turned one two h) k)
    (λ k. through one two other h k)

pub any_same : (one two : Cell) (cells : List Cell) → alike one two ≡ true → list_any (alike one) cells ≡ list_any (alike two) cells
any_same one two [] h = refl
any_same one two (cell ∷ cells) h =
    ap (λ (b : Bool). b || list_any (alike one) cells) (alike_same one two cell h)
    ∙ ap (λ (b : Bool). alike two cell || b) (any_same one two cells h)

-- A header that covers a cell, and has no column that the cell lacks, has just the cell's columns.
use Rattle.std.proofs.Common.{◌≡◌, ℕ, Bool, true, false, List, refl, sym, subst}
use Rattle.std.specs.Prelude.{◌==◌, ◌&&◌}
use Rattle.std.specs.List.{list_any, list_all}
use Rattle.std.proofs.lemmas.Bool.{and_parts, eqb-true}
use Rattle.olap_meaning.specs.declared.cells.Allowed.{Allowed}
use Rattle.olap_meaning.specs.declared.cells.Cell.{Cell}
use Rattle.olap_meaning.specs.declared.cells.Header.{Header}
use Rattle.olap_meaning.specs.Covering.{allows, header_covers, names_column}
use Rattle.olap_meaning.proofs.Members.{all_member, member_any}
use Rattle.olap_meaning.proofs.ReachUp.{any_weaker}
use Rattle.segment_header.specs.Headers.{HasColumnsOf}

either_way : (a b : Bool) → (a ≡ true → b ≡ true) → (b ≡ true → a ≡ true) → a ≡ b
either_way true b to from = sym (to refl)
either_way false true to from = from refl
either_way false false to from = refl

named_at : (columns : List (ℕ × Allowed)) (c v : ℕ) → list_any (λ own. (own.0 == c) && allows own.1 v) columns ≡ true → list_any (λ own. own.0 == c) columns ≡ true
named_at columns c v some = any_weaker (λ (own : ℕ × Allowed). (own.0 == c) && allows own.1 v) (λ own. own.0 == c) (λ own both. (and_parts (own.0 == c) (allows own.1 v) both).0) columns some

pub same_both_ways : (header : Header) (cell : Cell) → list_all (λ column. names_column cell column.0) header.columns ≡ true → header_covers header cell ≡ true → HasColumnsOf header cell
same_both_ways header cell none_lacks covers = λ column. either_way (list_any (λ own. own.0 == column) header.columns) (names_column cell column) (λ named.
    let (own, there, at) = member_any (λ (own : ℕ × Allowed). own.0 == column) header.columns named in
    let is : own.0 ≡ column = eqb-true own.0 column at in
    rw is at (all_member (λ (own : ℕ × Allowed). names_column cell own.0) header.columns own none_lacks there))
    (λ named.
    let (pair, there, at) = member_any (λ (pair : ℕ × ℕ). pair.0 == column) cell.at named in
    let is : pair.0 ≡ column = eqb-true pair.0 column at in
    let parts = and_parts (header.cube == cell.cube && header.measure == cell.measure) (list_all (λ (p : ℕ × ℕ). list_any (λ (own : ℕ × Allowed). (own.0 == p.0) && allows own.1 p.1) header.columns) cell.at) covers in
    let named_there = all_member (λ (p : ℕ × ℕ). list_any (λ (own : ℕ × Allowed). (own.0 == p.0) && allows own.1 p.1) header.columns) cell.at pair parts.1 there in
    subst (λ (n : ℕ). list_any (λ (own : ℕ × Allowed). own.0 == n) header.columns ≡ true) is (named_at header.columns pair.0 pair.1 named_there))

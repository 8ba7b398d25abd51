-- The first member of a root among those of a column, a row and the slicer.
use Rattle.std.proofs.Common.{◌≡◌, ◌∙◌, ◌++◌, List, Option, Some, None, sym, ap}
use Rattle.std.specs.Option.{option_or}
use Rattle.std.proofs.lemmas.List.Folds.{find-append}
use Rattle.olap_meaning.specs.declared.cells.Member.{Member}
use Rattle.olap_meaning.specs.declared.cells.LevelRef.{LevelRef}
use Rattle.query_meaning.specs.Resolution.{is_root, root_of}
use Rattle.cell_request.specs.Standing.{member_of_root}

module _ (root : LevelRef) (column row slicer : List Member) where
  -- it is looked for in each in turn
  searched : member_of_root root (column ++ row ++ slicer) ≡ option_or (option_or (member_of_root root column) (member_of_root root row)) (member_of_root root slicer)
  searched =
      find-append (λ one. is_root (root_of one) root) (column ++ row) slicer
      ∙ ap (λ o. option_or o (member_of_root root slicer)) (find-append (λ one. is_root (root_of one) root) column row)

  pub in_column : (m : Member) → Some m ≡ member_of_root root column → Some m ≡ member_of_root root (column ++ row ++ slicer)
  in_column m here = sym (searched ∙ ap (λ o. option_or (option_or o (member_of_root root row)) (member_of_root root slicer)) (sym here))

  -- what is found in the row and the slicer where the column has none
  past_column : ◌≡◌ {A = Option Member} None (member_of_root root column) → member_of_root root (column ++ row ++ slicer) ≡ option_or (member_of_root root row) (member_of_root root slicer)
  past_column none = searched ∙ ap (λ o. option_or (option_or o (member_of_root root row)) (member_of_root root slicer)) (sym none)

  pub in_row : (m : Member) → ◌≡◌ {A = Option Member} None (member_of_root root column) → Some m ≡ member_of_root root row → Some m ≡ member_of_root root (column ++ row ++ slicer)
  in_row m none here = sym (past_column none ∙ ap (λ o. option_or o (member_of_root root slicer)) (sym here))

  pub in_slicer : (o : Option Member) → ◌≡◌ {A = Option Member} None (member_of_root root column) → ◌≡◌ {A = Option Member} None (member_of_root root row) → o ≡ member_of_root root slicer → o ≡ member_of_root root (column ++ row ++ slicer)
  in_slicer o none neither here = here ∙ sym (past_column none ∙ ap (λ o. option_or o (member_of_root root slicer)) (sym neither))

-- The regions that concern the load tell of the cells that it covers.
use Rattle.std.proofs.Common.{◌≡◌, ◌∙◌, sym, true, true≢false, drop, not}
use Rattle.std.specs.List.{list_any}
use Rattle.olap_meaning.specs.Covering.{header_covers, names_column}
use Rattle.cache_flush.proofs.Concerning.{live_concerning}
use Rattle.cache_flush.proofs.kept.Kept.is_candidate.Goals as goal
use Rattle.cache_flush.proofs.kept.Kept.is_candidate.Goals.{then-covers, else-covers}

pub returns-then-has_more_columns : goal.returns-then-has_more_columns
returns-then-has_more_columns c =
    let header = c.args.self.now.body.header in
    let cell = c.args.cell.now in
    elim c.if-covers.branch [
      | then-covers w ↦
          let wide : header_covers header cell ≡ true = rw c.header-header.ensures.value at (sym c.covers.ensures ∙ w.if-covers.true) in
          let more : list_any (λ column. not (names_column cell column.0)) header.columns ≡ true = rw c.header-header.ensures.value at (sym w.has_more_columns.ensures ∙ sym w.value-is ∙ c.if-has_more_columns.true) in
          rw (wide, more) (c.is_live.ensures ∙ sym (live_concerning header cell (drop c.args.self.now.place c.args.shut.now.regions) wide))
      | else-covers w ↦ absurd (true≢false (sym c.if-has_more_columns.true ∙ w.value-is ∙ w.if-covers.false))
    ]

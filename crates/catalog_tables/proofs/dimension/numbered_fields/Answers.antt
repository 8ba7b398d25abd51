-- That `numbered_fields` keeps what holds at each turn.
use Rattle.std.proofs.Common.{◌∙◌, ◌++◌, ◌∷◌, [], ◌-◌, ◌+◌, ap, sym}
use Rattle.std.proofs.lemmas.List.{append_assoc}
use Rattle.catalog_tables.specs.Tables.{columns_from}
use Rattle.catalog_tables.proofs.ColumnFacts.{columns_step}
use Rattle.catalog_tables.proofs.dimension.numbered_fields.Goals as goal

pub loop-field-preserved : goal.loop-field-preserved
loop-field-preserved c =
    let rest = columns_from c.args.rows.now (c.loop-field.field + 1) (c.args.levels - (c.loop-field.field + 1)) in
    ap (λ columns. columns ++ rest) (c.in_ok-push.ensures.ok ∙ ap (λ own. c.loop-field.columns ++ own ∷ []) c.in_ok-numbered_field.ensures)
    ∙ append_assoc _ _ rest
    ∙ ap (λ columns. c.loop-field.columns ++ columns) (sym (columns_step c.args.rows.now c.loop-field.field c.args.levels c.loop-field-test.true))
    ∙ c.loop-field.invariant

-- That `push_row` adds the line of the row.
use Rattle.std.proofs.Common.{◌∙◌, subst, string_bytes}
use Rattle.shown_values.specs.contracts.formatter.FormatterGivesTexts.TheImpl.{answers-value}
use Rattle.shown_values.specs.Given.{Given}
use Rattle.query_meaning.specs.Titles.{IsTitle}
use Rattle.result_layout.proofs.RowFacts.{row_laid}
use Rattle.result_layout.proofs.rows.push_row.Goals as goal

pub returns-clause-lines : goal.returns-clause-lines
returns-clause-lines g c =
    row_laid (Given ((answers-value g.dyn-1).it c.args.sheet.now.formatter.now)) _ c.as_str.result.now (string_bytes c.args.text.now) _ _ _ _ (c.as_str.ensures ∙ c.in_ok-title.ensures.title)
    c.in_ok-push_str.ensures.bytes c.in_ok-push_str-2.ensures.bytes c.in_ok-push_shown.ensures c.in_ok-push_str-3.ensures.bytes

pub returns-clause-title : goal.returns-clause-title
returns-clause-title g c = subst IsTitle c.in_ok-title.ensures.title c.in_ok-title.ensures.form

-- That `member_title` ensures what it says.
use Rattle.std.proofs.Common.{◌∙◌, sym, ap}
use Rattle.std.proofs.lemmas.Result.{IfOk-weaker}
use Rattle.olap_meaning.specs.declared.cells.Member.TheVariants as member
use Rattle.query_meaning.specs.Titles.{title}
use Rattle.result_layout.proofs.titles.member_title.Goals as goal

pub returns-in-All-clause-title : goal.returns-in-All-clause-title
returns-in-All-clause-title c = IfOk-weaker c.all_title.result _ _ (λ text own. own c.args.cube ∙ ap (title c.args.catalog.now c.args.cube) (sym c.in-All.is)) c.all_title.ensures.title

pub returns-in-At-clause-title : goal.returns-in-At-clause-title
returns-in-At-clause-title c =
    IfOk-weaker c.path_title.result _ _
    (λ text own. own c.args.cube ∙ ap (λ path. title c.args.catalog.now c.args.cube (member.At c.in-At.h path)) c.as_slice.ensures ∙ ap (title c.args.catalog.now c.args.cube) (sym c.in-At.is))
    c.path_title.ensures.title

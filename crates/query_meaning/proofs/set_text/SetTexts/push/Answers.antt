-- That `push` ensures what it says.
use Rattle.std.proofs.Common.{◌∙◌, ap}
use Rattle.query_meaning.specs.Tree.{pushed, sets_of}
use Rattle.query_meaning.proofs.Pushed.{push_is}
use Rattle.query_meaning.proofs.set_text.SetTexts.push.Goals as goal

pub returns-clause-ok : goal.returns-clause-ok
returns-clause-ok c =
    ap sets_of c.in_ok-push.ensures.items ∙ push_is _ _ ∙ ap (λ x. pushed x c.args.set) c.self.view_is

-- That `push` ensures what it says.
use Rattle.std.proofs.Common.{◌∙◌, ap}
use Rattle.query_meaning.specs.RegionTree.{pushed, trees_of}
use Rattle.query_meaning.proofs.PushedTrees.{push_is}
use Rattle.query_meaning.proofs.region_text.RegionTrees.push.Goals as goal

pub returns-clause-ok : goal.returns-clause-ok
returns-clause-ok c =
    ap trees_of c.in_ok-push.ensures.items
    ∙ push_is _ _
    ∙ ap (λ x. pushed x c.args.region) c.self.view_is

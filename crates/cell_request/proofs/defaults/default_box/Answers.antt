-- That `default_box` ensures `is` and `own`.
use Rattle.std.proofs.Common.{◌∙◌}
use Rattle.cell_request.proofs.BoxFacts.{box_empty, box_is, default_is_of}
use Rattle.cell_request.proofs.DefaultFacts.{box_known}
use Rattle.cell_request.proofs.defaults.default_box.Goals as goal

pub returns-in_default-clause-is : goal.returns-in_default-clause-is
returns-in_default-clause-is c cube = box_known c.args.catalog.now cube c.args.h _ c.new.result (c.in_ok-found.ensures.found cube ∙ c.in_default.is) c.new.ensures

pub returns-in_default-clause-own : goal.returns-in_default-clause-own
returns-in_default-clause-own c = box_empty c.args.catalog.now c.args.h c.new.result c.new.ensures

pub returns-clause-is : goal.returns-clause-is
returns-clause-is c cube = box_known c.args.catalog.now cube c.args.h _ c.in_ok-pairs.pairs (c.in_ok-found.ensures.found cube ∙ c.in-Some.is) c.in_ok-pairs.ensures

pub returns-clause-own : goal.returns-clause-own
returns-clause-own c =
    let own = rw c.in-Some.is at c.in_ok-found.ensures.own in
    box_is c.args.catalog.now 0 c.args.h c.in-Some.member c.in_ok-pairs.pairs (own 0) (default_is_of c.args.catalog.now 0 c.args.h c.in-Some.member (c.in_ok-found.ensures.found 0 ∙ c.in-Some.is)) c.in_ok-pairs.ensures

-- That `add_default` ensures `added` and `own`.
use Rattle.std.proofs.Common.{◌∙◌, ◌++◌, [], sym, ap}
use Rattle.std.proofs.lemmas.List.Elements.{All-cons, All-nil, All-same}
use Rattle.cell_request.specs.Boxes.{HasOwnBox}
use Rattle.cell_request.proofs.DefaultFacts.{box_within}
use Rattle.cell_request.proofs.defaults.add_default.Goals as goal

pub returns-clause-added : goal.returns-clause-added
returns-clause-added c =
    c.in_ok-push.ensures.ok
    ∙ ap (λ boxes. c.args.kept.now ++ boxes) (sym (box_within c.args.catalog.now c.args.cube c.args.h c.in_ok-default.default (sym c.has_hierarchy.ensures ∙ c.if-not-has_hierarchy.false) (c.in_ok-default.ensures.is c.args.cube)))

pub returns-clause-own : goal.returns-clause-own
returns-clause-own c =
    All-same (HasOwnBox c.args.catalog.now) _ _
    (box_within c.args.catalog.now c.args.cube c.args.h c.in_ok-default.default (sym c.has_hierarchy.ensures ∙ c.if-not-has_hierarchy.false) (c.in_ok-default.ensures.is c.args.cube))
    (All-cons (HasOwnBox c.args.catalog.now) c.in_ok-default.default [] c.in_ok-default.ensures.own (All-nil (HasOwnBox c.args.catalog.now)))

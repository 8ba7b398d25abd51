use Rattle.std.proofs.Common.{rules}
use Rattle.std.proofs.lemmas.List.Sorted.{answers_always}
use Rattle.rollup_plan.proofs.AllowedFacts.{found_allows, found_open, not_missed}
use Rattle.rollup_plan.proofs.parts.allowed_in.Goals as goal

pub unreachable-requires : goal.unreachable-requires
unreachable-requires c =
    not_missed c.args.header.now.columns c.args.column c.requires.formed c.in-Err.field-0 c.requires.own
    (rw c.as_slice-columns.ensures at (c.in-Err.ensures.position (λ own. own.0) (answers_always _ _ _ (λ f a r g called. search rules))))

pub returns-clause-open_in : goal.returns-clause-open_in
returns-clause-open_in c =
    rw c.as_slice-columns.ensures
    (found_open c.args.header.now.columns c.args.column c.requires.formed c.in-Ok.i c.index-columns-i.result (rw c.as_slice-columns.ensures at c.in-Ok.ensures.bound)
    (rw c.as_slice-columns.ensures at (c.in-Ok.ensures.position (λ own. own.0) (answers_always _ _ _ (λ f a r g called. search rules)))))

pub returns-clause-allows : goal.returns-clause-allows
returns-clause-allows c =
    rw c.as_slice-columns.ensures
    (found_allows c.args.header.now.columns c.args.column c.requires.formed c.in-Ok.i c.index-columns-i.result (rw c.as_slice-columns.ensures at c.in-Ok.ensures.bound)
    (rw c.as_slice-columns.ensures at (c.in-Ok.ensures.position (λ own. own.0) (answers_always _ _ _ (λ f a r g called. search rules)))))

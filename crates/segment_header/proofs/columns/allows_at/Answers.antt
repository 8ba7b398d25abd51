-- That `allows_at` ensures what it says.
use Rattle.std.proofs.Common.{◌∙◌, sym, rules}
use Rattle.std.proofs.lemmas.Bool.{and_parts}
use Rattle.std.proofs.lemmas.List.Sorted.{answers_always}
use Rattle.segment_header.proofs.RiseFacts.{search_found, search_missed, key_told, key_here, found_key}
use Rattle.segment_header.proofs.columns.allows_at.Goals as goal

pub returns-in-Ok : goal.returns-in-Ok
returns-in-Ok c =
    let found = c.in-Ok.ensures.position (λ own. own.0) (answers_always _ _ _ (λ f a r g called. search rules)) in
    c.allows.ensures
    ∙ sym (search_found (λ own. own.0) c.args.column _ (λ own. key_told _ _ _) c.args.columns.now c.in-Ok.i c.index-columns-i.result (and_parts _ _ c.requires).0 c.in-Ok.ensures.bound found
    ∙ key_here _ _ _ (found_key _ _ (found c.index-columns-i.result)))

pub returns-in-Err : goal.returns-in-Err
returns-in-Err c =
    sym (search_missed (λ own. own.0) c.args.column _ (λ own. key_told _ _ _) c.args.columns.now c.in-Err.field-0 (and_parts _ _ c.requires).0
    (c.in-Err.ensures.position (λ own. own.0) (answers_always _ _ _ (λ f a r g called. search rules))))

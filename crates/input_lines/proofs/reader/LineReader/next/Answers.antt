-- That `next` ensures `tells` and `told`.
use Rattle.std.proofs.Common.{[], subst, sym, ap, ◌∙◌, List, ℕ, ◌≡◌}
use Rattle.std.specs.Prelude.{Option, IfSome}
use Rattle.std.proofs.lemmas.Result.{err_from_is_err_and}
use Rattle.input_lines.specs.Reader.{Reading}
use Rattle.input_lines.proofs.Hearing.{told_next}
use Rattle.input_lines.proofs.Receiving.{HoldsSame-line}
use Rattle.input_lines.proofs.Tells.{keeps_all, told-from}
use Rattle.input_lines.proofs.reader.LineReader.next.Goals as goal

pub returns-clause-told : goal.returns-clause-told
returns-clause-told g c = λ before.
    told-from _ _ c.args.self.now c.find.new.self c.give.new.self c.give.result (HoldsSame-line _ _ _ _ _ c.forget.ensures c.find.ensures.same)
    (λ rest is. c.give.ensures.told rest (λ over. subst (λ (left : Option (List ℕ)). IfSome left (λ bytes. bytes ≡ [])) is (c.find.ensures.end (λ early. before (sym (ap (λ (r : Reading). r.ended) c.forget.ensures) ∙ early)) over)))

pub returns-clause-tells : goal.returns-clause-tells
returns-clause-tells g c = told_next _ _ c.args.self.now c.forget.new.self c.find.new.self c.give.new.self _ _ c.forget.ensures c.in_ok-found.ensures.heard c.give.ensures.says

pub returns-in_err-found-clause-tells : goal.returns-in_err-found-clause-tells
returns-in_err-found-clause-tells g c =
    let p = err_from_is_err_and c.from_residual.result c.from_residual.ensures.1 in rw p.1 (told_next _ _ c.args.self.now c.forget.new.self c.find.new.self c.find.new.self _ _ c.forget.ensures c.in_err-found.ensures.heard (keeps_all c.find.new.self c.find.ensures.line))

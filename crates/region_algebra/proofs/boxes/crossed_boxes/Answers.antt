-- That `crossed_boxes` gives each box with the one box of the second side.
use Rattle.std.proofs.Common.{◌∙◌, ap, get_or, sym}
use Rattle.std.proofs.lemmas.Result.{IfOk-weaker}
use Rattle.region_algebra.proofs.BoxFacts.{one_second}
use Rattle.region_algebra.proofs.boxes.crossed_boxes.Goals as goal

pub returns-then-len-eq1-2 : goal.returns-then-len-eq1-2
returns-then-len-eq1-2 c =
    let second = c.index-as_slice-0-then-len-eq1-2.result in
    IfOk-weaker c.all_behind.result _ _
    (λ boxes is. is ∙ sym (one_second c.args.firsts c.args.seconds second (sym c.len-2.ensures ∙ c.if-len-eq1-2.true) (c.index-as_slice-0-then-len-eq1-2.is ∙ ap (λ bs. get_or bs 0 second) c.as_slice-then-len-eq1-2.ensures)))
    c.all_behind.ensures

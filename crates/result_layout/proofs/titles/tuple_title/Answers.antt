-- That `tuple_title` gives a text that has the form of a title, and keeps what holds at each turn.
use Rattle.std.proofs.Common.{◌≡◌, ◌∙◌, ◌++◌, ◌≤◌, ap, sym, subst, codes, inl, inr, string_bytes, arith}
use Rattle.query_meaning.specs.Titles.{IsTitle, title}
use Rattle.result_layout.specs.Named.{IsNamed}
use Rattle.result_layout.proofs.NamedFacts.{named_beside, tuple_alone, tuple_first, tuple_form, tuple_more}
use Rattle.result_layout.proofs.titles.tuple_title.Goals.{then-i-gt0+in_ok-push_str, else-i-gt0}
use Rattle.result_layout.proofs.titles.tuple_title.Goals as goal

pub loop-i-preserved : goal.loop-i-preserved
loop-i-preserved c =
    let f = title c.args.catalog.now c.args.cube in
    let x = c.index-tuple-i.result in
    let text = c.as_str.ensures ∙ c.in_ok-member.ensures.title in
    let member = subst IsNamed (sym c.as_str.ensures) c.in_ok-member.ensures.named in
    elim c.if-i-gt0.branch [
      | then-i-gt0+in_ok-push_str w ↦
          let front = ap string_bytes w.title-is ∙ w.in_ok-push_str.ensures.bytes in
          let whole = c.in_ok-push_str-2.ensures.bytes ∙ ap (λ t. t ++ c.as_str.result.now) front in (
            tuple_more (codes ", ") f c.args.tuple.now c.loop-i.i x _ _ c.as_str.result.now c.loop-i-test.true c.index-tuple-i.is w.if-i-gt0.true c.loop-i.invariant.0 text whole,
            λ some. named_beside (string_bytes c.loop-i.title) c.as_str.result.now _ (c.loop-i.invariant.1 w.if-i-gt0.true) member whole,
          )
      | else-i-gt0 w ↦
          let whole = c.in_ok-push_str-2.ensures.bytes ∙ ap (λ t. string_bytes t ++ c.as_str.result.now) w.title-is in (
            tuple_first (codes ", ") f c.args.tuple.now c.loop-i.i x _ _ c.as_str.result.now c.loop-i-test.true c.index-tuple-i.is w.if-i-gt0.false c.loop-i.invariant.0 text whole,
            λ some. subst IsNamed (sym (tuple_alone (codes ", ") f c.args.tuple.now c.loop-i.i _ _ c.as_str.result.now w.if-i-gt0.false c.loop-i.invariant.0 whole)) member,
          )
    ]

pub returns-clause-form : goal.returns-clause-form
returns-clause-form c =
    subst IsTitle (sym c.from_string.ensures) (tuple_form (codes ", ") (title c.args.catalog.now c.args.cube) c.args.tuple.now c.loop-i.i _ c.loop-i.invariant.0 c.loop-i.invariant.1)

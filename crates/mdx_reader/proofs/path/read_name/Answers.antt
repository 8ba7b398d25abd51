-- That `read_name` ensures what it says and keeps what holds at each turn.
use Rattle.std.proofs.Common.{◌≡◌, ◌+◌, sym, ap, subst, ◌∙◌}
use Rattle.std.specs.Char.{len_utf8}
use Rattle.mdx_reader.specs.PathSteps.{ReadsName}
use Rattle.mdx_reader.proofs.NameTexts.{name_opens, name_more, name_more_close, name_ends, no_name, name_empty, name_open}
use Rattle.mdx_reader.proofs.path.read_name.Goals as goal
use Rattle.mdx_reader.proofs.path.read_name.Goals.{then-is_empty, else-is_empty, then-c-eq93+else-not-has-2, else-c-eq93}

pub returns-then-not-has : goal.returns-then-not-has
returns-then-not-has c = no_name c.args.text.now c.args.from c.requires.0 c.if-not-has.ensures

pub loop-c-init : goal.loop-c-init
loop-c-init c = name_opens c.args.text.now c.args.from c.new-name.result c.utf8.text c.if-not-has.ensures c.new-name.ensures

pub returns-then-not-has-2 : goal.returns-then-not-has-2
returns-then-not-has-2 c =
    let text = c.args.text.now in
    let l = c.loop-c in
    let end = l.at + c.len_utf8.result in
    let at : end ≡ l.at + len_utf8 c.in-Some.c = ap (λ n. l.at + n) c.len_utf8.ensures.value in
    elim c.if-is_empty.branch [
      | then-is_empty w ↦ subst (ReadsName text c.args.from) (sym w.result-is) (name_empty text c.args.from l.at c.in-Some.c end l.name l.invariant c.in-Some.ensures c.if-c-eq93.true at c.if-not-has-2.ensures w.if-is_empty.ensures)
      | else-is_empty w ↦ subst (ReadsName text c.args.from) (sym w.result-is) (name_ends text c.args.from l.at c.in-Some.c end l.name l.invariant c.in-Some.ensures c.if-c-eq93.true at c.if-not-has-2.ensures w.if-is_empty.ensures)
    ]

pub loop-c-preserved : goal.loop-c-preserved
loop-c-preserved c =
    let text = c.args.text.now in
    let l = c.loop-c in
    let end = l.at + c.len_utf8.result in
    let at : end ≡ l.at + len_utf8 c.in-Some.c = ap (λ n. l.at + n) c.len_utf8.ensures.value in
    elim c.if-c-eq93.branch [
      | then-c-eq93+else-not-has-2 w ↦ name_more_close text c.args.from l.at c.in-Some.c end c.if-c-eq93.at l.name c.push.new.self c.utf8.text l.invariant c.in-Some.ensures w.if-c-eq93.true at w.if-not-has-2.ensures w.at-is c.in_ok-push.ensures.ok
      | else-c-eq93 w ↦ name_more text c.args.from l.at c.in-Some.c c.if-c-eq93.at l.name c.push.new.self l.invariant c.in-Some.ensures w.if-c-eq93.false (w.at-is ∙ at) c.in_ok-push.ensures.ok
    ]

pub returns : goal.returns
returns c = name_open c.args.text.now c.args.from c.loop-c.at c.loop-c.name c.utf8.text c.requires c.loop-c.invariant c.in_default.ensures

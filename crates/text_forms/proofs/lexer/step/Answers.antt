-- That `step` ensures what it says.
use Rattle.std.proofs.Common.{◌∙◌}
use Rattle.text_forms.proofs.Turns.{capital_byte, word_turn, word_refused, word_ended, word_ended_refused, name_turn, close_turn, reopen_turn, name_ended}
use Rattle.text_forms.proofs.lexer.step.Goals as goal

pub returns-then-not-wants_word-clause-steps : goal.returns-then-not-wants_word-clause-steps
returns-then-not-wants_word-clause-steps g c =
    let w = c.in-InWord in
    let e = c.if-is_letter.ensures in
    word_refused g.G.Grammar.rest (g.G.Grammar.rest c.args.grammar) c.args.mode w.from c.args.at c.args.c w.letters c.as_str.result.now w.is e (c.as_str.ensures ∙ capital_byte c.args.c _ _ _ e c.to_ascii_uppercase.ensures.value c.in_ok-push-in-InWord.ensures.ok) c.if-not-wants_word.ensures

pub returns-then-is_letter-clause-steps : goal.returns-then-is_letter-clause-steps
returns-then-is_letter-clause-steps g c =
    let w = c.in-InWord in
    let e = c.if-is_letter.ensures in
    word_turn g.G.Grammar.rest c.args.grammar c.args.mode w.from c.args.at c.args.c w.letters c.push.new.self w.is e (capital_byte c.args.c _ _ _ e c.to_ascii_uppercase.ensures.value c.in_ok-push-in-InWord.ensures.ok)

pub returns-then-c-eq93-clause-steps : goal.returns-then-c-eq93-clause-steps
returns-then-c-eq93-clause-steps g c = close_turn g.G.Grammar.rest c.args.grammar c.args.mode c.in-InName.from c.args.at c.args.c c.in-InName.name c.in-InName.is c.if-c-eq93.true

pub returns-then-c-eq93-2-clause-steps : goal.returns-then-c-eq93-2-clause-steps
returns-then-c-eq93-2-clause-steps g c = reopen_turn g.G.Grammar.rest c.args.grammar c.args.mode c.in-Closing.from c.args.at c.args.c c.in-Closing.name c.push-then-c-eq93-2.new.self c.in-Closing.is c.if-c-eq93-2.true c.in_ok-push-in-Closing.ensures.ok

pub returns-in-Some-clause-steps : goal.returns-in-Some-clause-steps
returns-in-Some-clause-steps g c = word_ended g.G.Grammar.rest (g.G.Grammar.rest c.args.grammar) c.args.mode c.in-InWord.from c.args.at c.args.c c.in-InWord.letters _ c.in-Some.next c.begin-in-Some.result c.in-InWord.is c.if-is_letter.ensures c.in-Some.is c.in_ok-next-in-InWord.ensures.takes c.begin-in-Some.ensures.steps

pub returns-in-None-clause-steps : goal.returns-in-None-clause-steps
returns-in-None-clause-steps g c = word_ended_refused g.G.Grammar.rest (g.G.Grammar.rest c.args.grammar) c.args.mode c.in-InWord.from c.args.at c.args.c c.in-InWord.letters _ c.in-InWord.is c.if-is_letter.ensures c.in-None.is c.in_ok-next-in-InWord.ensures.takes

pub returns-in_ok-push-in-InName-clause-steps : goal.returns-in_ok-push-in-InName-clause-steps
returns-in_ok-push-in-InName-clause-steps g c = name_turn g.G.Grammar.rest c.args.grammar c.args.mode c.in-InName.from c.args.at c.args.c c.in-InName.name c.push-in-InName.new.self c.in-InName.is c.if-c-eq93.false c.in_ok-push-in-InName.ensures.ok

pub returns-in-Some-2-clause-steps : goal.returns-in-Some-2-clause-steps
returns-in-Some-2-clause-steps g c = name_ended g.G.Grammar.rest (g.G.Grammar.rest c.args.grammar) c.args.mode c.in-Closing.from c.args.at c.args.c c.in-Closing.name _ c.in-Some-2.next c.begin-in-Some-2.result c.in-Closing.is c.if-c-eq93-2.false c.if-is_empty.ensures c.in-Some-2.is c.in_ok-next-in-Closing.ensures.takes c.begin-in-Some-2.ensures.steps

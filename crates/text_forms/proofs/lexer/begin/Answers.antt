-- That `begin` ensures what it says.
use Rattle.std.proofs.Common.{sym, ◌∙◌}
use Rattle.text_forms.proofs.Turns.{first_capital, white_turn, letter_turn, open_turn, sign_turn, letter_refused, letter_unwanted, open_unwanted, sign_refused, other_refused}
use Rattle.text_forms.proofs.lexer.begin.Goals as goal

pub returns-then-after_word-clause-steps : goal.returns-then-after_word-clause-steps
returns-then-after_word-clause-steps g c = letter_refused g.G.Grammar.rest (g.G.Grammar.rest c.args.grammar) c.args.after_word c.args.at c.args.c (sym c.in-Letter.ensures) c.if-after_word.true

pub returns-then-not-wants_word-clause-steps : goal.returns-then-not-wants_word-clause-steps
returns-then-not-wants_word-clause-steps g c =
    let e = sym c.in-Letter.ensures in
    letter_unwanted g.G.Grammar.rest (g.G.Grammar.rest c.args.grammar) c.args.after_word c.args.at c.args.c c.as_str.result.now e c.if-after_word.false (c.as_str.ensures ∙ first_capital c.args.c _ _ _ e c.to_ascii_uppercase.ensures.value c.new-letters.ensures c.in_ok-push-in-Letter.ensures.ok) c.if-not-wants_word.ensures

pub returns-then-not-wants_name-clause-steps : goal.returns-then-not-wants_name-clause-steps
returns-then-not-wants_name-clause-steps g c = open_unwanted g.G.Grammar.rest (g.G.Grammar.rest c.args.grammar) c.args.after_word c.args.at c.args.c (sym c.in-Open.ensures) c.if-not-wants_name.ensures

pub returns-in-White-clause-steps : goal.returns-in-White-clause-steps
returns-in-White-clause-steps g c = white_turn g.G.Grammar.rest c.args.grammar c.args.after_word c.args.at c.args.c (sym c.in-White.ensures)

pub returns-else-not-wants_word-clause-steps : goal.returns-else-not-wants_word-clause-steps
returns-else-not-wants_word-clause-steps g c =
    let e = sym c.in-Letter.ensures in
    letter_turn g.G.Grammar.rest c.args.grammar c.args.after_word c.args.at c.args.c c.push.new.self e c.if-after_word.false (first_capital c.args.c _ _ _ e c.to_ascii_uppercase.ensures.value c.new-letters.ensures c.in_ok-push-in-Letter.ensures.ok)

pub returns-in-Some-clause-steps : goal.returns-in-Some-clause-steps
returns-in-Some-clause-steps g c = sign_turn g.G.Grammar.rest (g.G.Grammar.rest c.args.grammar) c.in-Some.next c.args.after_word c.args.at c.args.c _ (sym c.in-Sign.ensures) c.in-Some.is c.in_ok-next-in-Sign.ensures.takes

pub returns-in-None-clause-steps : goal.returns-in-None-clause-steps
returns-in-None-clause-steps g c = sign_refused g.G.Grammar.rest (g.G.Grammar.rest c.args.grammar) c.args.after_word c.args.at c.args.c _ (sym c.in-Sign.ensures) c.in-None.is c.in_ok-next-in-Sign.ensures.takes

pub returns-else-not-wants_name-clause-steps : goal.returns-else-not-wants_name-clause-steps
returns-else-not-wants_name-clause-steps g c = open_turn g.G.Grammar.rest c.args.grammar c.args.after_word c.args.at c.args.c c.new-name.result (sym c.in-Open.ensures) c.new-name.ensures

pub returns-in-Other-clause-steps : goal.returns-in-Other-clause-steps
returns-in-Other-clause-steps g c = other_refused g.G.Grammar.rest (g.G.Grammar.rest c.args.grammar) c.args.after_word c.args.at c.args.c (sym c.in-Other.ensures)

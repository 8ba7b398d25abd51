-- That `end` ensures what it says.
use Rattle.std.specs.Prelude.{option_map}
use Rattle.text_forms.proofs.Turns.{between_ends, word_ends_text, word_never, name_ends_text, name_never}
use Rattle.text_forms.proofs.lexer.end.Goals as goal

pub returns-in-Between : goal.returns-in-Between
returns-in-Between g c = between_ends g.G.Grammar.rest (g.G.Grammar.rest c.args.grammar) (option_map g.G.Grammar.meaning) c.args.mode c.in-Between.after_word c.finish.result c.in-Between.is c.finish.ensures

pub returns-in-Some : goal.returns-in-Some
returns-in-Some g c = word_ends_text g.G.Grammar.rest (g.G.Grammar.rest c.args.grammar) c.args.mode c.in-InWord.from c.in-InWord.letters _ (option_map g.G.Grammar.meaning) c.in-Some.next c.finish-in-Some.result c.in-InWord.is c.in-Some.is c.in_ok-next-in-InWord.ensures.takes c.finish-in-Some.ensures

pub returns-in-None : goal.returns-in-None
returns-in-None g c = word_never g.G.Grammar.rest (g.G.Grammar.rest c.args.grammar) c.args.mode c.in-InWord.from c.in-InWord.letters _ c.in-InWord.is c.in-None.is c.in_ok-next-in-InWord.ensures.takes

pub returns-in-InName : goal.returns-in-InName
returns-in-InName g c = name_never g.G.Grammar.rest (g.G.Grammar.rest c.args.grammar) c.args.mode c.in-InName.at c.in-InName.name c.in-InName.is

pub returns-in-Some-2 : goal.returns-in-Some-2
returns-in-Some-2 g c = name_ends_text g.G.Grammar.rest (g.G.Grammar.rest c.args.grammar) c.args.mode c.in-Closing.from c.in-Closing.name _ (option_map g.G.Grammar.meaning) c.in-Some-2.next c.finish-in-Some-2.result c.in-Closing.is c.if-is_empty.ensures c.in-Some-2.is c.in_ok-next-in-Closing.ensures.takes c.finish-in-Some-2.ensures

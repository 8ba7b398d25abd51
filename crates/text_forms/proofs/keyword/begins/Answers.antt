-- That `begins` ensures what it says.
use Rattle.std.proofs.Common.{◌≡◌, ◌++◌, Bool, true, false, ℕ, List, refl, sym, drop, length, MatchBool}
use Rattle.std.proofs.lemmas.Bool.{false≢true}
use Rattle.std.proofs.lemmas.Bool.Decides.{Decides-eqb}
use Rattle.std.proofs.lemmas.Slice.Eq.{starts_is}
use Rattle.text_forms.specs.Words.{Begins}
use Rattle.text_forms.proofs.keyword.begins.Goals as goal

begins_at : (word front : List ℕ) (r : Bool) → (r ≡ true → word ≡ front ++ drop (length front) word) → ((more : List ℕ) → word ≡ front ++ more → r ≡ true) → MatchBool r (Begins front word) (¬ Begins front word)
begins_at word front true f g = (drop (length front) word, sym (f refl))
begins_at word front false f g = λ b. false≢true (g b.0 (sym b.1))

pub returns : goal.returns
returns c =
    let s = starts_is Decides-eqb c.args.word.now c.args.front.now c.starts_with.result c.starts_with.ensures.value in
    begins_at c.args.word.now c.args.front.now c.starts_with.result s.0 s.1

-- A text of a form stops at one byte alone.
use Rattle.std.proofs.Common.{◌≡◌, sym, ◌∙◌, ap, subst, ℕ, suc, ◌+◌, ◌-◌, ◌<◌, ◌⊎◌, List, ◌++◌, take, drop, length, inl, inr, arith}
use Rattle.std.proofs.Math.Seq.{take-add}
use Rattle.std.proofs.lemmas.Bool.{cases_order}
use Rattle.std.proofs.lemmas.List.{append_assoc}
use Rattle.text_forms.specs.Forms.{StopsAt}

-- a longer front begins with a shorter one
longer : (text more : List ℕ) (a b : ℕ) → a < b → take b text ++ more ≡ take (suc a) text ++ (take (b - suc a) (drop (suc a) text) ++ more)
longer text more a b less =
    let parts : suc a + (b - suc a) ≡ b = omega (arith, less) in
    ap (λ n. take n text ++ more) (sym parts) ∙ ap (λ front. front ++ more) (take-add (suc a) (b - suc a) text) ∙ append_assoc (take (suc a) text) (take (b - suc a) (drop (suc a) text)) more

-- a text does not stop before it stops
no_sooner : {Q : Type 0} (W : List ℕ → Q → Type 0) (text : List ℕ) (a b : ℕ) → StopsAt W text a → StopsAt W text b → a < b → ⊥
no_sooner W text a b one other less =
    let goes = other.goes_on in
    let within = other.within in
    let before : a < length text = omega (arith, less, within) in
    one.no_further before (take (b - suc a) (drop (suc a) text) ++ goes.0) goes.1 (subst (λ front. W front goes.1) (longer text goes.0 a b less) goes.2)

-- a text stops at one byte
pub one_stop : {Q : Type 0} (W : List ℕ → Q → Type 0) (text : List ℕ) (a b : ℕ) → StopsAt W text a → StopsAt W text b → a ≡ b
one_stop W text a b one other = by (cases_order a b)
  where
    by : (a ≡ b) ⊎ ((a < b) ⊎ (b < a)) → a ≡ b
    by (inl same) = same
    by (inr (inl less)) = absurd (no_sooner W text a b one other less)
    by (inr (inr more)) = absurd (no_sooner W text b a other one more)

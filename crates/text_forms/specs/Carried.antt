-- What is said of a token, carried over equations.
use Rattle.std.proofs.Common.{◌≡◌, ℕ, List, sym, subst, Option, Some, None}
use Rattle.query_meaning.specs.declared.token.Token.{Token}
use Rattle.query_meaning.specs.Tokens.{Placed, At}
use Rattle.text_forms.specs.Grammars.{Took}

-- a token at an equation
pub took_at : {S Q : Type 0} (rest : S → List Placed → Q → Type 0) (R : List Placed → Q → Type 0) (at : ℕ) (j k : Token) (o : Option S) → j ≡ k → Took rest R (At at k) o → Took rest R (At at j) o
took_at rest R at j k o e h = subst (λ x. Took rest R (At at x) o) (sym e) h

-- the same at a state that is known
pub at_both : {S Q : Type 0} (rest : S → List Placed → Q → Type 0) (s known : S) (at : ℕ) (j k : Token) (o : Option S) → s ≡ known → j ≡ k → Took rest (rest known) (At at k) o → Took rest (rest s) (At at j) o
at_both rest s known at j k o e f h = subst (λ x. Took rest (rest x) (At at j) o) (sym e) (took_at rest (rest known) at j k o f h)

-- from a state and a token at equations, to a state at an equation
pub taken : {S Q : Type 0} (rest : S → List Placed → Q → Type 0) (s known : S) (at : ℕ) (j k : Token) (next next_known : S) → s ≡ known → j ≡ k → next ≡ next_known → Took rest (rest known) (At at k) (Some next_known) → Took rest (rest s) (At at j) (Some next)
taken rest s known at j k next next_known e f g h = at_both rest s known at j k (Some next) e f (subst (λ x. Took rest (rest known) (At at k) (Some x)) (sym g) h)

-- a refusal at a state that is known
pub refused : {S Q : Type 0} (rest : S → List Placed → Q → Type 0) (s known : S) (t : Placed) → s ≡ known → Took rest (rest known) t None → Took rest (rest s) t None
refused rest s known t e h = subst (λ x. Took rest (rest x) t None) (sym e) h

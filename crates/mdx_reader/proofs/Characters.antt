-- A character in a name.
use Rattle.std.proofs.Common.{◌≡◌, ◌≢◌, ℕ, suc, ◌<◌, List, [], ◌∷◌, inl, inr, refl, sym, ap, subst, ◌∙◌, arith, length, get_or}
use Rattle.std.specs.Prelude.{encode_utf8}
use Rattle.std.proofs.lemmas.Bool.{cases_lt}
use Rattle.std.proofs.lemmas.Str.{encode_ascii}
use Rattle.olap_meaning.proofs.Characters.{high_bytes}
use Rattle.query_meaning.specs.Tokens.{escaped}
use Rattle.text_forms.specs.NameFacts.{escaped_other}

-- a text without "]" stands in a name as it is
pub escaped_none : (bytes : List ℕ) → ((k : ℕ) → k < length bytes → get_or bytes k 0 ≢ 93) → escaped bytes ≡ bytes
escaped_none [] h = refl
escaped_none (b ∷ bytes) h =
    escaped_other b bytes (h 0 (omega arith)) ∙ ap (λ x. b ∷ x) (escaped_none bytes (λ k lt. h (suc k) (omega arith)))

pub escaped_character : (c : ℕ) → c ≢ 93 → escaped (encode_utf8 c) ≡ encode_utf8 c
escaped_character c e = elim (cases_lt c 128) [
  | inl low ↦ subst (λ x. escaped x ≡ x) (sym (encode_ascii c low)) (escaped_other c [] e)
  | inr high ↦ escaped_none (encode_utf8 c) (λ k lt q. let b = high_bytes c high k lt in omega arith)
]

-- What stands after a name text that was read.
use Rattle.std.proofs.Common.{◌≡◌, ◌≢◌, ◌∙◌, ◌-◌, ◌++◌, ℕ, false, true, List, [], ◌∷◌, sym, ap, subst, length, take, drop, flat_map, arith, append_assoc, take_all, String, Global, Option, Some, None, string_bytes, string_len, Bor}
use Rattle.std.specs.Option.{MatchOption, IfSome, IsSomeAnd}
use Rattle.std.specs.Str.{IsUtf8}
use Rattle.std.proofs.lemmas.Bool.{false≢true}
use Rattle.std.proofs.lemmas.List.{append_cancel_left, nil_from_length}
use Rattle.std.proofs.lemmas.Str.{IsUtf8-from_is_utf8, is_utf8-from_IsUtf8, IsUtf8-string_bytes}
use Rattle.olap_meaning.specs.Texts.{name_text}
use Rattle.query_meaning.specs.Titles.{TitleName, IsTitleName}
use Rattle.grid_reader.specs.NameBytes.{name_byte, NoBracket, IsNameTo}
use Rattle.grid_reader.proofs.NameTexts.{name_text_bytes}

opened : (one : TitleName) (text rest : List ℕ) → IsTitleName one → text ≡ name_text one.name ++ rest → text ≡ 91 ∷ (flat_map name_byte one.name ++ 93 ∷ rest)
opened one text rest h e =
    e ∙ ap (λ x. x ++ rest) (name_text_bytes one.name h.1) ∙ ap (λ x. 91 ∷ x) (append_assoc (flat_map name_byte one.name) (93 ∷ []) rest)

-- a text without its first byte
inner : (text x : List ℕ) → text ≡ 91 ∷ x → take (length text - 1) (drop 1 text) ≡ x
inner text x e = ap (λ t. take (length t - 1) (drop 1 t)) e ∙ take_all (length (91 ∷ x) - 1) x (omega arith)

-- the bytes that are read are those of the name
pub is_read : (text bytes : List ℕ) → ((name rest : List ℕ) → IsNameTo (take (length text - 1) (drop 1 text)) name rest → bytes ≡ name) → (one : TitleName) (rest : List ℕ) → IsTitleName one → NoBracket rest → text ≡ name_text one.name ++ rest → bytes ≡ one.name
is_read text bytes reads one rest h n e = reads one.name rest (record { parts = inner text (flat_map name_byte one.name ++ 93 ∷ rest) (opened one text rest h e); ends = n })

-- so they are a text
pub is_a_text : (bytes : List ℕ) (one : TitleName) → IsTitleName one → bytes ≡ one.name → (IsUtf8 bytes → false ≡ true) → ⊥
is_a_text bytes one h e none = false≢true (none (subst IsUtf8 (sym e) (IsUtf8-from_is_utf8 one.name h.1)))

-- and some
pub no_bytes : (s : String Global) → string_len s ≡ 0 → string_bytes s ≡ []
no_bytes s e = nil_from_length s.bytes.items (omega (arith, s.bytes.ok.0))

pub some_bytes : (s : String Global) → string_len s ≢ 0 → string_bytes s ≢ []
some_bytes s n e = n (omega (arith, s.bytes.ok.0, ap length e))

-- a name text that begins a text is one of a name that was read
pub name_found : (text p : List ℕ) (s : String Global) (r : Option (Bor (List ℕ))) → MatchOption r ((rest : List ℕ) → text ≢ p ++ rest) (λ x. text ≡ p ++ x.now) → p ≡ name_text (string_bytes s) → string_len s ≢ 0 → IfSome r (λ behind. (one : TitleName) × IsTitleName one × (text ≡ name_text one.name ++ behind.now))
name_found text p s None m e n = tt
name_found text p s (Some x) m e n =
    (record { begins = false; name = string_bytes s }, (some_bytes s n, is_utf8-from_IsUtf8 (string_bytes s) (IsUtf8-string_bytes s)), m ∙ ap (λ t. t ++ x.now) e)

-- and what stands after it is found
pub rest_found : (text p rest : List ℕ) (r : Option (Bor (List ℕ))) → MatchOption r ((rest : List ℕ) → text ≢ p ++ rest) (λ x. text ≡ p ++ x.now) → text ≡ p ++ rest → IsSomeAnd r (λ behind. behind.now ≡ rest)
rest_found text p rest None m e = absurd (m rest e)
rest_found text p rest (Some x) m e = append_cancel_left p x.now rest (sym m ∙ e)

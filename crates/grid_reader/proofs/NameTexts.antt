-- A name text byte by byte: which bytes stand in it, and that it is UTF-8.
use Rattle.std.proofs.Common.{◌≡◌, ◌≢◌, ◌∙◌, ◌<◌, ◌≤◌, ◌++◌, ℕ, suc, true, false, eqb, cond, List, [], ◌∷◌, inl, inr, sym, ap, refl, subst, length, get_or, flat_map, arith, append-nil}
use Rattle.std.specs.Prelude.{encode_utf8, encode_utf8_all}
use Rattle.std.specs.Char.{IsScalar}
use Rattle.std.specs.Str.{chars, is_utf8, all_scalars, IsUtf8}
use Rattle.std.proofs.lemmas.Bool.{and_parts, cases_eq, cases_lt}
use Rattle.std.proofs.lemmas.Bool.Decides.{nat_tests}
use Rattle.std.proofs.lemmas.Grind.{flat_map-append}
use Rattle.std.proofs.lemmas.List.Elements.{filter-append}
use Rattle.std.proofs.lemmas.Str.{encode_ascii, encodes-chars, scalars-chars, IsUtf8-append, IsUtf8-encode, IsUtf8-from_ascii, IsUtf8-from_is_utf8, IsUtf8-nil}
use Rattle.std.proofs.lemmas.Str.Ascii.{IsAscii-cons, IsAscii-nil}
use Rattle.olap_meaning.specs.Texts.{name_character, name_text}
use Rattle.olap_meaning.proofs.Characters.{high_bytes}
use Rattle.query_meaning.specs.Shown.{is_break, breaks}
use Rattle.grid_reader.specs.NameBytes.{name_byte}

-- a byte or a character with no form of its own
pub record Plain (c : ℕ) : Type 0 where
  pub no_bracket : c ≢ 93
  pub no_backslash : c ≢ 92
  pub no_tab : c ≢ 9
  pub no_return : c ≢ 13
  pub no_feed : c ≢ 10

-- a fact of each of those that have one, and of all others, is one of all
pub by_forms : (P : ℕ → Type 0) → P 93 → P 92 → P 9 → P 13 → P 10 → ((c : ℕ) → Plain c → P c) → (c : ℕ) → P c
by_forms P bracket backslash tab return' feed other c = elim (cases_eq c 93) [
  | inl e ↦ subst P (sym e) bracket
  | inr a ↦ elim (cases_eq c 92) [
    | inl e ↦ subst P (sym e) backslash
    | inr b ↦ elim (cases_eq c 9) [
      | inl e ↦ subst P (sym e) tab
      | inr d ↦ elim (cases_eq c 13) [
        | inl e ↦ subst P (sym e) return'
        | inr f ↦ elim (cases_eq c 10) [
          | inl e ↦ subst P (sym e) feed
          | inr g ↦ other c (record { no_bracket = a; no_backslash = b; no_tab = d; no_return = f; no_feed = g })
        ]
      ]
    ]
  ]
]

differs : (c n : ℕ) → c ≢ n → eqb c n ≡ false
differs c n h = grind (arith, nat_tests)

pub plain_byte : (b : ℕ) → Plain b → name_byte b ≡ b ∷ []
plain_byte b p =
    let e1 = differs b 93 p.no_bracket in
    let e2 = differs b 92 p.no_backslash in
    let e3 = differs b 9 p.no_tab in
    let e4 = differs b 13 p.no_return in
    let e5 = differs b 10 p.no_feed in
    rw (e1, e2, e3, e4, e5) refl

plain_character : (c : ℕ) → Plain c → name_character c ≡ encode_utf8 c
plain_character c p =
    let e1 = differs c 93 p.no_bracket in
    let e2 = differs c 92 p.no_backslash in
    let e3 = differs c 9 p.no_tab in
    let e4 = differs c 13 p.no_return in
    let e5 = differs c 10 p.no_feed in
    rw (e1, e2, e3, e4, e5) refl

-- bytes from 128 on stand as they are
high_byte : (b : ℕ) → 128 ≤ b → Plain b
high_byte b h = record { no_bracket = omega arith; no_backslash = omega arith; no_tab = omega arith; no_return = omega arith; no_feed = omega arith }

high : (xs : List ℕ) → ((i : ℕ) → i < length xs → 128 ≤ get_or xs i 0) → flat_map name_byte xs ≡ xs
high [] h = refl
high (b ∷ xs) h = ap (λ x. x ++ flat_map name_byte xs) (plain_byte b (high_byte b (h 0 (omega arith)))) ∙ ap (λ x. b ∷ x) (high xs (λ i lt. h (suc i) (omega (arith, lt))))

plain_bytes : (c : ℕ) → Plain c → flat_map name_byte (encode_utf8 c) ≡ encode_utf8 c
plain_bytes c p = elim (cases_lt c 128) [
  | inl h ↦ (let e = encode_ascii c h in ap (flat_map name_byte) e ∙ append-nil (name_byte c) ∙ plain_byte c p ∙ sym e)
  | inr h ↦ high (encode_utf8 c) (high_bytes c h)
]

character : (c : ℕ) → flat_map name_byte (encode_utf8 c) ≡ name_character c
character = by_forms (λ c. flat_map name_byte (encode_utf8 c) ≡ name_character c)
    (ap (flat_map name_byte) (encode_ascii 93 (omega arith)))
    (ap (flat_map name_byte) (encode_ascii 92 (omega arith)))
    (ap (flat_map name_byte) (encode_ascii 9 (omega arith)))
    (ap (flat_map name_byte) (encode_ascii 13 (omega arith)))
    (ap (flat_map name_byte) (encode_ascii 10 (omega arith)))
    (λ c p. plain_bytes c p ∙ sym (plain_character c p))

characters : (cs : List ℕ) → flat_map name_byte (encode_utf8_all cs) ≡ flat_map name_character cs
characters [] = refl
characters (c ∷ cs) = flat_map-append name_byte (encode_utf8 c) (encode_utf8_all cs) ∙ ap (λ x. x ++ flat_map name_byte (encode_utf8_all cs)) (character c) ∙ ap (λ x. name_character c ++ x) (characters cs)

-- a name text is the name's bytes, each as it is written, in brackets
pub name_text_bytes : (name : List ℕ) → is_utf8 name ≡ true → name_text name ≡ 91 ∷ (flat_map name_byte name ++ 93 ∷ [])
name_text_bytes name u =
    ap (λ x. 91 ∷ (x ++ 93 ∷ [])) (sym (characters (chars name)) ∙ ap (flat_map name_byte) (encodes-chars name (IsUtf8-from_is_utf8 name u)))

-- no byte of it ends a field or a line
byte_no_break : (b : ℕ) → breaks (name_byte b) ≡ []
byte_no_break = by_forms (λ b. breaks (name_byte b) ≡ []) refl refl refl refl refl (λ b p. ap breaks (plain_byte b p) ∙ ap (λ is. cond is (b ∷ []) []) (plain_no_break b p))
  where
    plain_no_break : (b : ℕ) → Plain b → is_break b ≡ false
    plain_no_break b p =
        let e1 = differs b 9 p.no_tab in
        let e2 = differs b 13 p.no_return in
        let e3 = differs b 10 p.no_feed in
        rw (e1, e2, e3) refl

bytes_no_break : (bs : List ℕ) → breaks (flat_map name_byte bs) ≡ []
bytes_no_break [] = refl
bytes_no_break (b ∷ bs) = filter-append is_break (name_byte b) (flat_map name_byte bs) ∙ ap (λ x. x ++ breaks (flat_map name_byte bs)) (byte_no_break b) ∙ bytes_no_break bs

pub name_text_no_break : (name : List ℕ) → is_utf8 name ≡ true → breaks (name_text name) ≡ []
name_text_no_break name u =
    ap breaks (name_text_bytes name u) ∙ filter-append is_break (flat_map name_byte name) (93 ∷ []) ∙ ap (λ x. x ++ []) (bytes_no_break name)

-- a name text is UTF-8
two : (a b : ℕ) → a < 128 → b < 128 → IsUtf8 (a ∷ b ∷ [])
two a b h k = IsUtf8-from_ascii (a ∷ b ∷ []) (IsAscii-cons a (b ∷ []) h (IsAscii-cons b [] k IsAscii-nil))

character_utf8 : (c : ℕ) → IsScalar c → IsUtf8 (name_character c)
character_utf8 = by_forms (λ c. IsScalar c → IsUtf8 (name_character c))
    (λ s. two 93 93 (omega arith) (omega arith))
    (λ s. two 92 92 (omega arith) (omega arith))
    (λ s. two 92 116 (omega arith) (omega arith))
    (λ s. two 92 114 (omega arith) (omega arith))
    (λ s. two 92 110 (omega arith) (omega arith))
    (λ c p s. subst IsUtf8 (sym (plain_character c p)) (IsUtf8-encode c s))

characters_utf8 : (cs : List ℕ) → all_scalars cs ≡ true → IsUtf8 (flat_map name_character cs)
characters_utf8 [] s = IsUtf8-nil
characters_utf8 (c ∷ cs) s =
    let h = and_parts _ _ s in
    IsUtf8-append (name_character c) (flat_map name_character cs) (character_utf8 c h.0) (characters_utf8 cs h.1)

pub name_text_utf8 : (name : List ℕ) → is_utf8 name ≡ true → IsUtf8 (name_text name)
name_text_utf8 name u =
    IsUtf8-append (91 ∷ flat_map name_character (chars name)) (93 ∷ [])
    (IsUtf8-append (91 ∷ []) (flat_map name_character (chars name)) (one 91 (omega arith)) (characters_utf8 (chars name) (scalars-chars name (IsUtf8-from_is_utf8 name u))))
    (one 93 (omega arith))
  where
    one : (a : ℕ) → a < 128 → IsUtf8 (a ∷ [])
    one a h = IsUtf8-from_ascii (a ∷ []) (IsAscii-cons a [] h IsAscii-nil)

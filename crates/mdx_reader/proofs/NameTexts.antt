-- A name in brackets, and where a text stops being one.
use Rattle.std.proofs.Common.{◌≡◌, ◌≢◌, ℕ, suc, ◌+◌, ◌-◌, ◌<◌, ◌≤◌, List, [], ◌∷◌, ◌++◌, inl, inr, refl, sym, ap, subst, ◌∙◌, arith, length, take, drop, append_assoc, codes}
use Rattle.std.specs.Prelude.{◌==◌, if◌then◌else◌, encode_utf8}
use Rattle.std.specs.Char.{len_utf8}
use Rattle.std.specs.Str.{IsCharBoundary, IsUtf8, IsAscii}
use Rattle.std.proofs.lemmas.Bool.{cases_eq}
use Rattle.std.proofs.lemmas.Grind.{flat_map-append}
use Rattle.std.proofs.lemmas.List.{append-nil, length-drop, take_all}
use Rattle.std.proofs.lemmas.Str.{IsUtf8-drop, IsUtf8-append, IsUtf8-from_ascii, encode_ascii, len_utf8_ascii, len_utf8_bounds}
use Rattle.std.proofs.lemmas.Str.Ascii.{IsAscii-cons, IsAscii-nil}
use Rattle.query_meaning.specs.Tokens.{escaped, bracketed}
use Rattle.text_forms.specs.NameFacts.{escaped_other, escaped_close}
use Rattle.mdx_reader.specs.PathTexts.{BeginsName}
use Rattle.mdx_reader.specs.PathSteps.{IsByteAt, BeginsOtherwise, IsCharAt, IsNameAt, NameStops}
use Rattle.mdx_reader.proofs.Characters.{escaped_character}
use Rattle.mdx_reader.proofs.TextPlaces.{behind_byte}

-- the brackets of a name opened at the byte `from`, and its characters up to the byte `at` are these
pub record IsNameTo (text : List ℕ) (from : ℕ) (name : List ℕ) (at : ℕ) : Type 0 where
  pub forward : from < at
  pub boundary : IsCharBoundary text at
  pub parts : drop from text ≡ 91 ∷ (escaped name ++ drop at text)

escaped_push : (name more : List ℕ) → escaped (name ++ more) ≡ escaped name ++ escaped more
escaped_push name more = flat_map-append (λ c. if c == 93 then codes "]]" else c ∷ []) name more

-- a name in its brackets, and what follows
in_brackets : (name rest : List ℕ) → bracketed name ++ rest ≡ 91 ∷ (escaped name ++ 93 ∷ rest)
in_brackets name rest = ap (λ x. 91 ∷ x) (append_assoc (escaped name) (93 ∷ []) rest)

pub opened : {name text rest : List ℕ} → BeginsName name text rest → text ≡ 91 ∷ (escaped name ++ 93 ∷ rest)
opened {name} {text} {rest} h = h.parts ∙ in_brackets name rest

-- what may follow the characters of a name: nothing, or a "]" that no other follows
Ends : List ℕ → Type 0
Ends text = (c : ℕ) (others : List ℕ) → text ≡ c ∷ others → (c ≡ 93) × BeginsOtherwise 93 others

ends_nil : Ends []
unfolding Ends
ends_nil c others e = cc

ends_close : (others : List ℕ) → BeginsOtherwise 93 others → Ends (93 ∷ others)
unfolding Ends
ends_close others h c more e = (let k : c ≡ 93 = cc in k, λ rest f. h rest cc)

-- a character of a name, in front of what may follow the characters of another
no_end : (c : ℕ) (more x y : List ℕ) → Ends x → x ≡ escaped (c ∷ more) ++ y → ⊥
unfolding Ends
no_end c more x y h e = elim (cases_eq c 93) [
  | inl is ↦ (let k = escaped_close c more is in (h 93 (93 ∷ (escaped more ++ y)) cc).1 (escaped more ++ y) refl)
  | inr other ↦ (let k = escaped_other c more other in other (h c (escaped more ++ y) cc).0)
]

-- the same characters of a name, and the same after them
name_same : (a b x y : List ℕ) → Ends x → Ends y → escaped a ++ x ≡ escaped b ++ y → (a ≡ b) × (x ≡ y)
name_same [] [] x y m n e = (refl, e)
name_same [] (d ∷ b) x y m n e = absurd (no_end d b x y m e)
name_same (c ∷ a) [] x y m n e = absurd (no_end c a y x n (sym e))
name_same (c ∷ a) (d ∷ b) x y m n e = elim (cases_eq c 93) [
  | inl is ↦ elim (cases_eq d 93) [
    | inl was ↦ (
        let j = escaped_close c a is in
        let k = escaped_close d b was in
        let r = name_same a b x y m n cc in
        let s : c ∷ a ≡ d ∷ b = (let f = r.0 in cc) in
        (s, r.1))
    | inr was ↦ (let j = escaped_close c a is in let k = escaped_other d b was in absurd (was cc))
  ]
  | inr other ↦ elim (cases_eq d 93) [
    | inl was ↦ (let j = escaped_other c a other in let k = escaped_close d b was in absurd (other cc))
    | inr was ↦ (
        let j = escaped_other c a other in
        let k = escaped_other d b was in
        let r = name_same a b x y m n cc in
        let s : c ∷ a ≡ d ∷ b = (let f = r.0 in cc) in
        (s, r.1))
  ]
]

-- what follows a name is one
pub rest_same : (n m text r s : List ℕ) → BeginsName n text r → BeginsName m text s → r ≡ s
rest_same n m text r s h k =
    let e = sym (opened h) ∙ opened k in
    let f : escaped n ++ 93 ∷ r ≡ escaped m ++ 93 ∷ s = cc in
    let g = (name_same n m (93 ∷ r) (93 ∷ s) (ends_close r h.ends) (ends_close s k.ends) f).1 in
    cc

-- a name opens
pub name_opens : (text : List ℕ) (from : ℕ) (name : List ℕ) → IsUtf8 text → IsByteAt text from 91 → name ≡ [] → IsNameTo text from name (from + 1)
name_opens text from name u b e = record {
  forward = omega arith;
  boundary = behind_byte text from 91 u (omega arith) b;
  parts = b.parts ∙ ap (λ x. 91 ∷ (escaped x ++ drop (from + 1) text)) (sym e);
}

-- one character more, as it stands in a name
more : (text : List ℕ) (from at end : ℕ) (name one new : List ℕ) → IsNameTo text from name at → at < end → IsCharBoundary text end → drop at text ≡ escaped one ++ drop end text → new ≡ name ++ one → IsNameTo text from new end
more text from at end name one new h lt b e f = record {
  forward = omega (arith, h.forward);
  boundary = b;
  parts = h.parts ∙ ap (λ x. 91 ∷ (escaped name ++ x)) e ∙ ap (λ x. 91 ∷ x) (sym (append_assoc (escaped name) (escaped one) (drop end text)) ∙ ap (λ x. x ++ drop end text) (sym (ap escaped f ∙ escaped_push name one)));
}

pub name_more : (text : List ℕ) (from at c end : ℕ) (name new : List ℕ) → IsNameTo text from name at → IsCharAt text at c → c ≢ 93 → end ≡ at + len_utf8 c → new ≡ name ++ encode_utf8 c → IsNameTo text from new end
name_more text from at c end name new h k ne f e =
    more text from at end name (encode_utf8 c) new h (omega (arith, (len_utf8_bounds c).0)) (subst (IsCharBoundary text) (sym f) k.boundary) (k.parts ∙ ap (λ x. x ++ drop (at + len_utf8 c) text) (sym (escaped_character c ne)) ∙ ap (λ n. escaped (encode_utf8 c) ++ drop n text) (sym f)) e

-- the character "]" is one byte
close_at : (text : List ℕ) (at c end : ℕ) → IsCharAt text at c → c ≡ 93 → end ≡ at + len_utf8 c → (drop at text ≡ 93 ∷ drop end text) × (end ≡ at + 1) × IsCharBoundary text end
close_at text at c end h e f =
    let low : c < 128 = omega arith in
    let k = encode_ascii c low in
    let parts : drop at text ≡ 93 ∷ drop end text = h.parts ∙ ap (λ x. x ++ drop (at + len_utf8 c) text) k ∙ ap (λ x. x ∷ drop (at + len_utf8 c) text) e ∙ ap (λ x. 93 ∷ drop x text) (sym f) in
    (parts, omega (arith, len_utf8_ascii c low), subst (IsCharBoundary text) (sym f) h.boundary)

pub name_more_close : (text : List ℕ) (from at c end next : ℕ) (name new : List ℕ) → IsUtf8 text → IsNameTo text from name at → IsCharAt text at c → c ≡ 93 → end ≡ at + len_utf8 c → IsByteAt text end 93 → next ≡ end + 1 → new ≡ name ++ encode_utf8 c → IsNameTo text from new next
name_more_close text from at c end next name new u h k is f b n e =
    let close = close_at text at c end k is f in
    let one : encode_utf8 c ≡ 93 ∷ [] = encode_ascii c (omega arith) ∙ ap (λ x. x ∷ []) is in
    more text from at next name (93 ∷ []) new h (omega (arith, close.1)) (subst (IsCharBoundary text) (sym n) (behind_byte text end 93 u (omega arith) b)) (close.0 ∙ ap (λ x. 93 ∷ x) b.parts ∙ ap (λ m. 93 ∷ 93 ∷ drop m text) (sym n)) (e ∙ ap (λ x. name ++ x) one)

-- a name ends
pub name_ends : (text : List ℕ) (from at c end : ℕ) (name : List ℕ) → IsNameTo text from name at → IsCharAt text at c → c ≡ 93 → end ≡ at + len_utf8 c → BeginsOtherwise 93 (drop end text) → name ≢ [] → IsNameAt text from name end
name_ends text from at c end name h k is f o some =
    let close = close_at text at c end k is f in
    record {
      forward = omega (arith, h.forward, close.1);
      boundary = close.2;
      begins = record {
        some = some;
        parts = h.parts ∙ ap (λ x. 91 ∷ (escaped name ++ x)) close.0 ∙ sym (in_brackets name (drop end text));
        ends = o;
      };
    }

-- texts that close a name
closed : IsAscii (93 ∷ [])
closed = IsAscii-cons 93 [] (omega arith) IsAscii-nil

empty_closed : IsAscii (91 ∷ 93 ∷ 93 ∷ 93 ∷ [])
empty_closed = IsAscii-cons 91 (93 ∷ 93 ∷ 93 ∷ []) (omega arith) (IsAscii-cons 93 (93 ∷ 93 ∷ []) (omega arith) (IsAscii-cons 93 (93 ∷ []) (omega arith) closed))

closing : IsAscii (120 ∷ 93 ∷ [])
closing = IsAscii-cons 120 (93 ∷ []) (omega arith) closed

-- no name begins a text that begins otherwise
pub no_name : (text : List ℕ) (from : ℕ) → from ≤ length text → BeginsOtherwise 91 (drop from text) → NameStops text from from
no_name text from le o = record {
  forward = omega arith;
  within = le;
  none = λ name rest h. o (escaped name ++ 93 ∷ rest) (opened h);
  goes_on = (91 ∷ 120 ∷ 93 ∷ [], 120 ∷ [], subst (λ n. IsUtf8 (take n (drop from text) ++ 91 ∷ 120 ∷ 93 ∷ []) × BeginsName (120 ∷ []) (take n (drop from text) ++ 91 ∷ 120 ∷ 93 ∷ []) []) (let z : 0 ≡ from - from = omega arith in z) (IsUtf8-from_ascii (91 ∷ 120 ∷ 93 ∷ []) (IsAscii-cons 91 (120 ∷ 93 ∷ []) (omega arith) closing), record { some = λ e. cc; parts = refl; ends = λ others e. cc }));
  no_further = λ lt more name rest h. first (drop from text) more (escaped name ++ 93 ∷ rest) (omega (arith, length-drop from text)) o (subst (λ n. take n (drop from text) ++ more ≡ 91 ∷ (escaped name ++ 93 ∷ rest)) (let z : suc from - from ≡ 1 = omega arith in z) (opened h));
}
  where
    first : (s behind t : List ℕ) → 0 < length s → BeginsOtherwise 91 s → take 1 s ++ behind ≡ 91 ∷ t → ⊥
    first [] behind t lt h e = absurd (omega arith)
    first (c ∷ s) behind t lt h e = h s (let k : c ≡ 91 = cc in ap (λ x. x ∷ s) k)

-- "[]", and then no "]"
empty : (s t : List ℕ) → s ≡ 91 ∷ 93 ∷ t → BeginsOtherwise 93 t → (name rest : List ℕ) → ¬ BeginsName name s rest
empty s t e o name rest h =
    let k = opened h in
    let f : escaped name ++ 93 ∷ rest ≡ escaped [] ++ 93 ∷ t = cc in
    h.some (name_same name [] (93 ∷ rest) (93 ∷ t) (ends_close rest h.ends) (ends_close t o) f).0

empty_further : (s t : List ℕ) → s ≡ 91 ∷ 93 ∷ t → BeginsOtherwise 93 t → 2 < length s → (more name rest : List ℕ) → ¬ BeginsName name (take 3 s ++ more) rest
empty_further s [] e o lt more name rest h = omega (arith, ap length e)
empty_further s (c ∷ t) e o lt more name rest h =
    empty (take 3 s ++ more) (c ∷ more) (ap (λ x. take 3 x ++ more) e) (λ others f. o t (let k : c ≡ 93 = cc in ap (λ x. x ∷ t) k)) name rest h

pub name_empty : (text : List ℕ) (from at c end : ℕ) (name : List ℕ) → IsNameTo text from name at → IsCharAt text at c → c ≡ 93 → end ≡ at + len_utf8 c → BeginsOtherwise 93 (drop end text) → name ≡ [] → NameStops text from end
name_empty text from at c end name h k is f o none =
    let close = close_at text at c end k is f in
    let e : drop from text ≡ 91 ∷ 93 ∷ drop end text = h.parts ∙ ap (λ x. 91 ∷ (escaped x ++ drop at text)) none ∙ ap (λ x. 91 ∷ x) close.0 in
    let size = ap length e in
    let forward : from < end = omega (arith, h.forward, close.1) in
    let within : end ≤ length text = close.2.0 in
    let two : 2 ≡ end - from = omega (arith, size, length-drop from text, length-drop end text) in
    let three : suc end - from ≡ 3 = omega arith in
    record {
      forward = omega arith;
      within = within;
      none = empty (drop from text) (drop end text) e o;
      goes_on = (93 ∷ 93 ∷ [], 93 ∷ [], subst (λ x. IsUtf8 (x ++ 93 ∷ 93 ∷ []) × BeginsName (93 ∷ []) (x ++ 93 ∷ 93 ∷ []) []) (ap (take 2) (sym e) ∙ ap (λ n. take n (drop from text)) two) (IsUtf8-from_ascii (91 ∷ 93 ∷ 93 ∷ 93 ∷ []) empty_closed, record { some = λ q. cc; parts = refl; ends = λ others q. cc }));
      no_further = λ lt more name rest b. empty_further (drop from text) (drop end text) e o (omega (arith, length-drop from text)) more name rest (subst (λ n. BeginsName name (take n (drop from text) ++ more) rest) three b);
    }

-- the text ends within a name
pub name_open : (text : List ℕ) (from at : ℕ) (name : List ℕ) → IsUtf8 text → IsCharBoundary text from → IsNameTo text from name at → drop at text ≡ [] → NameStops text from at
name_open text from at name u b h end =
    let e : drop from text ≡ 91 ∷ escaped name = h.parts ∙ ap (λ x. 91 ∷ (escaped name ++ x)) end ∙ ap (λ x. 91 ∷ x) (append-nil (escaped name)) in
    let size : length text ≡ at = omega (arith, h.boundary.0, ap length end, length-drop at text) in
    let whole : take (at - from) (drop from text) ≡ drop from text = take_all (at - from) (drop from text) (omega (arith, length-drop from text)) in
    record {
      forward = omega (arith, h.forward);
      within = omega arith;
      none = λ other rest k. (let q = opened k in let f : escaped other ++ 93 ∷ rest ≡ escaped name ++ [] = (let z = append-nil (escaped name) in cc) in let g = (name_same other name (93 ∷ rest) [] (ends_close rest k.ends) ends_nil f).1 in cc);
      goes_on = (
        120 ∷ 93 ∷ [],
        name ++ 120 ∷ [],
        subst (λ x. IsUtf8 (x ++ 120 ∷ 93 ∷ []) × BeginsName (name ++ 120 ∷ []) (x ++ 120 ∷ 93 ∷ []) []) (sym whole) (
          IsUtf8-append (drop from text) (120 ∷ 93 ∷ []) (IsUtf8-drop text from u b) (IsUtf8-from_ascii (120 ∷ 93 ∷ []) closing),
          record {
            some = pushed name;
            parts = ap (λ x. x ++ 120 ∷ 93 ∷ []) e ∙ ap (λ x. 91 ∷ x) (sym (append_assoc (escaped name) (120 ∷ []) (93 ∷ [])) ∙ ap (λ x. x ++ 93 ∷ []) (sym (escaped_push name (120 ∷ [])))) ∙ sym (append-nil (bracketed (name ++ 120 ∷ [])));
            ends = λ others q. cc;
          },
        ),
      );
      no_further = λ lt. absurd (omega arith);
    }
  where
    pushed : (u : List ℕ) → u ++ 120 ∷ [] ≢ []
    pushed [] e = cc
    pushed (x ∷ u) e = cc

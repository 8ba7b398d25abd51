-- Closing texts: where a grammar can be completed, some text completes it.
use Rattle.std.specs.Prelude.{encode_utf8_all}
use Rattle.std.specs.Char.{len_utf8}
use Rattle.std.specs.Str.{IsAscii}
use Rattle.std.proofs.Common.{◌≡◌, ◌≢◌, ◌++◌, ◌+◌, ◌<◌, ◌≤◌, ℕ, Bool, true, false, List, [], ◌∷◌, inl, inr, refl, sym, ap, subst, ◌∙◌, arith}
use Rattle.std.proofs.lemmas.Bool.{cases_eq, cases_lt}
use Rattle.std.proofs.lemmas.Bool.Decides.{nat_tests}
use Rattle.std.proofs.lemmas.Str.{IsAscii-append, IsAscii-drop, encodes-IsAscii}
use Rattle.std.proofs.lemmas.Str.Ascii.{IsAscii-nil, IsAscii-cons}
use Rattle.text_forms.specs.Names as names
use Rattle.query_meaning.specs.Tokens.{escaped, size}
use Rattle.text_forms.specs.Forms as forms
use Rattle.text_forms.specs.NameFacts.{escaped_other, escaped_close, in_name_closes, closing_closes}
use Rattle.query_meaning.specs.declared.token.Class.TheVariants as class_is
use Rattle.query_meaning.specs.declared.token.Token.{Token}
use Rattle.query_meaning.specs.declared.token.Token.TheVariants.{Word, Sign, Name}
use Rattle.text_forms.specs.declared.mode.Mode.{Mode}
use Rattle.text_forms.specs.declared.mode.Mode.TheVariants.{Between, InWord, InName, Closing}
use Rattle.query_meaning.specs.Tokens.{class, Placed, At, AreLetters, in_capitals, Spells, ended, white, sign, word, name}
use Rattle.text_forms.specs.Grammars.{kinds, AreKinds, IsViable, WantsName}
use Rattle.text_forms.specs.Modes.{Named, Left, MayCome}

white_space : class 32 ≡ class_is.White
unfolding class
white_space = refl

opened : class 91 ≡ class_is.Open
unfolding class
opened = refl

-- beyond ASCII nothing begins
pub above : (c : ℕ) → 128 ≤ c → class c ≡ class_is.Other
unfolding class
above c h = grind (arith, nat_tests)

pub class_ascii : (c : ℕ) → class c ≢ class_is.Other → c < 128
class_ascii c h = elim (cases_lt c 128) [ inl lt ↦ lt | inr ge ↦ absurd (h (above c ge)) ]

pub letter_ascii : (c : ℕ) → class c ≡ class_is.Letter → c < 128
letter_ascii c e = class_ascii c (λ f. cc)

pub sign_ascii : (c : ℕ) → class c ≡ class_is.Sign → c < 128
sign_ascii c e = class_ascii c (λ f. cc)

letters_ascii : (cs : List ℕ) → AreLetters cs → IsAscii cs
letters_ascii [] h = IsAscii-nil
letters_ascii (c ∷ cs) h = IsAscii-cons c cs (letter_ascii c h.0) (letters_ascii cs h.1)

escaped_ascii : (cs : List ℕ) → IsAscii cs → IsAscii (escaped cs)
escaped_ascii [] h = IsAscii-nil
escaped_ascii (c ∷ cs) h = elim (cases_eq c 93) [
  | inl e ↦ subst IsAscii (sym (escaped_close c cs e)) (IsAscii-cons 93 (93 ∷ escaped cs) (omega arith) (IsAscii-cons 93 (escaped cs) (omega arith) (escaped_ascii cs (IsAscii-drop (c ∷ cs) 1 h))))
  | inr e ↦ subst IsAscii (sym (escaped_other c cs e)) (IsAscii-cons c (escaped cs) (h 0) (escaped_ascii cs (IsAscii-drop (c ∷ cs) 1 h)))
]

-- a text of these tokens
pub record ClosingText (ks : List Token) (after : Bool) (at : ℕ) : Type 0 where
  pub text : List ℕ
  pub tokens : List Placed
  pub same : kinds tokens ≡ ks
  pub spelled : Spells after at tokens text
  pub ascii : IsAscii text

pub text_of : (ks : List Token) → AreKinds ks → (after : Bool) (at : ℕ) → ClosingText ks after at
text_of [] h after at = record { text = []; tokens = []; same = refl; spelled = ended; ascii = IsAscii-nil }
text_of (Sign c ∷ ks) h after at =
    let place = at + len_utf8 32 in
    let t = text_of ks h.1 false (place + len_utf8 c) in
    record {
      text = 32 ∷ c ∷ t.text;
      tokens = At place (Sign c) ∷ t.tokens;
      same = ap (λ x. Sign c ∷ x) t.same;
      spelled = white white_space (sign h.0 t.spelled);
      ascii = IsAscii-cons 32 (c ∷ t.text) (omega arith) (IsAscii-cons c t.text (sign_ascii c h.0) t.ascii);
    }
text_of (Word [] ∷ ks) h after at = absurd (h.0.0 refl)
text_of (Word (c ∷ more) ∷ ks) h after at =
    let place = at + len_utf8 32 in
    let t = text_of ks h.1 true (place + len_utf8 c + size more) in
    record {
      text = 32 ∷ c ∷ (more ++ t.text);
      tokens = At place (Word (in_capitals (c ∷ more))) ∷ t.tokens;
      same = ap (λ x. Word x ∷ kinds t.tokens) h.0.2 ∙ ap (λ x. Word (c ∷ more) ∷ x) t.same;
      spelled = white white_space (word more t.text h.0.1.0 h.0.1.1 refl t.spelled);
      ascii = IsAscii-cons 32 (c ∷ (more ++ t.text)) (omega arith) (IsAscii-cons c (more ++ t.text) (letter_ascii c h.0.1.0) (IsAscii-append more t.text (letters_ascii more h.0.1.1) t.ascii));
    }
text_of (Name bytes ∷ ks) h after at =
    let place = at + len_utf8 32 in
    let t = text_of ks h.1 false (place + len_utf8 91 + size (escaped bytes) + 1) in
    let one = encodes-IsAscii bytes h.0.1 in
    record {
      text = 32 ∷ 91 ∷ (escaped bytes ++ 93 ∷ t.text);
      tokens = At place (Name (encode_utf8_all bytes)) ∷ t.tokens;
      same = ap (λ x. Name x ∷ kinds t.tokens) one ∙ ap (λ x. Name bytes ∷ x) t.same;
      spelled = white white_space (name bytes t.text opened (λ e. h.0.0 (sym one ∙ e)) refl t.spelled);
      ascii = IsAscii-cons 32 (91 ∷ (escaped bytes ++ 93 ∷ t.text)) (omega arith) (IsAscii-cons 91 (escaped bytes ++ 93 ∷ t.text) (omega arith) (IsAscii-append (escaped bytes) (93 ∷ t.text) (escaped_ascii bytes h.0.1) (IsAscii-cons 93 t.text (omega arith) t.ascii)));
    }

letters_behind : (front more : List ℕ) → AreLetters (front ++ more) → AreLetters more
letters_behind [] more h = h
letters_behind (c ∷ front) more h = letters_behind front more h.1

tails : (c d : ℕ) (xs ys : List ℕ) → c ∷ xs ≡ d ∷ ys → xs ≡ ys
tails c d xs ys e = cc

capitals_behind : (front more : List ℕ) → in_capitals (front ++ more) ≡ front ++ more → in_capitals more ≡ more
capitals_behind [] more h = h
capitals_behind (c ∷ front) more h = capitals_behind front more (tails _ _ _ _ h)

module _ {Q : Type 0} (R : List Placed → Q → Type 0) where
  -- after a name that may come
  behind_name : ℕ → ℕ → List ℕ → List ℕ → Q × List Placed → Type 0
  behind_name from at bytes cs whole = Named from whole.1 at bytes cs × R whole.1 whole.0

  name_goes : (from : ℕ) → WantsName R true → (at : ℕ) (bytes : List ℕ) → bytes ≢ [] → forms.GoesOn (behind_name from at bytes)
  unfolding behind_name
  name_goes from v at bytes some =
      let k = v bytes some in
      let t = text_of k.0 k.1 false at in
      let ts = At from (Name bytes) ∷ t.tokens in
      let f = k.2 ts (ap (λ x. Name bytes ∷ x) t.same) in
      record { closing = t.text; whole = (f.0, ts); ascii = t.ascii; goes = ((t.tokens, refl, t.spelled), f.1) }

  in_name : {from at : ℕ} {bytes cs : List ℕ} (whole : Q × List Placed) → names.InName bytes (λ n x rest. behind_name from n x rest whole) at cs → Left R (InName from bytes) at cs whole.0
  unfolding behind_name
  in_name whole r = record { tokens = whole.1; spelled = record { more = r.more; rest = r.rest; some = r.some; parts = r.parts; goes = r.goes.0 }; rest = r.goes.1 }

  in_closing : {from at : ℕ} {bytes cs : List ℕ} (whole : Q × List Placed) → names.Closing bytes (λ n x rest. behind_name from n x rest whole) at cs → Left R (Closing from bytes) at cs whole.0
  unfolding behind_name
  in_closing whole (inl h) = record { tokens = whole.1; spelled = inl (h.0, h.1.0); rest = h.1.1 }
  in_closing whole (inr (rest, e, r)) = record { tokens = whole.1; spelled = inr (rest, e, record { more = r.more; rest = r.rest; some = r.some; parts = r.parts; goes = r.goes.0 }); rest = r.goes.1 }

  pub lexer_closes : IsViable R → (mode : Mode) (at : ℕ) → MayCome R mode → forms.GoesOn (Left R mode at)
  lexer_closes viable (Between after) at h =
      let t = text_of viable.0 viable.1.0 after at in
      let f = viable.1.1 t.tokens t.same in
      record { closing = t.text; whole = f.0; ascii = t.ascii; goes = record { tokens = t.tokens; spelled = t.spelled; rest = f.1 } }
  lexer_closes viable (InWord from letters) at h =
      let t = text_of h.1 h.2.0.1 true (at + size h.0) in
      let same : letters ++ in_capitals h.0 ≡ letters ++ h.0 = ap (λ x. letters ++ x) (capitals_behind letters h.0 h.2.0.0.2) in
      let ts = At from (Word (letters ++ in_capitals h.0)) ∷ t.tokens in
      let f = h.2.1 ts (ap (λ x. Word x ∷ kinds t.tokens) same ∙ ap (λ x. Word (letters ++ h.0) ∷ x) t.same) in
      let more = letters_behind letters h.0 h.2.0.0.1 in
      record {
        closing = h.0 ++ t.text;
        whole = f.0;
        ascii = IsAscii-append h.0 t.text (letters_ascii h.0 more) t.ascii;
        goes = record { tokens = ts; spelled = record { more = h.0; rest = t.text; others = t.tokens; word = more; parts = refl; first = refl; goes = t.spelled }; rest = f.1 };
      }
  lexer_closes viable (InName from bytes) at h =
      let g = in_name_closes (behind_name from) (name_goes from h) bytes at in
      record { closing = g.closing; whole = g.whole.0; ascii = g.ascii; goes = in_name g.whole g.goes }
  lexer_closes viable (Closing from bytes) at h =
      let g = closing_closes (behind_name from) (name_goes from h) bytes at in
      record { closing = g.closing; whole = g.whole.0; ascii = g.ascii; goes = in_closing g.whole g.goes }

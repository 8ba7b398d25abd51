-- One character more: what the tokens of a text are before it and after it.
use Rattle.std.specs.Char.{len_utf8, to_ascii_uppercase}
use Rattle.std.proofs.Common.{◌≡◌, ◌≢◌, ◌++◌, ◌+◌, ◌<◌, ℕ, Bool, true, false, List, [], ◌∷◌, inl, inr, refl, sym, ap, subst, ◌∙◌, arith, append_assoc}
use Rattle.std.proofs.lemmas.List.{append-nil}
use Rattle.text_forms.specs.Forms.{BeginAlike}
use Rattle.text_forms.specs.Names as names
use Rattle.query_meaning.specs.Tokens.{size}
use Rattle.text_forms.specs.NameFacts.{size_more}
use Rattle.query_meaning.specs.declared.token.Class.TheVariants as class_is
use Rattle.query_meaning.specs.declared.token.Token.TheVariants.{Word, Sign}
use Rattle.query_meaning.specs.Tokens.{class, Placed, At, AreLetters, in_capitals, Spells, ended, white, sign, word, name}
use Rattle.text_forms.specs.Modes.{WithinWord, Ended, Named}
use Rattle.text_forms.specs.Closings.{above}

-- characters that begin alike
pub alike_class : {c d : ℕ} → BeginAlike c d → class d ≡ class c
alike_class (inl e) = ap class (sym e)
alike_class {c} {d} (inr h) = above d h.1 ∙ sym (above c h.0)

pub alike_low : {c d : ℕ} → BeginAlike c d → c < 128 → d ≡ c
alike_low (inl e) low = sym e
alike_low (inr h) low = absurd (omega (arith, h.0))

-- white
pub white_down : {after : Bool} {at c : ℕ} {ts : List Placed} {cs : List ℕ} → class c ≡ class_is.White → Spells after at ts (c ∷ cs) → Spells false (at + len_utf8 c) ts cs
white_down e (white f r) = r
white_down e (sign f r) = absurd cc
white_down e (word more rest f g p r) = absurd cc
white_down e (name more rest f g p r) = absurd cc

-- a sign
pub sign_down : {after : Bool} {at c : ℕ} {ts : List Placed} {cs : List ℕ} → class c ≡ class_is.Sign → Spells after at ts (c ∷ cs) → Ended false at (Sign c) (at + len_utf8 c) ts cs
sign_down e (white f r) = absurd cc
sign_down e (sign {tokens} f r) = (tokens, refl, r)
sign_down e (word more rest f g p r) = absurd cc
sign_down e (name more rest f g p r) = absurd cc

pub sign_up : {after : Bool} {at c : ℕ} {ts : List Placed} {cs : List ℕ} → class c ≡ class_is.Sign → Ended false at (Sign c) (at + len_utf8 c) ts cs → Spells after at ts (c ∷ cs)
sign_up {after} {at} {c} {ts} {cs} e r = subst (λ us. Spells after at us (c ∷ cs)) (sym r.1) (sign e r.2)

-- a letter
pub letter_down : {at c : ℕ} {ts : List Placed} {cs : List ℕ} → class c ≡ class_is.Letter → Spells false at ts (c ∷ cs) → WithinWord at (to_ascii_uppercase c ∷ []) (at + len_utf8 c) ts cs
letter_down e (white f r) = absurd cc
letter_down e (sign f r) = absurd cc
letter_down e (word {tokens} more rest f g p r) = record { more = more; rest = rest; others = tokens; word = g; parts = p; first = refl; goes = r }
letter_down e (name more rest f g p r) = absurd cc

pub letter_up : {at c : ℕ} {ts : List Placed} {cs : List ℕ} → class c ≡ class_is.Letter → WithinWord at (to_ascii_uppercase c ∷ []) (at + len_utf8 c) ts cs → Spells false at ts (c ∷ cs)
letter_up {at} {c} {ts} {cs} e r = subst (λ us. Spells false at us (c ∷ cs)) (sym r.first) (word r.more r.rest e r.word r.parts r.goes)

pub letter_not : {at c : ℕ} {ts : List Placed} {cs : List ℕ} → class c ≡ class_is.Letter → Spells true at ts (c ∷ cs) → ⊥
letter_not e (white f r) = cc
letter_not e (sign f r) = cc
letter_not e (name more rest f g p r) = cc

-- "["
pub open_down : {after : Bool} {at c : ℕ} {ts : List Placed} {cs : List ℕ} → class c ≡ class_is.Open → Spells after at ts (c ∷ cs) → names.InName [] (Named at ts) (at + len_utf8 c) cs
open_down e (white f r) = absurd cc
open_down e (sign f r) = absurd cc
open_down e (word more rest f g p r) = absurd cc
open_down e (name {tokens} more rest f g p r) = record { more = more; rest = rest; some = g; parts = p; goes = (tokens, refl, r) }

pub open_up : {after : Bool} {at c : ℕ} {ts : List Placed} {cs : List ℕ} → class c ≡ class_is.Open → names.InName [] (Named at ts) (at + len_utf8 c) cs → Spells after at ts (c ∷ cs)
open_up {after} {at} {c} {ts} {cs} e r = subst (λ us. Spells after at us (c ∷ cs)) (sym r.goes.1) (name r.more r.rest e r.some r.parts r.goes.2)

-- any other character
pub other_not : {after : Bool} {at c : ℕ} {ts : List Placed} {cs : List ℕ} → class c ≡ class_is.Other → Spells after at ts (c ∷ cs) → ⊥
other_not e (white f r) = cc
other_not e (sign f r) = cc
other_not e (word more rest f g p r) = cc
other_not e (name more rest f g p r) = cc

-- the end
pub none_left : {after : Bool} {at : ℕ} {ts : List Placed} → Spells after at ts [] → ts ≡ []
none_left ended = refl

moved : {after : Bool} (m n : ℕ) (ts : List Placed) (cs ds : List ℕ) → m ≡ n → cs ≡ ds → Spells after m ts cs → Spells after n ts ds
moved {after} m n ts cs ds e f r = subst (λ x. Spells after n ts x) f (subst (λ k. Spells after k ts cs) e r)

respelled : (from : ℕ) (u v : List ℕ) (others ts : List Placed) → u ≡ v → ts ≡ At from (Word u) ∷ others → ts ≡ At from (Word v) ∷ others
respelled from u v others ts e f = f ∙ ap (λ x. At from (Word x) ∷ others) e

-- a word, one letter more
word_more' : (from at c : ℕ) (u cs : List ℕ) (ts : List Placed) (more rest : List ℕ) (others : List Placed) → class c ≡ class_is.Letter → AreLetters more → c ∷ cs ≡ more ++ rest → ts ≡ At from (Word (u ++ in_capitals more)) ∷ others → Spells true (at + size more) others rest → WithinWord from (u ++ to_ascii_uppercase c ∷ []) (at + len_utf8 c) ts cs
word_more' from at c u cs ts [] rest others e g p f r =
    let q : rest ≡ c ∷ cs = cc in
    absurd (letter_not e (subst (λ x. Spells true (at + size []) others x) q r))
word_more' from at c u cs ts (d ∷ more) rest others e g p f r =
    let q : cs ≡ more ++ rest = cc in
    let same : d ≡ c = cc in
    let k : u ++ in_capitals (d ∷ more) ≡ (u ++ to_ascii_uppercase c ∷ []) ++ in_capitals more = ap (λ x. u ++ (to_ascii_uppercase x ∷ in_capitals more)) same ∙ sym (append_assoc u (to_ascii_uppercase c ∷ []) (in_capitals more)) in
    let w : size (d ∷ more) ≡ len_utf8 c + size more = size_more d more ∙ ap (λ x. len_utf8 x + size more) same in
    record { more = more; rest = rest; others = others; word = g.1; parts = q; first = respelled from _ _ others ts k f; goes = moved _ _ others rest rest (omega (arith, w)) refl r }

pub word_more : {from at c : ℕ} {u cs : List ℕ} {ts : List Placed} → class c ≡ class_is.Letter → WithinWord from u at ts (c ∷ cs) → WithinWord from (u ++ to_ascii_uppercase c ∷ []) (at + len_utf8 c) ts cs
word_more {from} {at} {c} {u} {cs} {ts} e r = word_more' from at c u cs ts r.more r.rest r.others e r.word r.parts r.first r.goes

pub word_more_up : {from at c : ℕ} {u cs : List ℕ} {ts : List Placed} → class c ≡ class_is.Letter → WithinWord from (u ++ to_ascii_uppercase c ∷ []) (at + len_utf8 c) ts cs → WithinWord from u at ts (c ∷ cs)
word_more_up {from} {at} {c} {u} {cs} {ts} e r =
    let w = size_more c r.more in
    record { more = c ∷ r.more; rest = r.rest; others = r.others; word = (e, r.word); parts = ap (λ x. c ∷ x) r.parts; first = respelled from _ _ r.others ts (append_assoc u (to_ascii_uppercase c ∷ []) (in_capitals r.more)) r.first; goes = moved _ _ r.others r.rest r.rest (omega (arith, w)) refl r.goes }

-- the text goes on with no letter
abbrev pub EndsWord : List ℕ → Type 0
EndsWord [] = Unit {0}
EndsWord (c ∷ cs) = class c ≢ class_is.Letter

word_ends' : (from at : ℕ) (u cs : List ℕ) (ts : List Placed) (more rest : List ℕ) (others : List Placed) → EndsWord cs → AreLetters more → cs ≡ more ++ rest → ts ≡ At from (Word (u ++ in_capitals more)) ∷ others → Spells true (at + size more) others rest → Ended true from (Word u) at ts cs
word_ends' from at u cs ts [] rest others e g p f r = (others, respelled from _ _ others ts (append-nil u) f, moved _ _ others rest cs (omega arith) (sym p) r)
word_ends' from at u [] ts (d ∷ more) rest others e g p f r = absurd cc
word_ends' from at u (c ∷ cs) ts (d ∷ more) rest others e g p f r =
    let same : d ≡ c = cc in
    absurd (e (ap class (sym same) ∙ g.0))

pub word_ends : {from at : ℕ} {u cs : List ℕ} {ts : List Placed} → EndsWord cs → WithinWord from u at ts cs → Ended true from (Word u) at ts cs
word_ends {from} {at} {u} {cs} {ts} e r = word_ends' from at u cs ts r.more r.rest r.others e r.word r.parts r.first r.goes

pub word_ends_up : {from at : ℕ} {u cs : List ℕ} {ts : List Placed} → Ended true from (Word u) at ts cs → WithinWord from u at ts cs
word_ends_up {from} {at} {u} {cs} {ts} r = record { more = []; rest = cs; others = r.0; word = tt; parts = refl; first = respelled from _ _ r.0 ts (sym (append-nil u)) r.1; goes = moved _ _ r.0 cs cs (omega arith) refl r.2 }

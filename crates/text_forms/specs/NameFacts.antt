-- Within a name in brackets: one character more, and the end.
use Rattle.std.proofs.Common.{◌≡◌, ◌≢◌, ℕ, ◌+◌, false, List, [], ◌∷◌, ◌++◌, inl, inr, refl, sym, ap, subst, ◌∙◌, arith, eqb, append_assoc}
use Rattle.std.specs.Prelude.{encode_utf8, encode_utf8_all}
use Rattle.std.specs.Char.{len_utf8}
use Rattle.std.proofs.lemmas.List.{append-nil, length-append}
use Rattle.std.proofs.lemmas.Bool.{cases_eq}
use Rattle.std.proofs.lemmas.Bool.Decides.{nat_tests}
use Rattle.std.proofs.lemmas.Str.{length-encode, encode_ascii}
use Rattle.std.proofs.lemmas.Str.Ascii.{IsAscii-cons}
use Rattle.query_meaning.specs.Tokens.{escaped, size}
use Rattle.text_forms.specs.Forms.{GoesOn}
use Rattle.text_forms.specs.Names.{InName, Closing}

-- a character that is no "]" stands as it is
pub escaped_other : (d : ℕ) (more : List ℕ) → d ≢ 93 → escaped (d ∷ more) ≡ d ∷ escaped more
escaped_other d more h =
    let k : eqb d 93 ≡ false = grind (arith, nat_tests) in
    rw k refl

-- a "]" stands twice
pub escaped_close : (d : ℕ) (more : List ℕ) → d ≡ 93 → escaped (d ∷ more) ≡ 93 ∷ 93 ∷ escaped more
escaped_close d more h = ap (λ (x : ℕ). escaped (x ∷ more)) h

-- how many bytes some characters take with one before them
pub size_more : (c : ℕ) (cs : List ℕ) → size (c ∷ cs) ≡ len_utf8 c + size cs
size_more c cs = length-append (encode_utf8 c) (encode_utf8_all cs) ∙ ap (λ n. n + size cs) (length-encode c)

-- a character at the end of what was read, or at the front of what comes
pushed : (u more : List ℕ) (c : ℕ) → (u ++ encode_utf8 c) ++ encode_utf8_all more ≡ u ++ encode_utf8_all (c ∷ more)
pushed u more c = append_assoc u (encode_utf8 c) (encode_utf8_all more)

-- a list that is equal to one with something in it has something in it
some_at : (x y : List ℕ) → x ≡ y → x ≢ [] → y ≢ []
some_at x y e h k = h (e ∙ k)

-- a list with something after it has something in it
pub pushed_some : (u : List ℕ) (x : ℕ) (v : List ℕ) → u ++ x ∷ v ≢ []
pushed_some [] x v e = cc
pushed_some (c ∷ u) x v e = cc

module _ (Then : ℕ → List ℕ → List ℕ → Type 0) where
  -- what follows holds for an equal place and an equal name
  moved : (m n : ℕ) (x y rest : List ℕ) → m ≡ n → x ≡ y → Then m x rest → Then n y rest
  moved m n x y rest e f h = subst (λ k. Then k y rest) e (subst (λ z. Then m z rest) f h)

  -- a character that is no "]"
  name_more' : (u s : List ℕ) (at c : ℕ) (more rest : List ℕ) → c ≢ 93 → u ++ encode_utf8_all more ≢ [] → c ∷ s ≡ escaped more ++ 93 ∷ rest → Then (at + size (escaped more) + 1) (u ++ encode_utf8_all more) rest → InName (u ++ encode_utf8 c) Then (at + len_utf8 c) s
  name_more' u s at c [] rest n g p h = absurd (n cc)
  name_more' u s at c (d ∷ more) rest n g p h = elim (cases_eq d 93) [
    | inl is ↦ (let k = escaped_close d more is in let q : c ≡ 93 = cc in absurd (n q))
    | inr other ↦ (
        let k = escaped_other d more other in
        let q : s ≡ escaped more ++ 93 ∷ rest = cc in
        let same : d ≡ c = cc in
        let z : u ++ encode_utf8_all (d ∷ more) ≡ (u ++ encode_utf8 c) ++ encode_utf8_all more = ap (λ (x : ℕ). u ++ encode_utf8_all (x ∷ more)) same ∙ sym (pushed u more c) in
        let w : size (escaped (d ∷ more)) ≡ len_utf8 c + size (escaped more) = ap size k ∙ size_more d (escaped more) ∙ ap (λ x. len_utf8 x + size (escaped more)) same in
        record { more = more; rest = rest; some = some_at _ _ z g; parts = q; goes = moved _ _ _ _ rest (omega (arith, w)) z h })
  ]

  pub name_more : {u s : List ℕ} {at c : ℕ} → c ≢ 93 → InName u Then at (c ∷ s) → InName (u ++ encode_utf8 c) Then (at + len_utf8 c) s
  name_more {u} {s} {at} {c} n r = name_more' u s at c r.more r.rest n r.some r.parts r.goes

  -- the same, from after it
  pub name_more_up : {u s : List ℕ} {at c : ℕ} → c ≢ 93 → InName (u ++ encode_utf8 c) Then (at + len_utf8 c) s → InName u Then at (c ∷ s)
  name_more_up {u} {s} {at} {c} n r =
      let z = pushed u r.more c in
      let k = escaped_other c r.more n in
      let w : size (escaped (c ∷ r.more)) ≡ len_utf8 c + size (escaped r.more) = ap size k ∙ size_more c (escaped r.more) in
      record { more = c ∷ r.more; rest = r.rest; some = some_at _ _ z r.some; parts = ap (λ x. c ∷ x) r.parts ∙ ap (λ x. x ++ 93 ∷ r.rest) (sym k); goes = moved _ _ _ _ r.rest (omega (arith, w)) z r.goes }

  -- a "]", after which the name ended or goes on with a second one
  name_close' : (u s : List ℕ) (at : ℕ) (more rest : List ℕ) → u ++ encode_utf8_all more ≢ [] → 93 ∷ s ≡ escaped more ++ 93 ∷ rest → Then (at + size (escaped more) + 1) (u ++ encode_utf8_all more) rest → Closing u Then (at + 1) s
  name_close' u s at [] rest g p h =
      let q : rest ≡ s = cc in
      inl (some_at _ _ (append-nil u) g, subst (Then (at + 1) u) q (moved _ _ _ _ rest (omega arith) (append-nil u) h))
  name_close' u s at (d ∷ more) rest g p h = elim (cases_eq d 93) [
    | inl is ↦ (
        let k = escaped_close d more is in
        let q : s ≡ 93 ∷ (escaped more ++ 93 ∷ rest) = cc in
        let z : u ++ encode_utf8_all (d ∷ more) ≡ (u ++ encode_utf8 93) ++ encode_utf8_all more = ap (λ (x : ℕ). u ++ encode_utf8_all (x ∷ more)) is ∙ sym (pushed u more 93) in
        let w : size (escaped (d ∷ more)) ≡ 1 + (1 + size (escaped more)) = ap size k ∙ size_more 93 (93 ∷ escaped more) ∙ ap (λ n. 1 + n) (size_more 93 (escaped more)) in
        inr (escaped more ++ 93 ∷ rest, q, record { more = more; rest = rest; some = some_at _ _ z g; parts = refl; goes = moved _ _ _ _ rest (omega (arith, w)) z h }))
    | inr other ↦ (let k = escaped_other d more other in let q : d ≡ 93 = cc in absurd (other q))
  ]

  pub name_close : {u s : List ℕ} {at : ℕ} → InName u Then at (93 ∷ s) → Closing u Then (at + 1) s
  name_close {u} {s} {at} r = name_close' u s at r.more r.rest r.some r.parts r.goes

  -- the same, from after it
  pub name_close_up : {u s : List ℕ} {at : ℕ} → Closing u Then (at + 1) s → InName u Then at (93 ∷ s)
  name_close_up {u} {s} {at} (inl r) =
      let z = sym (append-nil u) in
      record { more = []; rest = s; some = some_at _ _ z r.0; parts = refl; goes = moved _ _ _ _ s (omega arith) z r.1 }
  name_close_up {u} {s} {at} (inr (t, q, r)) =
      let z = pushed u r.more 93 in
      let w : size (escaped (93 ∷ r.more)) ≡ 1 + (1 + size (escaped r.more)) = size_more 93 (93 ∷ escaped r.more) ∙ ap (λ n. 1 + n) (size_more 93 (escaped r.more)) in
      record { more = 93 ∷ r.more; rest = r.rest; some = some_at _ _ z r.some; parts = ap (λ x. 93 ∷ x) (q ∙ ap (λ x. 93 ∷ x) r.parts); goes = moved _ _ _ _ r.rest (omega (arith, w)) z r.goes }

  -- a second "]"
  pub closing_more : {u s : List ℕ} {at : ℕ} → ¬ Then at u (93 ∷ s) → Closing u Then at (93 ∷ s) → InName (u ++ encode_utf8 93) Then (at + 1) s
  closing_more n (inl h) = absurd (n h.1)
  closing_more {u} {s} {at} n (inr (t, q, r)) =
      let h : t ≡ s = cc in
      subst (λ (x : List ℕ). InName (u ++ encode_utf8 93) Then (at + 1) x) h r

  -- the same, from after it
  pub closing_more_up : {u s : List ℕ} {at : ℕ} → InName (u ++ encode_utf8 93) Then (at + 1) s → Closing u Then at (93 ∷ s)
  closing_more_up {u} {s} r = inr (s, refl, r)

  -- the name ended at the "]"
  pub closing_ends : {u s : List ℕ} {at c : ℕ} → c ≢ 93 → Closing u Then at (c ∷ s) → (u ≢ []) × Then at u (c ∷ s)
  closing_ends n (inl h) = h
  closing_ends n (inr (t, q, r)) = absurd (n cc)

  -- the same, at the end of the text
  pub closing_ends_text : {u : List ℕ} {at : ℕ} → Closing u Then at [] → (u ≢ []) × Then at u []
  closing_ends_text (inl h) = h
  closing_ends_text (inr (t, q, r)) = absurd cc

  -- no name is open at the end
  name_open' : (more rest : List ℕ) → [] ≡ more ++ 93 ∷ rest → ⊥
  name_open' [] rest e = cc
  name_open' (c ∷ more) rest e = cc

  pub name_open : {u : List ℕ} {at : ℕ} → ¬ InName u Then at []
  name_open r = name_open' (escaped r.more) r.rest r.parts

-- closing texts
module _ {Q : Type 0} (T : ℕ → List ℕ → List ℕ → Q → Type 0) (goes : (n : ℕ) (name : List ℕ) → name ≢ [] → GoesOn (T n name)) where
  pub in_name_closes : (u : List ℕ) (at : ℕ) → GoesOn (λ cs q. InName u (λ n name rest. T n name rest q) at cs)
  in_name_closes u at =
      let one : encode_utf8_all (120 ∷ []) ≡ 120 ∷ [] = append-nil (encode_utf8 120) ∙ encode_ascii 120 (omega arith) in
      let some = some_at _ _ (ap (λ x. u ++ x) (sym one)) (pushed_some u 120 []) in
      let g = goes (at + size (escaped (120 ∷ [])) + 1) (u ++ encode_utf8_all (120 ∷ [])) some in
      record {
        closing = 120 ∷ 93 ∷ g.closing;
        whole = g.whole;
        ascii = IsAscii-cons 120 (93 ∷ g.closing) (omega arith) (IsAscii-cons 93 g.closing (omega arith) g.ascii);
        goes = record { more = 120 ∷ []; rest = g.closing; some = some; parts = refl; goes = g.goes };
      }

  pub closing_closes : (u : List ℕ) (at : ℕ) → GoesOn (λ cs q. Closing u (λ n name rest. T n name rest q) at cs)
  closing_closes u at =
      let g = in_name_closes (u ++ encode_utf8 93) (at + 1) in
      record {
        closing = 93 ∷ g.closing;
        whole = g.whole;
        ascii = IsAscii-cons 93 g.closing (omega arith) g.ascii;
        goes = inr (g.closing, refl, g.goes);
      }

-- where what follows does not speak of places, a name may stand anywhere
module _ (Then : List ℕ → List ℕ → Type 0) where
  pub in_name_anywhere : {u cs : List ℕ} {m n : ℕ} → InName u (λ _. Then) m cs → InName u (λ _. Then) n cs
  in_name_anywhere r = record { more = r.more; rest = r.rest; some = r.some; parts = r.parts; goes = r.goes }

  pub closing_anywhere : {u cs : List ℕ} (m n : ℕ) → Closing u (λ _. Then) m cs → Closing u (λ _. Then) n cs
  closing_anywhere m n (inl h) = inl h
  closing_anywhere m n (inr (t, e, r)) = inr (t, e, in_name_anywhere r)

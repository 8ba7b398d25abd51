-- A text of a form, character by character.
use Rattle.std.proofs.Common.{◌≡◌, ℕ, suc, ◌+◌, ◌<◌, ◌≤◌, List, [], ◌∷◌, ◌++◌, inl, refl, sym, ap, subst, ◌∙◌, arith, length, take, drop, get_or, append_assoc, Some, None, add-one}
use Rattle.std.specs.Prelude.{encode_utf8, encode_utf8_all}
use Rattle.std.specs.Char.{len_utf8}
use Rattle.std.specs.Str.{IsUtf8, chars}
use Rattle.std.proofs.Math.Seq.{take-append_seam, take-append-add}
use Rattle.std.proofs.lemmas.List.{append-nil, length-append, take-append-drop, drop_more}
use Rattle.std.proofs.lemmas.Str.{IsUtf8-append, IsUtf8-from_ascii, chars-IsAscii, chars_from_encodes, chars-append, encodes-chars, encodes-append, length-encode}
use Rattle.text_forms.specs.Forms.{GoesOn, Takes, Refuses, Finishes, Writes, StopsAt, IsSoFar}
use Rattle.text_forms.proofs.Cuts.{Cut, cut, utf8_behind, headed, alike}

-- the place after one character more
pub place_on : (front : List ℕ) (at c : ℕ) → at ≡ length (encode_utf8_all front) → at + len_utf8 c ≡ length (encode_utf8_all (front ++ c ∷ []))
place_on front at c e =
    let f = ap length (encodes-append front (c ∷ [])) ∙ length-append (encode_utf8_all front) (encode_utf8_all (c ∷ [])) in
    let g = ap length (append-nil (encode_utf8 c)) ∙ length-encode c in
    omega (arith, e, f, g)

-- what follows the characters read so far
pub one : (all front : List ℕ) (c : ℕ) → (length front < length all) × (c ≡ get_or all (length front) c) → front ≡ take (length front) all → all ≡ front ++ c ∷ drop (length front + 1) all
one all front c t e =
    sym (take-append-drop (length front) all)
    ∙ ap (λ x. x ++ drop (length front) all) (sym e)
    ∙ ap (λ x. front ++ x) (drop_more all (length front) c t.0)
    ∙ ap (λ x. front ++ x ∷ drop (length front + 1) all) (sym t.1)

-- the place after one character more is within the text
pub place_within : (text front : List ℕ) (c : ℕ) (tail : List ℕ) (at : ℕ) → IsUtf8 text → chars text ≡ front ++ c ∷ tail → at ≡ length (encode_utf8_all front) → at + len_utf8 c ≤ length text
place_within text front c tail at u e f =
    let k = ap length (cut text front (c ∷ tail) u e).parts ∙ length-append (encode_utf8_all front) (encode_utf8 c ++ encode_utf8_all tail) in
    let b = length-append (encode_utf8 c) (encode_utf8_all tail) in
    let n = length-encode c in
    omega (arith, k, f, b, n)

-- a character takes a byte at least, so it begins within the text
pub begins_within : (text front : List ℕ) (c : ℕ) (tail : List ℕ) (at : ℕ) → IsUtf8 text → chars text ≡ front ++ c ∷ tail → at ≡ length (encode_utf8_all front) → at < length text
begins_within text front c tail at u e f =
    let w = place_within text front c tail at u e f in
    let b = headed c in
    let n : suc (length b.others) ≡ len_utf8 c = sym (ap length b.parts) ∙ length-encode c in
    omega (arith, w, n)

module _ {Q : Type 0} (R : ℕ → List ℕ → Q → Type 0) where
  -- what was read so far, with a character that is taken
  pub further : (R1 R2 : ℕ → List ℕ → Q → Type 0) (front : List ℕ) (at c : ℕ) → IsSoFar R front (R1 at) → Takes R1 R2 at c → IsSoFar R (front ++ c ∷ []) (R2 (at + len_utf8 c))
  further R1 R2 front at c h t = λ cs q.
      let k = append_assoc front (c ∷ []) cs in (
        (λ r. (t cs q).0 ((h (c ∷ cs) q).0 (subst (λ x. R 0 x q) k r))),
        (λ r. subst (λ x. R 0 x q) (sym k) ((h (c ∷ cs) q).1 ((t cs q).1 r))),
      )

  -- the front of a text, with a text that closes it
  pub front_goes_on : (text front rest : List ℕ) (at : ℕ) (R1 : List ℕ → Q → Type 0) → Cut text front rest → at ≡ length (encode_utf8_all front) → IsSoFar R front R1 → GoesOn R1 → (more : List ℕ) × (q : Q) × Writes R (take at text ++ more) q
  front_goes_on text front rest at R1 k e h g =
      let same : take at text ≡ encode_utf8_all front = ap (λ n. take n text) e ∙ ap (take (length (encode_utf8_all front))) k.parts ∙ take-append_seam (encode_utf8_all front) (encode_utf8_all rest) in
      let read : chars (encode_utf8_all front ++ g.closing) ≡ front ++ g.closing = chars-append (encode_utf8_all front) g.closing k.utf8 ∙ ap (λ x. x ++ chars g.closing) (sym (chars_from_encodes front (encode_utf8_all front) k.utf8 refl)) ∙ ap (λ x. front ++ x) (chars-IsAscii g.closing g.ascii) in (
        g.closing,
        g.whole,
        subst (λ x. Writes R (x ++ g.closing) g.whole) (sym same) (record {
          utf8 = IsUtf8-append (encode_utf8_all front) g.closing k.utf8 (IsUtf8-from_ascii g.closing g.ascii);
          means = subst (λ x. R 0 x g.whole) (sym read) ((h g.closing g.whole).1 g.goes);
        }),
      )

  -- a character was refused: no text begins with the front and the character's first byte
  no_character : (R1 : ℕ → List ℕ → Q → Type 0) (front : List ℕ) (at c : ℕ) → IsSoFar R front (R1 at) → Refuses R1 at c → (byte : ℕ) (others bytes cs : List ℕ) (q : Q) → byte ∷ others ≡ encode_utf8 c → encode_utf8_all cs ≡ byte ∷ bytes → R 0 (front ++ cs) q → ⊥
  no_character R1 front at c h t byte others bytes [] q e f r = absurd cc
  no_character R1 front at c h t byte others bytes (d ∷ cs) q e f r = t d cs q (alike c d byte others bytes (encode_utf8_all cs) e (sym f)) ((h (d ∷ cs) q).0 r)

  -- a character was refused: the text stops before it
  pub stops : (R1 : ℕ → List ℕ → Q → Type 0) (text front : List ℕ) (at c : ℕ) (tail : List ℕ) → IsUtf8 text → chars text ≡ front ++ c ∷ tail → at ≡ length (encode_utf8_all front) → IsSoFar R front (R1 at) → GoesOn (R1 at) → Refuses R1 at c → StopsAt (Writes R) text at
  stops R1 text front at c tail u e f h g t =
      let k = cut text front (c ∷ tail) u e in
      let b = headed c in
      let whole : text ≡ encode_utf8_all front ++ b.byte ∷ (b.others ++ encode_utf8_all tail) = k.parts ∙ ap (λ x. encode_utf8_all front ++ (x ++ encode_utf8_all tail)) b.parts in
      let size : length text ≡ length (encode_utf8_all front) + length (b.byte ∷ (b.others ++ encode_utf8_all tail)) = ap length whole ∙ length-append (encode_utf8_all front) (b.byte ∷ (b.others ++ encode_utf8_all tail)) in
      let bytes : take (suc at) text ≡ encode_utf8_all front ++ b.byte ∷ [] = ap (λ n. take n text) (sym (add-one at) ∙ ap (λ n. n + 1) f) ∙ ap (take (length (encode_utf8_all front) + 1)) whole ∙ take-append-add (encode_utf8_all front) (b.byte ∷ (b.others ++ encode_utf8_all tail)) 1 in
      record {
        within = omega (arith, size, f);
        none = λ q w. t c tail q (inl refl) ((h (c ∷ tail) q).0 (subst (λ x. R 0 x q) e w.means));
        goes_on = front_goes_on text front (c ∷ tail) at (R1 at) k f h g;
        no_further = λ lt more q w.
            let parts : take (suc at) text ++ more ≡ encode_utf8_all front ++ b.byte ∷ more = ap (λ x. x ++ more) bytes ∙ append_assoc (encode_utf8_all front) (b.byte ∷ []) more in
            let behind : IsUtf8 (b.byte ∷ more) = utf8_behind front (b.byte ∷ more) (subst IsUtf8 parts w.utf8) in
            let read : chars (take (suc at) text ++ more) ≡ front ++ chars (b.byte ∷ more) = ap chars parts ∙ chars-append (encode_utf8_all front) (b.byte ∷ more) k.utf8 ∙ ap (λ x. x ++ chars (b.byte ∷ more)) (sym (chars_from_encodes front (encode_utf8_all front) k.utf8 refl)) in
            no_character R1 front at c h t b.byte b.others more (chars (b.byte ∷ more)) q (sym b.parts) (encodes-chars (b.byte ∷ more) behind) (subst (λ x. R 0 x q) read w.means);
      }

  -- the text ended, where it may end
  pub ends : (R1 : List ℕ → Q → Type 0) (text front : List ℕ) (q : Q) → IsUtf8 text → front ≡ chars text → IsSoFar R front R1 → Finishes R1 (Some q) → Writes R text q × ((p : Q) → Writes R text p → p ≡ q)
  ends R1 text front q u e h t =
      let k = append-nil front ∙ e in (
        record { utf8 = u; means = subst (λ x. R 0 x q) k ((h [] q).1 t.0) },
        λ p w. t.1 p ((h [] p).0 (subst (λ x. R 0 x p) (sym k) w.means)),
      )

  -- the text ended, where something must come: it stops at its end
  pub ends_early : (R1 : List ℕ → Q → Type 0) (text front : List ℕ) (at : ℕ) → IsUtf8 text → front ≡ chars text → at ≡ length (encode_utf8_all front) → IsSoFar R front R1 → GoesOn R1 → Finishes R1 None → StopsAt (Writes R) text at
  ends_early R1 text front at u e f h g t =
      let k = append-nil front ∙ e in
      let whole : encode_utf8_all front ≡ text = ap encode_utf8_all e ∙ encodes-chars text u in
      let size : at ≡ length text = f ∙ ap length whole in
      record {
        within = omega (arith, size);
        none = λ q w. t q ((h [] q).0 (subst (λ x. R 0 x q) (sym k) w.means));
        goes_on = front_goes_on text front [] at R1 (cut text front [] u (sym k)) f h g;
        no_further = λ lt. absurd (omega (arith, size));
      }

-- How a name is read byte by byte.
use Rattle.std.proofs.Common.{◌≡◌, ◌∙◌, ◌++◌, ℕ, true, false, List, [], ◌∷◌, sym, ap, flat_map, append_assoc, append-nil, true≢false}
use Rattle.grid_reader.specs.NameBytes.{name_byte, NoBracket, IsNameTo}

-- what was read of a name, whichever name it is, and what is left of the text
pub NameLeft : List ℕ → List ℕ → List ℕ → Type 0
NameLeft text read left = (name rest : List ℕ) → IsNameTo text name rest → (later : List ℕ) × (name ≡ read ++ later) × IsNameTo left later rest

pub name_begins : (text read : List ℕ) → read ≡ [] → NameLeft text read text
unfolding NameLeft
name_begins text read e name rest n = (name, ap (λ x. x ++ name) (sym e), n)

-- one byte more
pub name_goes_on : (text read new left behind : List ℕ) (b : ℕ) → NameLeft text read left → ((d : ℕ) (later : List ℕ) → left ≡ name_byte d ++ later → (b ≡ d) × (behind ≡ later)) → ((rest : List ℕ) → left ≡ 93 ∷ rest → NoBracket rest → true ≡ false) → new ≡ read ++ b ∷ [] → NameLeft text new behind
unfolding NameLeft
name_goes_on text read new left behind b h byte end e name rest n =
    let m = h name rest n in
    next m.0 m.1 m.2
  where
    next : (later : List ℕ) → name ≡ read ++ later → IsNameTo left later rest → (later' : List ℕ) × (name ≡ new ++ later') × IsNameTo behind later' rest
    next [] is m = absurd (true≢false (end rest m.parts m.ends))
    next (d ∷ later) is m =
        let k = byte d (flat_map name_byte later ++ 93 ∷ rest) (m.parts ∙ append_assoc (name_byte d) (flat_map name_byte later) (93 ∷ rest)) in
        (later, is ∙ ap (λ (x : ℕ). read ++ x ∷ later) (sym k.0) ∙ sym (append_assoc read (b ∷ []) later) ∙ ap (λ x. x ++ later) (sym e), record { parts = k.1; ends = m.ends })

-- the name ends
pub name_is_read : (text read left : List ℕ) → NameLeft text read left → ((d : ℕ) (later : List ℕ) → left ≡ name_byte d ++ later → ⊥) → (name rest : List ℕ) → IsNameTo text name rest → read ≡ name
unfolding NameLeft
name_is_read text read left h byte name rest n =
    let m = h name rest n in
    next m.0 m.1 m.2
  where
    next : (later : List ℕ) → name ≡ read ++ later → IsNameTo left later rest → read ≡ name
    next [] is m = sym (is ∙ append-nil read)
    next (d ∷ later) is m = absurd (byte d (flat_map name_byte later ++ 93 ∷ rest) (m.parts ∙ append_assoc (name_byte d) (flat_map name_byte later) (93 ∷ rest)))

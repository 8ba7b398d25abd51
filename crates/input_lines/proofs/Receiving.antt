-- What a reader holds when bytes came.
use Rattle.std.proofs.Common.{◌≡◌, refl, sym, ◌∙◌, ap, subst, ℕ, suc, ◌+◌, ◌-◌, ◌<◌, ◌≤◌, List, [], ◌∷◌, ◌++◌, Bool, true, false, length, take, drop, get_or, arith, drop-cons, append_assoc, append-nil}
use Rattle.std.specs.Prelude.{Option, Some, None, ◌==◌, min}
use Rattle.std.proofs.lemmas.Bool.Decides.{nat_tests}
use Rattle.std.proofs.lemmas.List.{length-append, length-take, length-take-le, take_all, drop_all, take-append-drop}
use Rattle.outside.specs.Event.{Event}
use Rattle.outside.specs.Told.{TakenOff}
use Rattle.input_lines.specs.Reader.{HasReceived, HoldsSame, Reading, not_given, with_bytes, with_received}

-- readings with the same parts are the same
pub same_reading : (a b : Reading) → a.line ≡ b.line → a.held ≡ b.held → a.room ≡ b.room → a.beyond ≡ b.beyond → a.ended ≡ b.ended → a ≡ b
same_reading a b line held room beyond ended =
    ap (λ (l : List ℕ). record a { line = l }) line
    ∙ ap (λ (h : List ℕ). record a { line = b.line; held = h }) held
    ∙ ap (λ (n : ℕ). record a { line = b.line; held = b.held; room = n }) room
    ∙ ap (λ (l : List ℕ). record b { beyond = l; ended = a.ended }) beyond
    ∙ ap (λ (e : Bool). record b { ended = e }) ended

-- the last of one byte more than this
last_byte : (n : ℕ) (bytes : List ℕ) → length bytes ≡ n + 1 → drop n bytes ≡ get_or bytes n 0 ∷ []
last_byte n bytes size =
    let cut : drop n bytes ≡ get_or bytes n 0 ∷ drop (suc n) bytes = drop-cons bytes n 0 (omega arith) in
    cut ∙ ap (λ (bs : List ℕ). get_or bytes n 0 ∷ bs) (drop_all (suc n) bytes (omega arith))

-- bytes that may all be lines
pub with_received-few : (reading : Reading) (bytes : List ℕ) → 0 < length bytes → length bytes ≤ reading.room → reading.beyond ≡ [] → reading.ended ≡ false → with_received reading bytes ≡ with_bytes reading bytes
with_received-few reading bytes some few none open_yet =
    let all : take reading.room bytes ≡ bytes = take_all reading.room bytes few in
    let over : drop reading.room bytes ≡ reading.beyond = drop_all reading.room bytes few ∙ sym none in
    let goes_on : (length bytes == 0) ≡ reading.ended = nonzero (length bytes) some ∙ sym open_yet in
    same_reading _ _ refl (ap (λ (bs : List ℕ). reading.held ++ bs) all) refl over goes_on
  where
    nonzero : (n : ℕ) → 0 < n → (n == 0) ≡ false
    nonzero n some = grind (arith, nat_tests)

-- bytes of which the last is after all that may be lines
pub with_received-beyond : (reading : Reading) (bytes : List ℕ) → length bytes ≡ reading.room + 1 → reading.ended ≡ false → with_received reading bytes ≡ record (with_bytes reading (take reading.room bytes)) { beyond = get_or bytes reading.room 0 ∷ [] }
with_received-beyond reading bytes size open_yet =
    let last : drop reading.room bytes ≡ get_or bytes reading.room 0 ∷ [] = last_byte reading.room bytes size in
    let goes_on : (length bytes == 0) ≡ reading.ended = nonzero (length bytes) (omega arith) ∙ sym open_yet in
    let front : length (take reading.room bytes) ≡ reading.room = length-take-le reading.room bytes (omega arith) in
    let none : reading.room - length bytes ≡ reading.room - length (take reading.room bytes) = omega arith in
    same_reading _ _ refl refl none last goes_on
  where
    nonzero : (n : ℕ) → 0 < n → (n == 0) ≡ false
    nonzero n some = grind (arith, nat_tests)

-- the front and the last of one byte more than may be lines
pub beyond_split : (room : ℕ) (bytes : List ℕ) → length bytes ≡ room + 1 → bytes ≡ take room bytes ++ get_or bytes room 0 ∷ []
beyond_split room bytes size =
    sym (take-append-drop room bytes) ∙ ap (λ (bs : List ℕ). take room bytes ++ bs) (last_byte room bytes size)

-- at the end nothing is added
pub with_received-none : (reading : Reading) (bytes : List ℕ) → length bytes ≡ 0 → reading.beyond ≡ [] → with_received reading bytes ≡ record reading { ended = true }
with_received-none reading [] none clear =
    let same : take reading.room [] ≡ [] = take_none reading.room [] none in
    let over : drop reading.room [] ≡ reading.beyond = drop_all reading.room [] (omega (arith, none)) ∙ sym clear in
    same_reading _ _ refl (ap (λ (bs : List ℕ). reading.held ++ bs) same ∙ append-nil reading.held) (minus_zero reading.room) over refl
  where
    take_none : (n : ℕ) (bytes : List ℕ) → length bytes ≡ 0 → take n bytes ≡ bytes
    take_none n bytes none = take_all n bytes (omega (arith, none))

    minus_zero : (n : ℕ) → n - 0 ≡ n
    minus_zero n = omega arith
with_received-none reading (b ∷ bs) none clear = absurd (omega arith)

-- what comes first and then the rest
received-left : (reading : Reading) (bytes rest : List ℕ) → reading.beyond ≡ [] → (reading.held ++ take reading.room bytes) ++ (drop reading.room bytes ++ rest) ≡ reading.held ++ (reading.beyond ++ (bytes ++ rest))
received-left reading bytes rest none =
    append_assoc reading.held (take reading.room bytes) (drop reading.room bytes ++ rest)
    ∙ ap (λ (bs : List ℕ). reading.held ++ bs) (sym (append_assoc (take reading.room bytes) (drop reading.room bytes) rest) ∙ ap (λ (bs : List ℕ). bs ++ rest) (take-append-drop reading.room bytes))
    ∙ ap (λ (bs : List ℕ). reading.held ++ (bs ++ (bytes ++ rest))) (sym none)

-- the bytes that are not given stay, and as many may be lines
pub HoldsSame-received : (before after : Option (List ℕ)) (reading : Reading) (bytes : List ℕ) → reading.beyond ≡ [] → TakenOff before after bytes → HoldsSame before after reading (with_received reading bytes)
HoldsSame-received before after reading bytes none taken = record {
  bytes = left before after taken;
  room =
      let size : length (reading.held ++ take reading.room bytes) ≡ length reading.held + length (take reading.room bytes) = length-append reading.held (take reading.room bytes) in
      let front : length (take reading.room bytes) ≡ min reading.room (length bytes) = length-take reading.room bytes in
      omega arith;
}
  where
    left : (before after : Option (List ℕ)) → TakenOff before after bytes → not_given (with_received reading bytes) after ≡ not_given reading before
    left None None taken = refl
    left (Some all) None taken = absurd (cc taken)
    left None (Some rest) taken = absurd (cc taken)
    left (Some all) (Some rest) taken =
        let is : bytes ++ rest ≡ all = cc taken in
        ap Some (received-left reading bytes rest none ∙ ap (λ (bs : List ℕ). reading.held ++ (reading.beyond ++ bs)) is)

pub HoldsSame-none : (left : Option (List ℕ)) (reading : Reading) → HoldsSame left left reading reading
HoldsSame-none left reading = record { bytes = refl; room = refl }

pub HoldsSame-more : (a b c : Option (List ℕ)) (one two three : Reading) → HoldsSame a b one two → HoldsSame b c two three → HoldsSame a c one three
HoldsSame-more a b c one two three f g = record { bytes = g.bytes ∙ f.bytes; room = g.room ∙ f.room }

-- one receive after others
pub HoldsSame-then : (a b c : Option (List ℕ)) (talk told : List Event) (n : ℕ) (one two three : Reading) → two.beyond ≡ [] → HoldsSame a b one two → HasReceived b c talk told n two three → HoldsSame a c one three
HoldsSame-then a b c talk told n one two three none f has =
    HoldsSame-more a b c one two three f (subst (λ (r : Reading). HoldsSame b c two r) (sym has.now) (HoldsSame-received b c two has.bytes none has.taken))

-- a failed one after others
pub HoldsSame-failed : (a b c : Option (List ℕ)) (one two three : Reading) → HoldsSame a b one two → c ≡ b → three ≡ two → HoldsSame a c one three
HoldsSame-failed a b c one two three f left same =
    subst (λ (l : Option (List ℕ)). HoldsSame a l one three) (sym left) (subst (λ (r : Reading). HoldsSame a b one r) (sym same) f)

-- the end has not come where bytes did
pub open-received : (before after : Option (List ℕ)) (talk told : List Event) (n : ℕ) (old new : Reading) → HasReceived before after talk told n old new → 0 < n → new.ended ≡ false
open-received before after talk told n old new has some =
    ap (λ (r : Reading). r.ended) has.now ∙ nonzero (length has.bytes) (omega (arith, some, has.size))
  where
    nonzero : (n : ℕ) → 0 < n → (n == 0) ≡ false
    nonzero n some = grind (arith, nat_tests)

-- whatever line it gave last
pub HoldsSame-line : (before after : Option (List ℕ)) (old clear new : Reading) → clear ≡ record old { line = [] } → HoldsSame before after clear new → HoldsSame before after old new
HoldsSame-line before after old clear new is same =
    let there : HoldsSame before after (record old { line = [] }) new = subst (λ (r : Reading). HoldsSame before after r new) is same in
    record { bytes = there.bytes; room = there.room }

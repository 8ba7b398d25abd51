-- What bytes begin with: no bytes have two fronts.
use Rattle.std.proofs.Common.{◌≡◌, ◌≢◌, ℕ, suc, ◌+◌, ◌-◌, ◌<◌, ◌≤◌, List, [], ◌∷◌, ◌++◌, ◌∙◌, subst, inl, inr, Bool, true, false, length, get_or, take, drop, refl, arith, ap, sym, append_assoc, append-nil}
use Rattle.std.specs.Prelude.{nat_lt, not, ◌==◌, slice_index, if◌then◌else◌}
use Rattle.std.proofs.lemmas.Bool.{cases_lt, eqb-true, eq-eqb}
use Rattle.std.proofs.lemmas.Bool.Decides.{nat_tests}
use Rattle.std.proofs.lemmas.List.{length-append, length-take-le, drop_all, take-append-drop}
use Rattle.std.proofs.lemmas.List.Sums.{position_or_len_is, passes_at_first, prefix_len-le-length}
use Rattle.std.proofs.Math.ListN.{get_or-append}
use Rattle.std.proofs.Math.Seq.{split_at, get_or-append_seam, take-append_seam, drop-append-add}
use Rattle.query_meaning.specs.Lines.{HasNoLf, IsBeforeLf, cr, nothing_between, Front, Nothing, FirstLine, TooMany, Begins, no_byte, ended, last, too_many}
use Rattle.input_lines.specs.Reader.{is_lf, line_length, without_cr}
use Rattle.input_lines.proofs.LineLemmas.{no_lf-take, no_lf-all}

-- a text whose last byte is a CR
cr_last : (text : List ℕ) → slice_index text (length text - 1) ≡ 13 → take (length text - 1) text ++ 13 ∷ [] ≡ text
cr_last [] at = absurd (cc at)
cr_last (b ∷ bs) at =
    let text : List ℕ = b ∷ bs in
    let some : length text - 1 < length text = omega arith in
    let none : drop (suc (length text - 1)) text ≡ [] = drop_all (suc (length text - 1)) text (omega arith) in
    sym (split_at text (length text - 1) 0 some ∙ ap (λ (x : ℕ). take (length text - 1) text ++ x ∷ drop (suc (length text - 1)) text) at ∙ ap (λ (xs : List ℕ). take (length text - 1) text ++ 13 ∷ xs) none)

-- the last byte of a text and a CR
cr_at : (front : List ℕ) → slice_index (front ++ 13 ∷ []) (length (front ++ 13 ∷ []) - 1) ≡ 13
cr_at front =
    let size : length (front ++ 13 ∷ []) - 1 ≡ length front = omega (arith, length-append front (13 ∷ [])) in
    ap (λ (i : ℕ). get_or (front ++ 13 ∷ []) i 0) size ∙ get_or-append_seam front 13 [] 0

-- a text and its LF begin with the text without a CR at its end
cut : (text bytes rest : List ℕ) → HasNoLf text → length text ≤ 65536 → bytes ≡ text ++ 10 ∷ rest → Begins bytes (FirstLine (without_cr text) rest)
cut text bytes rest clear short is = by (slice_index text (length text - 1) == 13) refl
  where
    by : (b : Bool) → (slice_index text (length text - 1) == 13) ≡ b → Begins bytes (FirstLine (if b then take (length text - 1) text else text) rest)
    by true at =
        let whole : take (length text - 1) text ++ 13 ∷ [] ≡ text = cr_last text (eqb-true (slice_index text (length text - 1)) 13 at) in
        ended (take (length text - 1) text) (13 ∷ []) rest cr (subst HasNoLf (sym whole) clear) (subst (λ (t : List ℕ). length t ≤ 65536) (sym whole) short) (is ∙ ap (λ (t : List ℕ). t ++ 10 ∷ rest) (sym whole))
    by false at =
        let same : text ≡ text ++ [] = sym (append-nil text) in
        let no_cr : (front : List ℕ) → text ≢ front ++ 13 ∷ [] = λ front is_cr.
        let byte : slice_index text (length text - 1) ≡ 13 = ap (λ (t : List ℕ). slice_index t (length t - 1)) is_cr ∙ cr_at front in
        absurd (cc (sym at ∙ eq-eqb (slice_index text (length text - 1)) 13 byte)) in
        ended text [] rest (nothing_between no_cr) (subst HasNoLf same clear) (subst (λ (t : List ℕ). length t ≤ 65536) same short) (is ∙ ap (λ (t : List ℕ). t ++ 10 ∷ rest) same)

-- bytes with an LF that is not too far, whatever comes after them
pub begins_line : (held rest : List ℕ) (n : ℕ) → n ≡ line_length held → n < length held → n ≤ 65536 → Begins (held ++ rest) (FirstLine (without_cr (take n held)) (drop (n + 1) held ++ rest))
begins_line held rest n first there short =
    let at : line_length held < length held = omega arith in
    let lf : get_or held n 0 ≡ 10 = ap (λ (i : ℕ). get_or held i 0) first ∙ eqb-true (get_or held (line_length held) 0) 10 (passes_at_first is_lf held 0 at) in
    let next : suc n ≡ n + 1 = omega arith in
    let split : held ≡ take n held ++ 10 ∷ drop (n + 1) held = split_at held n 0 there ∙ ap (λ (x : ℕ). take n held ++ x ∷ drop (suc n) held) lf ∙ ap (λ (i : ℕ). take n held ++ 10 ∷ drop i held) next in
    let size : length (take n held) ≡ n = length-take-le n held (omega arith) in
    cut (take n held) (held ++ rest) (drop (n + 1) held ++ rest) (no_lf-take held n (omega arith)) (omega arith) (ap (λ (xs : List ℕ). xs ++ rest) split ∙ append_assoc (take n held) (10 ∷ drop (n + 1) held) rest)

-- too many bytes before an LF, whatever comes after them
pub begins_too_many : (held rest : List ℕ) → 65536 < line_length held → Begins (held ++ rest) TooMany
begins_too_many held rest long =
    let n : ℕ = line_length held in
    let within : line_length held ≤ length held = prefix_len-le-length (λ x. not (is_lf x)) held in
    let size : length (take (line_length held) held) ≡ line_length held = length-take-le (line_length held) held within in
    too_many (take (line_length held) held) (drop (line_length held) held ++ rest) (no_lf-take held (line_length held) (omega arith)) (omega arith)
    (ap (λ (xs : List ℕ). xs ++ rest) (sym (take-append-drop (line_length held) held)) ∙ append_assoc (take (line_length held) held) (drop (line_length held) held) rest)

-- bytes with no LF, after which nothing comes
pub begins_last : (held : List ℕ) → line_length held ≡ length held → length held ≤ 65536 → 0 < length held → Begins held (FirstLine held [])
begins_last held none short some = last (λ empty. omega (arith, some, ap length empty)) (no_lf-all held none) short

-- the front of some bytes, computed
abbrev by_length : List ℕ → Bool → Bool → Front
by_length bytes true there = TooMany
by_length bytes false true = FirstLine (without_cr (take (line_length bytes) bytes)) (drop (line_length bytes + 1) bytes)
by_length bytes false false = FirstLine bytes []

abbrev front_of : List ℕ → Front
front_of [] = Nothing
front_of (b ∷ bs) = by_length (b ∷ bs) (nat_lt 65536 (line_length (b ∷ bs))) (nat_lt (line_length (b ∷ bs)) (length (b ∷ bs)))

-- how many bytes stand before the first LF, where these have none
before_lf : (text rest : List ℕ) → HasNoLf text → line_length (text ++ 10 ∷ rest) ≡ length text
before_lf text rest clear =
    let size : length (text ++ 10 ∷ rest) ≡ length text + length (10 ∷ rest) = length-append text (10 ∷ rest) in
    position_or_len_is is_lf (text ++ 10 ∷ rest) (length text) 0 (omega arith)
    (λ k below. not_lf (get_or (text ++ 10 ∷ rest) k 0) (λ is. clear k 0 below (sym (get_or-append text (10 ∷ rest) 0 k below) ∙ is)))
    (λ past. eq-eqb (get_or (text ++ 10 ∷ rest) (length text) 0) 10 (get_or-append_seam text 10 rest 0))
  where
    not_lf : (b : ℕ) → (b ≡ 10 → ⊥) → is_lf b ≡ false
    not_lf b other = grind (arith, nat_tests)

-- bytes with none of these before the first LF have at least as many
no_less : (front rest : List ℕ) → HasNoLf front → length front ≤ line_length (front ++ rest)
no_less front rest clear = elim (cases_lt (line_length (front ++ rest)) (length front)) [
  | inl early ↦
      let size : length (front ++ rest) ≡ length front + length rest = length-append front rest in
      let at : line_length (front ++ rest) < length (front ++ rest) = omega arith in
      let lf : get_or (front ++ rest) (line_length (front ++ rest)) 0 ≡ 10 = eqb-true (get_or (front ++ rest) (line_length (front ++ rest)) 0) 10 (passes_at_first is_lf (front ++ rest) 0 at) in
      absurd (clear (line_length (front ++ rest)) 0 early (sym (get_or-append front rest 0 (line_length (front ++ rest)) early) ∙ lf))
  | inr late ↦ omega arith
]

-- a line between whose end and its LF a CR may stand
uncut : (text between : List ℕ) → IsBeforeLf text between → without_cr (text ++ between) ≡ text
uncut text between cr =
    let size : length (text ++ 13 ∷ []) - 1 ≡ length text = omega (arith, length-append text (13 ∷ [])) in
    let test : (slice_index (text ++ 13 ∷ []) (length (text ++ 13 ∷ []) - 1) == 13) ≡ true = eq-eqb (slice_index (text ++ 13 ∷ []) (length (text ++ 13 ∷ []) - 1)) 13 (cr_at text) in
    ap (λ (b : Bool). if b then take (length (text ++ 13 ∷ []) - 1) (text ++ 13 ∷ []) else text ++ 13 ∷ []) test ∙ ap (λ (n : ℕ). take n (text ++ 13 ∷ [])) size ∙ take-append_seam text (13 ∷ [])
uncut text between (nothing_between no_cr) =
    ap without_cr (append-nil text) ∙ by (slice_index text (length text - 1) == 13) refl
  where
    by : (b : Bool) → (slice_index text (length text - 1) == 13) ≡ b → (if b then take (length text - 1) text else text) ≡ text
    by true at = absurd (no_cr (take (length text - 1) text) (sym (cr_last text (eqb-true (slice_index text (length text - 1)) 13 at))))
    by false at = refl

-- a front of bytes is the one that is computed
some_front : (bytes : List ℕ) (long there : Bool) → 0 < length bytes → nat_lt 65536 (line_length bytes) ≡ long → nat_lt (line_length bytes) (length bytes) ≡ there → by_length bytes long there ≡ front_of bytes
some_front [] long there some is_long is_there = absurd (omega arith)
some_front (b ∷ bs) long there some is_long is_there =
    ap (λ (l : Bool). by_length (b ∷ bs) l there) (sym is_long) ∙ ap (λ (t : Bool). by_length (b ∷ bs) (nat_lt 65536 (line_length (b ∷ bs))) t) (sym is_there)

ended_front : (bytes text between rest : List ℕ) → IsBeforeLf text between → HasNoLf (text ++ between) → length (text ++ between) ≤ 65536 → bytes ≡ (text ++ between) ++ 10 ∷ rest → FirstLine text rest ≡ front_of bytes
ended_front bytes text between rest before clear short is =
    let all : List ℕ = (text ++ between) ++ 10 ∷ rest in
    let n : line_length ((text ++ between) ++ 10 ∷ rest) ≡ length (text ++ between) = before_lf (text ++ between) rest clear in
    let size : length ((text ++ between) ++ 10 ∷ rest) ≡ length (text ++ between) + length (10 ∷ rest) = length-append (text ++ between) (10 ∷ rest) in
    let is_long : nat_lt 65536 (line_length ((text ++ between) ++ 10 ∷ rest)) ≡ false = grind (arith, nat_tests) in
    let is_there : nat_lt (line_length ((text ++ between) ++ 10 ∷ rest)) (length ((text ++ between) ++ 10 ∷ rest)) ≡ true = grind (arith, nat_tests) in
    let first : without_cr (take (line_length ((text ++ between) ++ 10 ∷ rest)) ((text ++ between) ++ 10 ∷ rest)) ≡ text =
    ap (λ (k : ℕ). without_cr (take k ((text ++ between) ++ 10 ∷ rest))) n ∙ ap without_cr (take-append_seam (text ++ between) (10 ∷ rest)) ∙ uncut text between before in
    let behind : drop (line_length ((text ++ between) ++ 10 ∷ rest) + 1) ((text ++ between) ++ 10 ∷ rest) ≡ rest =
    ap (λ (k : ℕ). drop (k + 1) ((text ++ between) ++ 10 ∷ rest)) n ∙ drop-append-add (text ++ between) (10 ∷ rest) 1 in
    sym (
    ap front_of is
    ∙ sym (some_front ((text ++ between) ++ 10 ∷ rest) false true (omega arith) is_long is_there)
    ∙ ap (λ (l : List ℕ). FirstLine l (drop (line_length ((text ++ between) ++ 10 ∷ rest) + 1) ((text ++ between) ++ 10 ∷ rest))) first
    ∙ ap (λ (r : List ℕ). FirstLine text r) behind
    )

last_front : (text : List ℕ) → text ≢ [] → HasNoLf text → length text ≤ 65536 → FirstLine text [] ≡ front_of text
last_front [] some clear short = absurd (some refl)
last_front (b ∷ bs) some clear short =
    let least : length (b ∷ bs) ≤ line_length (b ∷ bs) = subst (λ (xs : List ℕ). length (b ∷ bs) ≤ line_length xs) (append-nil (b ∷ bs)) (no_less (b ∷ bs) [] clear) in
    let within : line_length (b ∷ bs) ≤ length (b ∷ bs) = prefix_len-le-length (λ x. not (is_lf x)) (b ∷ bs) in
    let is_long : nat_lt 65536 (line_length (b ∷ bs)) ≡ false = grind (arith, nat_tests) in
    let is_there : nat_lt (line_length (b ∷ bs)) (length (b ∷ bs)) ≡ false = grind (arith, nat_tests) in
    some_front (b ∷ bs) false false (omega arith) is_long is_there

too_many_front : (bytes front rest : List ℕ) → HasNoLf front → 65536 < length front → bytes ≡ front ++ rest → TooMany ≡ front_of bytes
too_many_front bytes front rest clear long is =
    let least : length front ≤ line_length (front ++ rest) = no_less front rest clear in
    let size : length (front ++ rest) ≡ length front + length rest = length-append front rest in
    let is_long : nat_lt 65536 (line_length (front ++ rest)) ≡ true = grind (arith, nat_tests) in
    some_front (front ++ rest) true (nat_lt (line_length (front ++ rest)) (length (front ++ rest))) (omega arith) is_long refl ∙ ap front_of (sym is)

front_is : {bytes : List ℕ} {front : Front} → Begins bytes front → front ≡ front_of bytes
front_is no_byte = refl
front_is {bytes} (ended text between rest before clear short is) = ended_front bytes text between rest before clear short is
front_is (last {line = text} some clear short) = last_front text some clear short
front_is {bytes} (too_many front rest clear long is) = too_many_front bytes front rest clear long is

-- bytes begin with one thing alone
pub one_front : {bytes : List ℕ} {first second : Front} → Begins bytes first → Begins bytes second → first ≡ second
one_front a b = front_is a ∙ sym (front_is b)

-- what follows the first line is shorter than the whole
pub shorter : {bytes text rest : List ℕ} → Begins bytes (FirstLine text rest) → length rest < length bytes
shorter {bytes} (ended text between rest before clear short is) =
    let size : length bytes ≡ length (text ++ between) + length (10 ∷ rest) = ap length is ∙ length-append (text ++ between) (10 ∷ rest) in
    omega arith
shorter (last {line = text} some clear short) = some_byte text some
  where
    some_byte : (xs : List ℕ) → xs ≢ [] → 0 < length xs
    some_byte [] other = absurd (other refl)
    some_byte (x ∷ xs) other = omega arith

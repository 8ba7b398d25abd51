-- What is found in the bytes that are held tells what all bytes begin with.
use Rattle.std.proofs.Common.{◌≡◌, ◌≢◌, ◌∙◌, ℕ, ◌+◌, ◌<◌, List, [], ◌∷◌, ◌++◌, take, drop, length, subst, sym, ap, refl, arith, append-nil}
use Rattle.std.specs.Prelude.{Option, Some, None, Ok, Result}
use Rattle.std.proofs.lemmas.List.{length-append, length-drop}
use Rattle.std.proofs.Math.Seq.{take-append-add}
use Rattle.query_meaning.specs.Lines.{Begins, Front, FirstLine, HasNoLf, TooMany}
use Rattle.input_lines.specs.Reader.{Finds, GivesHeldLine, GivesLine, IsFound, IsSpent, Keeps, KeepsRoom, Reading, HoldsSame, SaysNext, TellsFront, TellsOf, allowed, heard_of, line_length, not_given, without_cr}
use Rattle.input_lines.specs.declared.next.Next.{Next}
use Rattle.outside.specs.declared.source.Failed.{Failed}
use Rattle.input_lines.specs.declared.next.Found.{Found}
use Rattle.input_lines.specs.declared.next.Found.TheVariants as found
use Rattle.input_lines.proofs.LineLemmas.{no_lf-all}
use Rattle.input_lines.proofs.Fronts.{begins_last, begins_line, begins_too_many}

-- bytes with an LF that is not too far, whatever comes after them
pub told-line :
    (old new : Reading) (rest : List ℕ) (n : ℕ) → IsFound (found.Lf n) old.held → new.line ≡ without_cr (take n old.held) → new.held ≡ drop (n + 1) old.held → KeepsRoom old new → GivesLine (old.held ++ (old.beyond ++ rest)) (allowed old) new.line (new.held ++ (new.beyond ++ rest)) (allowed new)
told-line old new rest n is gives leaves keeps =
    let behind : List ℕ = old.beyond ++ rest in
    let tail : drop (n + 1) old.held ++ (old.beyond ++ rest) ≡ new.held ++ (new.beyond ++ rest) =
    ap (λ (bs : List ℕ). bs ++ (old.beyond ++ rest)) (sym leaves) ∙ ap (λ (bs : List ℕ). new.held ++ (bs ++ rest)) (sym keeps.beyond) in
    let whole : length (old.held ++ (old.beyond ++ rest)) ≡ length old.held + length (old.beyond ++ rest) = length-append old.held (old.beyond ++ rest) in
    let part : length (drop (n + 1) old.held ++ (old.beyond ++ rest)) ≡ length (drop (n + 1) old.held) + length (old.beyond ++ rest) = length-append (drop (n + 1) old.held) (old.beyond ++ rest) in
    let cut : length (drop (n + 1) old.held) ≡ length new.held = ap length (sym leaves) in
    let left = length-drop (n + 1) old.held in
    record {
      size = n + 1;
      begins = subst (λ (front : Front). Begins (old.held ++ (old.beyond ++ rest)) front) (ap (λ (l : List ℕ). FirstLine l (drop (n + 1) old.held ++ (old.beyond ++ rest))) (sym gives) ∙ ap (λ (bs : List ℕ). FirstLine new.line bs) tail) (begins_line old.held (old.beyond ++ rest) n is.0 is.1 is.2);
      size_is = omega (arith, is.1, ap length tail);
      within = omega (arith, is.1, keeps.room);
    }

pub says-line : (old new : Reading) (n : ℕ) → IsFound (found.Lf n) old.held → new.line ≡ without_cr (take n old.held) → new.held ≡ drop (n + 1) old.held → KeepsRoom old new → GivesHeldLine old new
says-line old new n is gives leaves keeps = record {
  begins =
      subst (λ (bytes : List ℕ). Begins bytes (FirstLine new.line new.held)) (append-nil old.held)
      (subst (λ (front : Front). Begins (old.held ++ []) front) (ap (λ (l : List ℕ). FirstLine l (drop (n + 1) old.held ++ [])) (sym gives) ∙ ap (λ (bs : List ℕ). FirstLine new.line bs) (append-nil (drop (n + 1) old.held) ∙ sym leaves)) (begins_line old.held [] n is.0 is.1 is.2));
  rest = keeps;
}

-- a reader that gives no line keeps what it holds
pub keeps_all : (reading : Reading) → reading.line ≡ [] → Keeps reading reading
keeps_all reading none = record { line = none; held = refl; rest = record { room = refl; beyond = refl; ended = refl } }

-- what may be lines, where more comes after it
take-allowed : (reading : Reading) (more : List ℕ) → take (allowed reading) (reading.held ++ more) ≡ reading.held ++ take reading.room more
take-allowed reading more = take-append-add reading.held more reading.room

-- too many bytes before an LF, whatever comes after them
pub told-too_many : (old : Reading) (rest : List ℕ) → 65536 < line_length old.held → Begins (take (allowed old) (old.held ++ (old.beyond ++ rest))) TooMany
told-too_many old rest long =
    subst (λ (bytes : List ℕ). Begins bytes TooMany) (sym (take-allowed old (old.beyond ++ rest))) (begins_too_many old.held (take old.room (old.beyond ++ rest)) long)

pub says-too_many : (held : List ℕ) → 65536 < line_length held → Begins held TooMany
says-too_many held long = subst (λ (bytes : List ℕ). Begins bytes TooMany) (append-nil held) (begins_too_many held [] long)

-- bytes with no LF, after which a byte too many comes
pub told-spent : (old : Reading) (rest : List ℕ) → Finds found.Spent old → IsSpent (old.held ++ (old.beyond ++ rest)) (allowed old)
told-spent old rest is =
    let whole : length (old.held ++ (old.beyond ++ rest)) ≡ length old.held + length (old.beyond ++ rest) = length-append old.held (old.beyond ++ rest) in
    let behind : length (old.beyond ++ rest) ≡ length old.beyond + length rest = length-append old.beyond rest in
    let some : 0 < length old.beyond = some_byte old.beyond is.1 in
    let front : take (allowed old) (old.held ++ (old.beyond ++ rest)) ≡ old.held =
    take-allowed old (old.beyond ++ rest) ∙ ap (λ (n : ℕ). old.held ++ take n (old.beyond ++ rest)) is.2 ∙ append-nil old.held in
    record {
      more = omega (arith, is.2);
      none = subst HasNoLf (sym front) (no_lf-all old.held is.0.0);
      short = omega (arith, is.2, is.0.1);
    }
  where
    some_byte : (xs : List ℕ) → xs ≢ [] → 0 < length xs
    some_byte [] other = absurd (other refl)
    some_byte (x ∷ xs) other = omega arith

-- nothing comes after what is held
none_behind : (old : Reading) (rest : List ℕ) → old.beyond ≡ [] → rest ≡ [] → old.beyond ++ rest ≡ []
none_behind old rest none end = ap (λ (bs : List ℕ). bs ++ rest) none ∙ end

-- bytes with no LF, after which nothing comes
pub told-last :
    (old new : Reading) (rest : List ℕ) → Finds found.Neither old → 0 < length old.held → rest ≡ [] → new.line ≡ old.held → new.held ≡ [] → KeepsRoom old new → GivesLine (old.held ++ (old.beyond ++ rest)) (allowed old) new.line (new.held ++ (new.beyond ++ rest)) (allowed new)
told-last old new rest is some end gives leaves keeps =
    let whole : old.held ++ (old.beyond ++ rest) ≡ old.held = ap (λ (bs : List ℕ). old.held ++ bs) (none_behind old rest is.1 end) ∙ append-nil old.held in
    let tail : new.held ++ (new.beyond ++ rest) ≡ [] = ap (λ (bs : List ℕ). bs ++ (new.beyond ++ rest)) leaves ∙ ap (λ (bs : List ℕ). bs ++ rest) keeps.beyond ∙ none_behind old rest is.1 end in
    let last : Begins old.held (FirstLine old.held []) = begins_last old.held is.0.0 is.0.1 some in
    record {
      size = length old.held;
      begins = subst (λ (bytes : List ℕ). Begins bytes (FirstLine new.line (new.held ++ (new.beyond ++ rest)))) (sym whole) (subst (λ (front : Front). Begins old.held front) (ap (λ (l : List ℕ). FirstLine l []) (sym gives) ∙ ap (λ (bs : List ℕ). FirstLine new.line bs) (sym tail)) last);
      size_is = omega (arith, ap length whole, ap length tail);
      within = omega (arith, ap length leaves, keeps.room);
    }

pub says-last : (old new : Reading) → Finds found.Neither old → 0 < length old.held → new.line ≡ old.held → new.held ≡ [] → KeepsRoom old new → GivesHeldLine old new
says-last old new is some gives leaves keeps = record {
  begins = subst (λ (front : Front). Begins old.held front) (ap (λ (l : List ℕ). FirstLine l []) (sym gives) ∙ ap (λ (bs : List ℕ). FirstLine new.line bs) (sym leaves)) (begins_last old.held is.0.0 is.0.1 some);
  rest = keeps;
}

-- no byte
pub none_held : (held : List ℕ) → length held ≡ 0 → held ≡ []
none_held [] none = refl
none_held (b ∷ bs) none = absurd (omega arith)

pub told-none : (old : Reading) (rest : List ℕ) → old.held ≡ [] → old.beyond ≡ [] → rest ≡ [] → old.held ++ (old.beyond ++ rest) ≡ []
told-none old rest none clear end = ap (λ (bs : List ℕ). bs ++ (old.beyond ++ rest)) none ∙ none_behind old rest clear end

-- what is told of the bytes that are held holds of all that were not given
pub told-from : (before after : Option (List ℕ)) (old mid new : Reading) (next : Next) → HoldsSame before after old mid → ((rest : List ℕ) → after ≡ Some rest → TellsOf (mid.held ++ (mid.beyond ++ rest)) (allowed mid) next new.line (new.held ++ (new.beyond ++ rest)) (allowed new))
    → TellsFront (not_given old before) (allowed old) next new.line (not_given new after) (allowed new)
told-from before after old mid new next same told =
    subst (λ (n : ℕ). TellsFront (not_given old before) n next new.line (not_given new after) (allowed new)) same.room
    (subst (λ (bytes : Option (List ℕ)). TellsFront bytes (allowed mid) next new.line (not_given new after) (allowed new)) same.bytes (here after told))
  where
    here : (after : Option (List ℕ)) → ((rest : List ℕ) → after ≡ Some rest → TellsOf (mid.held ++ (mid.beyond ++ rest)) (allowed mid) next new.line (new.held ++ (new.beyond ++ rest)) (allowed new)) → TellsFront (not_given mid after) (allowed mid) next new.line (not_given new after) (allowed new)
    here None told = tt
    here (Some rest) told = told rest refl

-- an answer says the same of the same find
pub says_as : (f g : Found) (all after : Reading) (told : Result Next Failed) → f ≡ g → SaysNext (heard_of (Ok g)) all after told → SaysNext (heard_of (Ok f)) all after told
says_as f g all after told is says = subst (λ (h : Found). SaysNext (heard_of (Ok h)) all after told) (sym is) says

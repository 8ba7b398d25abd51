-- The seven commands. A line has at most one of them, and a blank line has none.
use Rattle.std.proofs.Common.{◌≡◌, refl, sym, ◌∙◌, ap, ℕ, ◌+◌, inl, inr, List, [], ◌∷◌, Bool, true, false, not, drop, length, codes, bytes_eq, is_some, if◌then◌else◌, Option, Some, None, arith}
use Rattle.std.proofs.Math.Seq.{drop-length}
use Rattle.std.specs.List.{find, list_all, list_any, position_or_len}
use Rattle.std.proofs.lemmas.Bool.{and_parts}
use Rattle.std.proofs.lemmas.Slice.Eq.{bytes_eq-Decides}
use Rattle.query_meaning.specs.Requests.{MayTakeMemory, after_white, argument_behind, argument_of, behind_word, commands, first_word, has_one_of, is_blank}
use Rattle.query_meaning.specs.Tokens.{in_capitals, is_white}

-- a command
pub data Command : Type 0 where
  mdx : Command
  append : Command
  flush : Command
  agg : Command
  cache : Command
  after : Command
  quit : Command

-- its word
abbrev pub word_of : Command → List ℕ
word_of mdx = codes "MDX"
word_of append = codes "APPEND"
word_of flush = codes "FLUSH"
word_of agg = codes "AGG"
word_of cache = codes "CACHE"
word_of after = codes "AFTER"
word_of quit = codes "QUIT"

-- the command of a word
abbrev command_of : List ℕ → Option Command
command_of word =
    find (λ c. bytes_eq word (word_of c)) (mdx ∷ append ∷ flush ∷ agg ∷ cache ∷ after ∷ quit ∷ [])

-- a line that begins with a word, and has this behind it, has one of the commands
abbrev has_one : List ℕ → Option (List ℕ) → Bool
has_one here behind = list_any (λ word. is_some (if bytes_eq here word then behind else None)) commands

-- a command is its word's, and a line that begins with its word and has an argument has one
known : (c : Command) → (command_of (word_of c) ≡ Some c) × ((argument : List ℕ) → has_one (word_of c) (Some argument) ≡ true)
known mdx = (refl, λ argument. refl)
known append = (refl, λ argument. refl)
known flush = (refl, λ argument. refl)
known agg = (refl, λ argument. refl)
known cache = (refl, λ argument. refl)
known after = (refl, λ argument. refl)
known quit = (refl, λ argument. refl)

-- a line has a command, with some argument
abbrev pub HasCommand : Command → List ℕ → Type 0
HasCommand c line = (argument : List ℕ) × (argument_of (word_of c) line ≡ Some argument)

-- the word that a line begins with, in capital letters
abbrev word_in : List ℕ → List ℕ
word_in line = in_capitals (first_word (after_white line))

-- the argument behind it
abbrev behind_in : List ℕ → Option (List ℕ)
behind_in line = argument_behind (behind_word (after_white line))

-- where a word has an argument, it is the word that is there, and the argument is what stands behind it
its_word : (here word : List ℕ) (behind : Option (List ℕ)) (argument : List ℕ) → (if bytes_eq here word then behind else None) ≡ Some argument → (here ≡ word) × (behind ≡ Some argument)
its_word here word behind argument has = by (bytes_eq here word) refl has
  where
    by : (b : Bool) → bytes_eq here word ≡ b → (if b then behind else None) ≡ Some argument → (here ≡ word) × (behind ≡ Some argument)
    by true at h = ((bytes_eq-Decides here word).0 at, h)
    by false at h = absurd (let n : ⊥ = cc in n)

-- the same of a line with a command
begins : (c : Command) (line : List ℕ) (has : HasCommand c line) → (word_in line ≡ word_of c) × (behind_in line ≡ Some has.0)
begins c line has = its_word (word_in line) (word_of c) (behind_in line) has.0 has.1

-- a line has one command
pub one_command : (c d : Command) (line : List ℕ) → HasCommand c line → HasCommand d line → d ≡ c
one_command c d line one other =
    let words : word_of d ≡ word_of c = sym (begins d line other).0 ∙ (begins c line one).0 in
    let same : Some d ≡ Some c = sym (known d).0 ∙ ap command_of words ∙ (known c).0 in cc

pub not_both : (b : Bool) → b ≡ true → b ≡ false → ⊥
not_both b one other = let n : ⊥ = cc in n

-- a line that has none of the commands has no command
pub has_none : (c : Command) (line : List ℕ) → has_one_of commands line ≡ false → HasCommand c line → ⊥
has_none c line none has =
    let is = begins c line has in
    let one : has_one (word_in line) (behind_in line) ≡ true =
    ap (λ here. has_one here (behind_in line)) is.0 ∙ ap (has_one (word_of c)) is.1 ∙ (known c).1 has.0 in
    not_both (has_one_of commands line) one none

none_other : (p : ℕ → Bool) (text : List ℕ) → list_all p text ≡ true → position_or_len (λ c. not (p c)) text ≡ length text
none_other p [] all = refl
none_other p (c ∷ text) all = let here : p c ≡ true = (and_parts _ _ all).0 in rw here (ap (λ n. 1 + n) (none_other p text (and_parts _ _ all).1) ∙ omega arith)

no_word : (line : List ℕ) → is_blank line ≡ true → after_white line ≡ []
no_word line blank = ap (λ n. drop n line) (none_other is_white line blank) ∙ drop-length line

-- a blank line has none of the commands
pub none_in_blank : (line : List ℕ) → is_blank line ≡ true → has_one_of commands line ≡ false
none_in_blank line blank = ap (λ text. has_one (in_capitals (first_word text)) (argument_behind (behind_word text))) (no_word line blank)

-- the argument of a command may take memory to read
abbrev pub takes_memory : Command → Bool
takes_memory cache = false
takes_memory after = false
takes_memory quit = false
takes_memory _ = true

some_argument : (argument : Option (List ℕ)) → is_some argument ≡ true → (value : List ℕ) × (argument ≡ Some value)
some_argument None some = absurd (let n : ⊥ = cc in n)
some_argument (Some value) some = (value, refl)

-- a line has no command that takes memory and one that takes none
apart : (c d : Command) (line : List ℕ) → takes_memory c ≡ false → takes_memory d ≡ true → HasCommand c line → is_some (argument_of (word_of d) line) ≡ true → ⊥
apart c d line free takes has some =
    not_both (takes_memory d) takes (ap takes_memory (one_command c d line has (some_argument (argument_of (word_of d) line) some)) ∙ free)

-- a line that may take memory to read has no command that takes none
pub takes_none : (c : Command) (line : List ℕ) → takes_memory c ≡ false → MayTakeMemory line → HasCommand c line → ⊥
takes_none c line free (utf8, inl some) has = apart c mdx line free refl has some
takes_none c line free (utf8, inr (inl some)) has = apart c append line free refl has some
takes_none c line free (utf8, inr (inr (inl some))) has = apart c flush line free refl has some
takes_none c line free (utf8, inr (inr (inr some))) has = apart c agg line free refl has some

-- The commands of a line, and their arguments. A line and a text are lists of their bytes.
use Rattle.std.specs.Prelude.{ℕ, ◌≡◌, ◌⊎◌, ◌&&◌, ◌||◌, List, [], ◌∷◌, Bool, true, false, not, Option, Some, None, bytes_eq, codes, drop, is_some, take, nat_le, if◌then◌else◌}
use Rattle.std.specs.List.{list_all, list_any, position_or_len}
use Rattle.std.specs.Option.{IsSome, option_map_or}
use Rattle.std.specs.Str.{is_utf8}
use Rattle.query_meaning.specs.Tokens.{in_capitals, is_white}

-- an ASCII letter
abbrev pub is_letter : ℕ → Bool
is_letter c = (nat_le 65 c && nat_le c 90) || (nat_le 97 c && nat_le c 122)

-- nothing but white
abbrev pub is_blank : List ℕ → Bool
is_blank = list_all is_white

-- a text without the white that it begins with
abbrev pub after_white : List ℕ → List ℕ
after_white text = drop (position_or_len (λ c. not (is_white c)) text) text

-- the letters that a text begins with
abbrev pub first_word : List ℕ → List ℕ
first_word text = take (position_or_len (λ c. not (is_letter c)) text) text

-- a text without the letters that it begins with
abbrev pub behind_word : List ℕ → List ℕ
behind_word text = drop (position_or_len (λ c. not (is_letter c)) text) text

-- the argument of a command, by what stands after its word: nothing, or what stands after one white character
abbrev pub argument_behind : List ℕ → Option (List ℕ)
argument_behind [] = Some []
argument_behind (c ∷ text) = if is_white c then Some text else None

-- the argument of a command in a line, by the command's word in capital letters; None where the line has another
-- word, or no white after it
abbrev pub argument_of : List ℕ → List ℕ → Option (List ℕ)
argument_of word line =
    if bytes_eq (in_capitals (first_word (after_white line))) word
    then argument_behind (behind_word (after_white line)) else None

-- a line has one of some commands, by their words in capital letters
abbrev pub has_one_of : List (List ℕ) → List ℕ → Bool
has_one_of words line = list_any (λ word. is_some (argument_of word line)) words

-- all commands
abbrev pub commands : List (List ℕ)
commands =
    codes "MDX" ∷ codes "APPEND" ∷ codes "FLUSH" ∷ codes "AGG" ∷ codes "CACHE" ∷ codes "AFTER"
    ∷ codes "QUIT" ∷ []

-- a line ends the session: QUIT, and white
abbrev pub is_quit : List ℕ → Bool
is_quit line = option_map_or is_blank (argument_of (codes "QUIT") line) false

-- a line of text has one of the commands whose argument may take memory to read
abbrev pub MayTakeMemory : List ℕ → Type 0
MayTakeMemory line =
    (is_utf8 line ≡ true)
    × (IsSome (argument_of (codes "MDX") line)
    ⊎ IsSome (argument_of (codes "APPEND") line)
    ⊎ IsSome (argument_of (codes "FLUSH") line)
    ⊎ IsSome (argument_of (codes "AGG") line))

-- a line of text asks for what is kept: CACHE, and white
abbrev pub is_show : List ℕ → Bool
is_show line = option_map_or is_blank (argument_of (codes "CACHE") line) false

-- a line is one to which want of memory may be replied
abbrev pub MayFindNoMemory : List ℕ → Type 0
MayFindNoMemory line =
    MayTakeMemory line ⊎ ((is_utf8 line ≡ true) × (is_show line ≡ true))

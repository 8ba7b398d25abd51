-- What `clap` makes of the words of any command that knows some options.
use Rattle.std.proofs.Common.{◌≡◌, ◌∙◌, ℕ, ◌+◌, Bool, true, false, List, [], ◌∷◌, ◌++◌, Option, None, Some, is_some, refl, sym, ap, inl, inr, map, take}
use Rattle.std.specs.List.{list_all, list_any}
use Rattle.std.specs.Str.{bytes_eq}
use Rattle.std.proofs.lemmas.Bool.{cases_Bool}
use Rattle.std.proofs.lemmas.List.{map-append}
use Rattle.clap.specs.Words.{App, Rule, first_of, with_rule}
use Rattle.clap.specs.Walk.{is_early_multiple, nothing_held, rows_after, rows_of, stop_after}
use Rattle.clap.specs.Simple.{Shape, built, entered, filled_from, is_simple, matches_of, on_top}
use Rattle.clap.specs.Kinds.{IsAmong, Kinds}
use Rattle.clap.specs.declared.error.kind.ErrorKind.{ErrorKind}
use Rattle.clap.specs.Faults.{entered_fault, fault_of, is_simple_and_free, level_fault}
use Rattle.clap.proofs.WalkLemmas.{first_value-rows}
use Rattle.clap.specs.declared.parser.matches.Found.{Found}
use Rattle.command_words.specs.Options.{Text, Known, Given, command_line, value_of}
use Rattle.command_words.specs.OddWords.{is_odd}
use Rattle.command_words.specs.Shapes.{HasOptions, given_rows, known_option, option_rule, options_app}
use Rattle.command_words.specs.declared.options.KnownOption.{KnownOption}
use Rattle.command_words.proofs.WalkFacts.{flat_shape, plain_rule, rest_fault, walk_idle, flat-reads, flat-refuses}
use Rattle.command_words.proofs.WordByWord.{line-is}

-- one more option
pub more-options : (name : Text) (known : Known) (option : Text × Bool)
    → with_rule (options_app name known) (option_rule option) ≡ options_app name (known ++ option ∷ [])
more-options name known option =
    ap (λ (rules : List Rule). on_top (λ shape. record shape { rules = rules }) (options_app name known)) (sym (map-append option_rule known (option ∷ [])))

pub one-more : (name : Text) (known : List KnownOption) (i : ℕ) (option : KnownOption) (before now : App)
    → now ≡ with_rule before (option_rule (known_option option)) → before ≡ options_app name (map known_option (take i known))
    → take (i + 1) known ≡ take i known ++ option ∷ [] → now ≡ options_app name (map known_option (take (i + 1) known))
one-more name known i option before now step is more =
    step ∙ ap (λ app. with_rule app (option_rule (known_option option))) is
    ∙ more-options name (map known_option (take i known)) (known_option option)
    ∙ ap (options_app name) (sym (map-append known_option (take i known) (option ∷ [])))
    ∙ ap (λ options. options_app name (map known_option options)) (sym more)

-- the arguments, as `clap` fills them in
filled-rules : (known : Known) → filled_from 1 (map option_rule known) ≡ map plain_rule known
filled-rules [] = refl
filled-rules (d ∷ ds) = ap (λ (rules : List Rule). plain_rule d ∷ rules) (filled-rules ds)

built-shape : (name : Text) (known : Known) → (built (options_app name known)).top ≡ flat_shape name known
built-shape name known = ap (λ (rules : List Rule). record (flat_shape name known) { rules = rules }) (filled-rules known)

given-simple : (known : Known) → list_all (λ a. a.is_simple) (map option_rule known) ≡ true
given-simple [] = refl
given-simple (d ∷ ds) = given-simple ds

all-simple : (known : Known) → list_all (λ a. a.is_simple) (map plain_rule known) ≡ true
all-simple [] = refl
all-simple (d ∷ ds) = all-simple ds

all-free : (known : Known) → list_all (λ a. a.is_free) (map plain_rule known) ≡ true
all-free [] = refl
all-free (d ∷ ds) = all-free ds

none-early : (known : Known) (n : ℕ) → list_any (is_early_multiple n) (map plain_rule known) ≡ false
none-early [] n = refl
none-early (d ∷ ds) n = none-early ds n

pub options-simple : (name : Text) (known : Known) → is_simple (options_app name known) ≡ true
options-simple name known = rw (given-simple known, filled-rules known, all-simple known, none-early known _) refl

pub options-free : (name : Text) (known : Known) → is_simple_and_free (options_app name known) ≡ true
options-free name known = rw (options-simple name known, filled-rules known, all-free known) refl

at_stop : (shape : Shape) (stop : Option (Text × List Text)) (words : List Text)
    → level_fault shape [] nothing_held words (is_some (entered (record { top = shape; subs = [] }) stop)) (entered_fault (record { top = shape; subs = [] }) stop)
    ≡ rest_fault shape (walk_idle [] None) words
at_stop shape None words = refl
at_stop shape (Some p) words = refl

options-fault : (name : Text) (known : Known) (words : List Text)
    → fault_of (options_app name known) words ≡ rest_fault (flat_shape name known) (walk_idle [] None) words
options-fault name known words =
    at_stop (built (options_app name known)).top (stop_after (built (options_app name known)).top.rules [] words) words
    ∙ ap (λ shape. rest_fault shape (walk_idle [] None) words) (built-shape name known)

-- words that `clap` takes are a command line, and it finds their options
pub options-read : (name : Text) (known : Known) (words : List Text) → list_any is_odd words ≡ false → fault_of (options_app name known) words ≡ []
    → (given : Given) × (command_line known words ≡ Some given) × (matches_of (options_app name known) words ≡ given_rows given)
options-read name known words plain e =
    let (given, line, rows) = flat-reads name known words plain (sym (options-fault name known words) ∙ e) in
    (given, sym (line-is known words plain) ∙ line, ap (λ rules. rows_after rules [] words) (filled-rules known) ∙ rows)

-- and words that it refuses are none
pub options-refused : (name : Text) (known : Known) (words : List Text) → list_any is_odd words ≡ false
    → (fault_of (options_app name known) words ≡ [] → ⊥) → command_line known words ≡ None
options-refused name known words plain full =
    sym (line-is known words plain) ∙ flat-refuses name known words plain (λ e. full (options-fault name known words ∙ e))

pub among-full : (k : ErrorKind) (kinds : Kinds) → IsAmong k kinds → kinds ≡ [] → ⊥
among-full k [] h e = h
among-full k (x ∷ xs) h e = cc e

value-row : (given : Given) (n : Text) → first_of n (given_rows given) ≡ value_of n given
value-row [] n = refl
value-row (o ∷ os) n =
    elim (cases_Bool (bytes_eq o.0 n)) [
      | inl same ↦ rw same refl
      | inr other ↦ rw other (value-row os n)
    ]

-- the value that is found for an option
pub has-options : (line : Option Given) (given : Given) (found : Found) → line ≡ Some given → rows_of found ≡ given_rows given → HasOptions line found
has-options None given found e rows = absurd (cc e)
has-options (Some g) given found e rows = λ n.
    let same : g ≡ given = cc e in
    first_value-rows found n ∙ ap (first_of n) rows ∙ value-row given n ∙ ap (value_of n) (sym same)

-- A command line read word by word, as `clap` reads it: each option is tested as it comes.
use Rattle.std.proofs.Common.{◌≡◌, ◌∙◌, ◌&&◌, ◌||◌, Bool, true, false, not, List, [], ◌∷◌, ◌++◌, Option, None, Some, refl, sym, ap, inl, inr, if◌then◌else◌, true≢false, option_map}
use Rattle.std.specs.List.{list_all, list_any}
use Rattle.std.specs.Str.{bytes_eq}
use Rattle.std.proofs.lemmas.Bool.{cases_Bool}
use Rattle.std.proofs.lemmas.List.{append-nil, append_assoc}
use Rattle.std.proofs.lemmas.List.Folds.{list_all-append, list_any-append}
use Rattle.std.proofs.lemmas.Slice.Eq.{bytes_eq-Decides}
use Rattle.clap.specs.Lexer.{long_of}
use Rattle.command_words.specs.Options.{Text, Known, Given, command_line, from_word, is_given, is_known, is_once, is_value, is_whole, options_from, taken, takes}
use Rattle.olap_meaning.proofs.Lists.{or_first, or_second}
use Rattle.command_words.specs.OddWords.{is_odd}
use Rattle.command_words.proofs.WordFacts.{begins_with_hyphen, odd-none, plain-value, plain-word}

-- what a word makes of the rest: an option with its value, a name whose value is the next word, or no option
abbrev pub line_word : Known → Given → Option (Text × Option Text) → (Given → Option Text → Option Given) → Option Given
line_word known given None rest = None
line_word known given (Some (name, None)) rest = if is_known known name then rest given (Some name) else None
line_word known given (Some (name, Some value)) rest =
    if is_known known name && not (is_given given name) then rest (given ++ (name, value) ∷ []) None else None

-- a command line of these words, where `given` was read before them, and a name may wait for its value
unfoldable pub line_from : Known → Given → Option Text → List Text → Option Given
line_from known given None [] = if is_whole known given then Some given else None
line_from known given (Some name) [] = None
line_from known given None (word ∷ words) = line_word known given (long_of word) (λ g p. line_from known g p words)
line_from known given (Some name) (word ∷ words) =
    if not (begins_with_hyphen word) && not (is_given given name) then line_from known (given ++ (name, word) ∷ []) None words else None

abbrev pub line_of : Known → List Text → Option Given
line_of known words = line_from known [] None words

-- options that are tested one by one, where `given` was read before them
abbrev pub each_of : Known → Given → Given → Option Given
each_of known given [] = if is_whole known given then Some given else None
each_of known given (o ∷ os) = if is_known known o.0 && not (is_given given o.0) then each_of known (given ++ o ∷ []) os else None

abbrev pub after : Known → Given → Option Given → Option Given
after known given None = None
after known given (Some os) = each_of known given os

abbrev pub WaitsFor : Known → Option Text → Type 0
WaitsFor known None = Unit {0}
WaitsFor known (Some n) = is_known known n ≡ true

none_else : (b : Bool) (o : Option Given) → o ≡ None → None ≡ (if b then o else None)
none_else true o e = sym e
none_else false o e = refl

none_unknown : (b c : Bool) (o : Option Given) → b ≡ false → (if b && c then o else None) ≡ None
none_unknown true c o e = absurd (true≢false e)
none_unknown false c o e = refl

module _ (known : Known) where
  after-more : (given : Given) (n v : Text) (o : Option Given)
      → after known given (option_map (λ os. (n, v) ∷ os) o)
      ≡ (if is_known known n && not (is_given given n) then after known (given ++ (n, v) ∷ []) o else None)
  after-more given n v None = none_else (is_known known n && not (is_given given n)) None refl
  after-more given n v (Some os) = refl

  unknown : (given : Given) (n : Text) (words : List Text) → is_known known n ≡ false → after known given (options_from (Some n) words) ≡ None
  unfolding options_from
  unknown given n [] k = refl
  unknown given n (word ∷ words) k =
      elim (cases_Bool (is_value word)) [
        | inl v ↦ rw v
            (after-more given n word (options_from None words)
            ∙ none_unknown (is_known known n) (not (is_given given n)) (after known (given ++ (n, word) ∷ []) (options_from None words)) k)
        | inr v ↦ rw v refl
      ]

  by_word : (given : Given) (o : Option (Text × Option Text)) (rest : Given → Option Text → Option Given) (others : Option Text → Option Given)
      → ((g : Given) (w : Option Text) → WaitsFor known w → rest g w ≡ after known g (others w))
      → ((n : Text) → is_known known n ≡ false → after known given (others (Some n)) ≡ None)
      → line_word known given o rest ≡ after known given (from_word o others)
  by_word given None rest others h none = refl
  by_word given (Some (n, None)) rest others h none =
      elim (cases_Bool (is_known known n)) [
        | inl k ↦ rw k (h given (Some n) k)
        | inr k ↦ rw k (sym (none n k))
      ]
  by_word given (Some (n, Some v)) rest others h none =
      ap (λ (r : Option Given). if is_known known n && not (is_given given n) then r else None) (h (given ++ (n, v) ∷ []) None tt)
      ∙ sym (after-more given n v (others None))

  by_value : (given : Given) (n word : Text) (rest others : Option Given) → is_known known n ≡ true → is_value word ≡ not (begins_with_hyphen word)
      → rest ≡ after known (given ++ (n, word) ∷ []) others
      → (if not (begins_with_hyphen word) && not (is_given given n) then rest else None)
      ≡ after known given (if is_value word then option_map (λ os. (n, word) ∷ os) others else None)
  by_value given n word rest others k v h =
      elim (cases_Bool (begins_with_hyphen word)) [
        | inl b ↦ rw (v, b) refl
        | inr b ↦
            rw (v, b)
            (ap (λ (r : Option Given). if not (is_given given n) then r else None) h
            ∙ ap (λ k. if k && not (is_given given n) then after known (given ++ (n, word) ∷ []) others else None) (sym k)
            ∙ sym (after-more given n word others))
      ]

  -- word by word is as all at once
  reads : (words : List Text) (given : Given) (waits : Option Text) → list_any is_odd words ≡ false → WaitsFor known waits
      → line_from known given waits words ≡ after known given (options_from waits words)
  unfolding line_from options_from
  reads [] given None plain k = refl
  reads [] given (Some n) plain k = refl
  reads (word ∷ words) given None plain k =
      let later = or_second (is_odd word) (list_any is_odd words) plain in
      by_word given (long_of word) (λ g p. line_from known g p words) (λ w. options_from w words)
      (λ g w j. reads words g w later j) (λ n j. unknown given n words j)
      ∙ ap (λ o. after known given (from_word o (λ w. options_from w words))) (sym (plain-word word (or_first (is_odd word) (list_any is_odd words) plain)))
  reads (word ∷ words) given (Some n) plain k =
      by_value given n word (line_from known (given ++ (n, word) ∷ []) None words) (options_from None words) k
      (plain-value word (or_first (is_odd word) (list_any is_odd words) plain))
      (reads words (given ++ (n, word) ∷ []) None (or_second (is_odd word) (list_any is_odd words) plain) tt)

pub eq-turn : (a b : Text) (r : Bool) → bytes_eq a b ≡ r → bytes_eq b a ≡ r
eq-turn a b true e = (bytes_eq-Decides b a).1 (sym ((bytes_eq-Decides a b).0 e))
eq-turn a b false e =
    elim (cases_Bool (bytes_eq b a)) [
      | inl h ↦ absurd (true≢false (sym ((bytes_eq-Decides a b).1 (sym ((bytes_eq-Decides b a).0 h))) ∙ e))
      | inr h ↦ h
    ]

both_are : (a b : Bool) → (not a && b) ≡ true → (a ≡ false) × (b ≡ true)
both_are true b e = absurd (true≢false (sym e))
both_are false b e = (refl, e)

or_false : (a b : Bool) → a ≡ false → b ≡ false → (a || (b || false)) ≡ false
or_false a b e f = rw (e, f) refl

or_middle : (a b c : Bool) → b ≡ true → (a || (b || c)) ≡ true
or_middle true b c e = refl
or_middle false b c e = rw e refl

and_false : (a b : Bool) → b ≡ false → (a && b) ≡ false
and_false true b e = e
and_false false b e = refl

once-more : (given : Given) (o : Text × Text) → is_once given ≡ true → is_given given o.0 ≡ false → is_once (given ++ o ∷ []) ≡ true
once-more [] o h new = refl
once-more (g ∷ gs) o h new =
    let parts = both_are (is_given gs g.0) (is_once gs) h in
    let other = or_first (bytes_eq g.0 o.0) (is_given gs o.0) new in
    let apart : is_given (gs ++ o ∷ []) g.0 ≡ false =
    list_any-append (λ (option : Text × Text). bytes_eq option.0 g.0) gs (o ∷ []) ∙ or_false (is_given gs g.0) (bytes_eq o.0 g.0) parts.0 (eq-turn g.0 o.0 false other) in
    rw apart (once-more gs o parts.1 (or_second (bytes_eq g.0 o.0) (is_given gs o.0) new))

once-not : (given : Given) (o : Text × Text) (os : Given) → is_given given o.0 ≡ true → is_once (given ++ o ∷ os) ≡ false
once-not [] o os h = absurd (true≢false (sym h))
once-not (g ∷ gs) o os h =
    elim (cases_Bool (bytes_eq g.0 o.0)) [
      | inl same ↦
          let there : is_given (gs ++ o ∷ os) g.0 ≡ true =
          list_any-append (λ (option : Text × Text). bytes_eq option.0 g.0) gs (o ∷ os) ∙ or_middle (is_given gs g.0) (bytes_eq o.0 g.0) (is_given os g.0) (eq-turn g.0 o.0 true same) in
          rw there refl
      | inr other ↦
          let later : is_given gs o.0 ≡ true = rw other at h in
          and_false (not (is_given (gs ++ o ∷ os) g.0)) (is_once (gs ++ o ∷ os)) (once-not gs o os later)
    ]

abbrev all_known : Known → Given → Bool
all_known known given = list_all (λ option. is_known known option.0) given

module _ (known : Known) where
  taken_by : (given : Given) → is_once given ≡ true → all_known known given ≡ true
      → (if is_whole known given then Some given else None) ≡ taken known (Some given)
  taken_by given once all = rw (all, once) refl

  refused : (given : Given) → takes known given ≡ false → None ≡ taken known (Some given)
  refused given h = rw h refl

  each-taken : (os given : Given) → is_once given ≡ true → all_known known given ≡ true → each_of known given os ≡ taken known (Some (given ++ os))
  each-taken [] given once all = taken_by given once all ∙ ap (λ g. taken known (Some g)) (sym (append-nil given))
  each-taken (o ∷ os) given once all =
      let parts = list_all-append (λ (option : Text × Text). is_known known option.0) given (o ∷ os) in
      elim (cases_Bool (is_known known o.0)) [
        | inl k ↦ elim (cases_Bool (is_given given o.0)) [
          | inl twice ↦ rw (k, twice) (refused (given ++ o ∷ os)
              (and_false (all_known known (given ++ o ∷ os)) (is_once (given ++ o ∷ os) && is_whole known (given ++ o ∷ os))
              (ap (λ b. b && is_whole known (given ++ o ∷ os)) (once-not given o os twice))))
          | inr new ↦
              let one : all_known known (given ++ o ∷ []) ≡ true =
              list_all-append (λ (option : Text × Text). is_known known option.0) given (o ∷ []) ∙ rw (all, k) refl in
              rw (k, new) (each-taken os (given ++ o ∷ []) (once-more given o once new) one ∙ ap (λ g. taken known (Some g)) (append_assoc given (o ∷ []) os))
        ]
        | inr k ↦
            let none : all_known known (given ++ o ∷ os) ≡ false = parts ∙ rw (all, k) refl in
            rw k (refused (given ++ o ∷ os) (ap (λ b. b && (is_once (given ++ o ∷ os) && is_whole known (given ++ o ∷ os))) none))
      ]

  all-taken : (o : Option Given) → after known [] o ≡ taken known o
  all-taken None = refl
  all-taken (Some os) = each-taken os [] refl refl

  -- of words that are not odd the definition makes what is read word by word
  pub line-is : (words : List Text) → list_any is_odd words ≡ false → line_of known words ≡ command_line known words
  line-is words plain = reads known words [] None plain tt ∙ all-taken (options_from None words)

  -- words of which one is odd are no command line
  pub odd-line : (words : List Text) → list_any is_odd words ≡ true → command_line known words ≡ None
  odd-line words odd = ap (taken known) (odd-none words None odd)

-- The file of a command line of `run` that gives no budget is the one of the one or two words that `schema_file` knows.
use Rattle.std.proofs.Common.{◌≡◌, ◌∙◌, ◌==◌, ◌&&◌, ℕ, Bool, true, false, List, [], ◌∷◌, ◌++◌, Option, None, Some, refl, sym, ap, ap₂, subst, inl, inr, if◌then◌else◌, true≢false, option_map, codes, drop, nat_eq}
use Rattle.std.specs.List.{list_all, list_any, before_first, after_first, position_or_len, starts_with}
use Rattle.std.specs.Option.{option_and_then}
use Rattle.std.specs.Str.{bytes_eq}
use Rattle.std.proofs.lemmas.Bool.{and_parts, cases_Bool, or_parts}
use Rattle.std.proofs.lemmas.Bool.Decides.{Decides-eqb}
use Rattle.std.proofs.lemmas.Slice.Eq.{bytes_eq-Decides, starts_is}
use Rattle.std.proofs.Math.Bool.{and-false}
use Rattle.command_words.specs.Commands.{run_known}
use Rattle.command_words.specs.OneOption.{file_alone, is_file_word, joined_file, schema_file}
use Rattle.command_words.specs.Options.{Text, Given, Known, behind_hyphens, from_word, is_equals, is_given, is_known, is_value, joined_value, option_parts, option_word, options_from, taken, takes, value_of}
use Rattle.command_words.proofs.WordFacts.{drop-one, take-one}
use Rattle.command_words.proofs.WordByWord.{eq-turn}

abbrev schema_name : Text
schema_name = codes "schema"

abbrev budget_name : Text
budget_name = codes "budget"

abbrev schema_word : Text
schema_word = codes "--schema"

abbrev schema_start : Text
schema_start = codes "--schema="

same_text : (a b : Text) → bytes_eq a b ≡ true → a ≡ b
same_text a b h = (bytes_eq-Decides a b).0 h

-- ---- what a word is, of which the parts are known

picked : {X : Type 0} (b : Bool) (o : Option X) (y : X) → (if b then o else None) ≡ Some y → (b ≡ true) × (o ≡ Some y)
picked true o y e = (refl, e)
picked false o y e = absurd (cc e)

behind : (w t : Text) → behind_hyphens w ≡ Some t → w ≡ 45 ∷ 45 ∷ t
behind [] t e = absurd (cc e)
behind (a ∷ []) t e = absurd (cc e)
behind (a ∷ b ∷ []) t e = absurd (cc e)
behind (a ∷ b ∷ c ∷ cs) t e =
    let found = picked (a == 45 && b == 45) (Some (c ∷ cs)) t e in
    let hyphens = and_parts (a == 45) (b == 45) found.0 in
    let first : a ≡ 45 = (Decides-eqb a 45).0 hyphens.0 in
    let second : b ≡ 45 = (Decides-eqb b 45).0 hyphens.1 in
    let rest : c ∷ cs ≡ t = cc (found.1) in
    rw (first, second, rest) refl

split-equals : (xs : Text) → list_any is_equals xs ≡ true → xs ≡ before_first is_equals xs ++ (61 ∷ after_first is_equals xs)
split-equals [] h = absurd (true≢false (sym h))
split-equals (x ∷ xs) h =
    elim (cases_Bool (is_equals x)) [
      | inl here ↦
          let P : ℕ → Type 0 = λ b. b ∷ xs ≡ before_first is_equals (b ∷ xs) ++ (61 ∷ after_first is_equals (b ∷ xs)) in
          subst P (sym ((Decides-eqb x 61).0 here)) refl
      | inr other ↦ rw other
          (ap (λ (t : Text). x ∷ t) (split-equals xs (rw other at h))
          ∙ sym (ap₂ (λ (a b : Text). a ++ (61 ∷ b)) (take-one (position_or_len is_equals xs) x xs) (drop-one (position_or_len is_equals xs) x xs)))
    ]

parts_are : (p q : Text × Option Text) → Some p ≡ Some q → (p.0 ≡ q.0) × (p.1 ≡ q.1)
parts_are p q e =
    let same : p ≡ q = cc e in
    (ap (λ (r : Text × Option Text). r.0) same, ap (λ (r : Text × Option Text). r.1) same)

joined_is : (name n t v : Text) → joined_value name t ≡ Some (n, Some v) → (name ≡ n) × (t ≡ v)
joined_is name n [] v e = absurd (cc e)
joined_is name n (b ∷ bs) v e =
    let same = parts_are (name, Some (b ∷ bs)) (n, Some v) e in
    let value : Some (b ∷ bs) ≡ Some v = same.1 in
    (same.0, cc value)

joined_not : (name n t : Text) → joined_value name t ≡ Some (n, None) → ⊥
joined_not name n [] e = cc e
joined_not name n (b ∷ bs) e =
    let value : Some (b ∷ bs) ≡ None = (parts_are (name, Some (b ∷ bs)) (n, None) e).1 in
    cc value

parts_joined : (t n v : Text) → option_parts t ≡ Some (n, Some v) → t ≡ n ++ (61 ∷ v)
parts_joined t n v e =
    elim (cases_Bool (list_any is_equals t)) [
      | inl has ↦
          let (name, value) = joined_is (before_first is_equals t) n (after_first is_equals t) v (rw has at e) in
          split-equals t has ∙ ap (λ a. a ++ (61 ∷ after_first is_equals t)) name ∙ ap (λ b. n ++ (61 ∷ b)) value
      | inr none ↦ let value : None ≡ Some v = (parts_are (t, None) (n, Some v) (rw none at e)).1 in
          absurd (cc value)
    ]

parts_alone : (t n : Text) → option_parts t ≡ Some (n, None) → t ≡ n
parts_alone t n e =
    elim (cases_Bool (list_any is_equals t)) [
      | inl has ↦ absurd (joined_not (before_first is_equals t) n (after_first is_equals t) (rw has at e))
      | inr none ↦ (parts_are (t, None) (n, None) (rw none at e)).0
    ]

some_text : (o : Option Text) (p : Text × Option Text) → option_and_then option_parts o ≡ Some p → (t : Text) × (o ≡ Some t) × (option_parts t ≡ Some p)
some_text None p e = absurd (cc e)
some_text (Some t) p e = (t, refl, e)

word_joined : (w n v : Text) → option_word w ≡ Some (n, Some v) → w ≡ 45 ∷ 45 ∷ (n ++ (61 ∷ v))
word_joined w n v e =
    let (t, stands, parts) = some_text (behind_hyphens w) (n, Some v) e in
    behind w t stands ∙ ap (λ (s : Text). 45 ∷ 45 ∷ s) (parts_joined t n v parts)

word_alone : (w n : Text) → option_word w ≡ Some (n, None) → w ≡ 45 ∷ 45 ∷ n
word_alone w n e =
    let (t, stands, parts) = some_text (behind_hyphens w) (n, None) e in
    behind w t stands ∙ ap (λ (s : Text). 45 ∷ 45 ∷ s) (parts_alone t n parts)

-- ---- options that `run` takes where no budget is given: those of a command that knows the schema alone

abbrev schema_known : Known
schema_known = (schema_name, true) ∷ []

abbrev file_of : Option Given → Option Text
file_of o = option_and_then (value_of schema_name) (taken schema_known o)

one_by : (n v : Text) → n ≡ schema_name → file_of (Some ((n, v) ∷ [])) ≡ Some v
one_by n v e = let P : Text → Type 0 = λ m. file_of (Some ((m, v) ∷ [])) ≡ Some v in subst P (sym e) refl

not_taken : (o : Given) → takes schema_known o ≡ false → file_of (Some o) ≡ None
not_taken o h = rw h refl

other_name : (n v : Text) (rest : Given) → bytes_eq n schema_name ≡ false → takes schema_known ((n, v) ∷ rest) ≡ false
other_name n v rest h = rw (eq-turn n schema_name false h) refl

one_file : (n v : Text) → file_of (Some ((n, v) ∷ [])) ≡ (if bytes_eq n schema_name then Some v else None)
one_file n v =
    elim (cases_Bool (bytes_eq n schema_name)) [
      | inl same ↦ one_by n v (same_text n schema_name same) ∙ ap (λ b. if b then Some v else None) (sym same)
      | inr other ↦ not_taken ((n, v) ∷ []) (other_name n v [] other) ∙ ap (λ b. if b then Some v else None) (sym other)
    ]

abbrev file_in : List Text → Option Text
file_in words = file_of (options_from None words)

abbrev AtLeastOne : Option Given → Type 0
AtLeastOne None = Unit {0}
AtLeastOne (Some []) = ⊥
AtLeastOne (Some (a ∷ os)) = Unit {0}

abbrev AtLeastTwo : Option Given → Type 0
AtLeastTwo None = Unit {0}
AtLeastTwo (Some []) = ⊥
AtLeastTwo (Some (a ∷ [])) = ⊥
AtLeastTwo (Some (a ∷ b ∷ os)) = Unit {0}

two_options : (a b : Text × Text) (os : Given) → takes schema_known (a ∷ b ∷ os) ≡ false
two_options a b os =
    elim (cases_Bool (bytes_eq a.0 schema_name)) [
      | inr other ↦ rw (eq-turn a.0 schema_name false other) refl
      | inl first ↦ elim (cases_Bool (bytes_eq b.0 schema_name)) [
        | inr other ↦ rw (eq-turn b.0 schema_name false other, eq-turn a.0 schema_name true first) refl
        | inl second ↦
            let same : bytes_eq b.0 a.0 ≡ true =
            (bytes_eq-Decides b.0 a.0).1 (same_text b.0 schema_name second ∙ sym (same_text a.0 schema_name first)) in
            rw same (and-false (list_all (λ (option : Text × Text). is_known schema_known option.0) (a ∷ b ∷ os)))
      ]
    ]

two_none : (o : Option Given) → AtLeastTwo o → file_of o ≡ None
two_none None h = refl
two_none (Some []) h = absurd h
two_none (Some (a ∷ [])) h = absurd h
two_none (Some (a ∷ b ∷ os)) h = not_taken (a ∷ b ∷ os) (two_options a b os)

one_more : (p : Text × Text) (o : Option Given) → AtLeastOne (option_map (λ given. p ∷ given) o)
one_more p None = tt
one_more p (Some os) = tt

two_more : (p : Text × Text) (o : Option Given) → AtLeastOne o → AtLeastTwo (option_map (λ given. p ∷ given) o)
two_more p None h = tt
two_more p (Some []) h = absurd h
two_more p (Some (a ∷ os)) h = tt

if_one : (b : Bool) (o : Option Given) → AtLeastOne o → AtLeastOne (if b then o else None)
if_one true o h = h
if_one false o h = tt

if_two : (b : Bool) (o : Option Given) → AtLeastTwo o → AtLeastTwo (if b then o else None)
if_two true o h = h
if_two false o h = tt

name_one : (n : Text) (words : List Text) → AtLeastOne (options_from (Some n) words)
unfolding options_from
name_one n [] = tt
name_one n (word ∷ words) =
    if_one (is_value word) (option_map (λ given. (n, word) ∷ given) (options_from None words)) (one_more (n, word) (options_from None words))

word_one : (o : Option (Text × Option Text)) (others : Option Text → Option Given) → ((n : Text) → AtLeastOne (others (Some n))) → AtLeastOne (from_word o others)
word_one None others h = tt
word_one (Some (n, None)) others h = h n
word_one (Some (n, Some v)) others h = one_more (n, v) (others None)

words_one : (word : Text) (words : List Text) → AtLeastOne (options_from None (word ∷ words))
unfolding options_from
words_one word words = word_one (option_word word) (λ waiting. options_from waiting words) (λ n. name_one n words)

word_two : (o : Option (Text × Option Text)) (others : Option Text → Option Given) → AtLeastOne (others None) → ((n : Text) → AtLeastTwo (others (Some n)))
    → AtLeastTwo (from_word o others)
word_two None others one two = tt
word_two (Some (n, None)) others one two = two n
word_two (Some (n, Some v)) others one two = two_more (n, v) (others None) one

name_two : (n word next : Text) (words : List Text) → AtLeastTwo (options_from (Some n) (word ∷ next ∷ words))
unfolding options_from
name_two n word next words =
    if_two (is_value word) (option_map (λ given. (n, word) ∷ given) (options_from None (next ∷ words)))
    (two_more (n, word) (options_from None (next ∷ words)) (words_one next words))

words_two : (first second third : Text) (words : List Text) → AtLeastTwo (options_from None (first ∷ second ∷ third ∷ words))
unfolding options_from
words_two first second third words =
    word_two (option_word first) (λ waiting. options_from waiting (second ∷ third ∷ words)) (words_one second (third ∷ words)) (λ n. name_two n second third words)

-- ---- one word

abbrev single : Option (Text × Option Text) → Option Text
single None = None
single (Some (n, None)) = None
single (Some (n, Some v)) = if bytes_eq n schema_name then Some v else None

single_by : (o : Option (Text × Option Text)) (others : Option Text → Option Given) → others None ≡ Some [] → ((n : Text) → others (Some n) ≡ None)
    → file_of (from_word o others) ≡ single o
single_by None others e h = refl
single_by (Some (n, None)) others e h = ap file_of (h n)
single_by (Some (n, Some v)) others e h = ap (λ x. file_of (option_map (λ given. (n, v) ∷ given) x)) e ∙ one_file n v

single_run : (word : Text) → file_in (word ∷ []) ≡ single (option_word word)
unfolding options_from
single_run word = single_by (option_word word) (λ waiting. options_from waiting []) refl (λ n. refl)

joined_at : (t : Text) → joined_file (schema_start ++ t) ≡ single (option_word (schema_start ++ t))
joined_at [] = refl
joined_at (b ∷ bs) = refl

not_joined : (word : Text) (o : Option (Text × Option Text)) → starts_with nat_eq word schema_start ≡ false → option_word word ≡ o → single o ≡ None
not_joined word None h e = refl
not_joined word (Some (n, None)) h e = refl
not_joined word (Some (n, Some v)) h e =
    elim (cases_Bool (bytes_eq n schema_name)) [
      | inl same ↦
          let is : word ≡ schema_start ++ v = word_joined word n v e ∙ ap (λ (m : Text). 45 ∷ 45 ∷ (m ++ (61 ∷ v))) (same_text n schema_name same) in
          let begun : starts_with nat_eq word schema_start ≡ true = ap (λ w. starts_with nat_eq w schema_start) is in
          absurd (true≢false (sym begun ∙ h))
      | inr other ↦ rw other refl
    ]

not_begun : (word : Text) → starts_with nat_eq word schema_start ≡ false → joined_file word ≡ None
not_begun word h = rw h refl

single_file : (word : Text) → joined_file word ≡ single (option_word word)
single_file word =
    elim (cases_Bool (starts_with nat_eq word schema_start)) [
      | inl begun ↦
          let is : word ≡ schema_start ++ drop 9 word = (starts_is {E = nat_eq} Decides-eqb word schema_start (starts_with nat_eq word schema_start) refl).0 begun in
          let P : Text → Type 0 = λ w. joined_file w ≡ single (option_word w) in
          subst P (sym is) (joined_at (drop 9 word))
      | inr other ↦ not_begun word other ∙ sym (not_joined word (option_word word) other refl)
    ]

-- ---- two words

abbrev paired : Option (Text × Option Text) → Text → Option Text
paired None file = None
paired (Some (n, Some v)) file = None
paired (Some (n, None)) file = if bytes_eq n schema_name && is_value file then Some file else None

named_by : (n file : Text) (v : Bool) → (if v then option_map {U = Given} (λ given. (n, file) ∷ given) (Some []) else None) ≡ (if v then Some ((n, file) ∷ []) else None)
named_by n file true = refl
named_by n file false = refl

named_file : (n file : Text) (v : Bool) → file_of (if v then Some ((n, file) ∷ []) else None) ≡ (if bytes_eq n schema_name && v then Some file else None)
named_file n file true =
    elim (cases_Bool (bytes_eq n schema_name)) [
      | inl same ↦ one_by n file (same_text n schema_name same) ∙ ap (λ b. if b && true then Some file else None) (sym same)
      | inr other ↦ not_taken ((n, file) ∷ []) (other_name n file [] other) ∙ ap (λ b. if b && true then Some file else None) (sym other)
    ]
named_file n file false =
    elim (cases_Bool (bytes_eq n schema_name)) [
      | inl same ↦ rw same refl
      | inr other ↦ rw other refl
    ]

pair_by : (o : Option (Text × Option Text)) (file : Text) (others : Option Text → Option Given) → AtLeastOne (others None)
    → ((n : Text) → others (Some n) ≡ (if is_value file then Some ((n, file) ∷ []) else None)) → file_of (from_word o others) ≡ paired o file
pair_by None file others one h = refl
pair_by (Some (n, None)) file others one h = ap file_of (h n) ∙ named_file n file (is_value file)
pair_by (Some (n, Some v)) file others one h = two_none (option_map (λ given. (n, v) ∷ given) (others None)) (two_more (n, v) (others None) one)

pair_run : (word file : Text) → file_in (word ∷ file ∷ []) ≡ paired (option_word word) file
unfolding options_from
pair_run word file =
    pair_by (option_word word) file (λ waiting. options_from waiting (file ∷ [])) (words_one file []) (λ n. named_by n file (is_value file))

file_word : (file : Text) → is_file_word file ≡ is_value file
file_word [] = refl
file_word (c ∷ cs) = refl

not_named : (word file : Text) (o : Option (Text × Option Text)) → bytes_eq word schema_word ≡ false → option_word word ≡ o → paired o file ≡ None
not_named word file None h e = refl
not_named word file (Some (n, Some v)) h e = refl
not_named word file (Some (n, None)) h e =
    elim (cases_Bool (bytes_eq n schema_name)) [
      | inl same ↦
          let is : word ≡ schema_word = word_alone word n e ∙ ap (λ (m : Text). 45 ∷ 45 ∷ m) (same_text n schema_name same) in
          absurd (true≢false (sym ((bytes_eq-Decides word schema_word).1 is) ∙ h))
      | inr other ↦ rw other refl
    ]

not_word : (word file : Text) → bytes_eq word schema_word ≡ false → schema_file (word ∷ file ∷ []) ≡ None
not_word word file h = rw h refl

pair_at : (file : Text) → schema_file (schema_word ∷ file ∷ []) ≡ paired (option_word schema_word) file
pair_at file = ap (λ (b : Bool). if b then Some file else None) (file_word file)

pair_file : (word file : Text) → schema_file (word ∷ file ∷ []) ≡ paired (option_word word) file
pair_file word file =
    elim (cases_Bool (bytes_eq word schema_word)) [
      | inl same ↦
          let P : Text → Type 0 = λ w. schema_file (w ∷ file ∷ []) ≡ paired (option_word w) file in
          subst P (sym (same_text word schema_word same)) (pair_at file)
      | inr other ↦ not_word word file other ∙ sym (not_named word file (option_word word) other refl)
    ]

-- ---- the law

none_run : file_in [] ≡ None
unfolding options_from
none_run = refl

schema_in : (words : List Text) → file_in words ≡ schema_file words
schema_in [] = none_run
schema_in (word ∷ []) = single_run word ∙ sym (single_file word)
schema_in (word ∷ file ∷ []) = pair_run word file ∙ sym (pair_file word file)
schema_in (first ∷ second ∷ third ∷ words) = two_none (options_from None (first ∷ second ∷ third ∷ words)) (words_two first second third words)

known_alone : (given : Given) → is_given given budget_name ≡ false → list_all (λ (option : Text × Text). is_known run_known option.0) given ≡ list_all (λ (option : Text × Text). is_known schema_known option.0) given
known_alone [] h = refl
known_alone (option ∷ given) h =
    let parts = or_parts (bytes_eq option.0 budget_name) (is_given given budget_name) h in
    rw (eq-turn option.0 budget_name false parts.0, known_alone given parts.1) refl

budget_unknown : (n : Text) → n ≡ budget_name → is_known schema_known n ≡ false
budget_unknown n e = subst (λ (m : Text). is_known schema_known m ≡ false) (sym e) refl

known_not : (given : Given) → is_given given budget_name ≡ true → list_all (λ (option : Text × Text). is_known schema_known option.0) given ≡ false
known_not [] h = absurd (true≢false (sym h))
known_not (option ∷ given) h =
    elim (cases_Bool (bytes_eq option.0 budget_name)) [
      | inl same ↦ rw (budget_unknown option.0 (same_text option.0 budget_name same)) refl
      | inr other ↦ rw (known_not given (rw other at h)) (and-false (is_known schema_known option.0))
    ]

none_where : (b : Bool) (given : Given) (f : Given → Option Text) → f given ≡ None → option_and_then f (if b then Some given else None) ≡ None
none_where true given f h = h
none_where false given f h = refl

same_where : (b c : Bool) (given : Given) (f g : Given → Option Text) → b ≡ c → f given ≡ g given → option_and_then f (if b then Some given else None) ≡ option_and_then g (if c then Some given else None)
same_where true true given f g e h = h
same_where false false given f g e h = refl
same_where true false given f g e h = absurd (true≢false e)
same_where false true given f g e h = absurd (true≢false (sym e))

abbrev unless_budget : Given → Option Text
unless_budget given = if is_given given budget_name then None else value_of schema_name given

alone : (o : Option Given) → option_and_then unless_budget (taken run_known o) ≡ file_of o
alone None = refl
alone (Some given) =
    elim (cases_Bool (is_given given budget_name)) [
      | inl there ↦
          none_where (takes run_known given) given unless_budget (rw there refl)
          ∙ sym (not_taken given (rw (known_not given there) refl))
      | inr none ↦ same_where (takes run_known given) (takes schema_known given) given unless_budget (value_of schema_name) (rw (known_alone given none) refl) (rw none refl)
    ]

pub run_is_schema : (words : List Text) → file_alone words ≡ schema_file words
run_is_schema words = alone (options_from None words) ∙ schema_in words

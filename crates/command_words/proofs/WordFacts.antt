-- What `clap` sees in a word, and what the definitions see in it.
use Rattle.std.proofs.Common.{◌≡◌, ◌∙◌, ◌==◌, ◌&&◌, ℕ, Bool, true, false, not, List, [], ◌∷◌, Option, None, Some, is_some, refl, sym, ap, inl, inr, if◌then◌else◌, true≢false, option_map, suc, ◌+◌, take, drop, arith}
use Rattle.std.specs.List.{list_any, before_first, after_first, position_or_len}
use Rattle.std.proofs.lemmas.Bool.{cases_Bool}
use Rattle.clap.specs.Lexer.{long_of, name_and_value}
use Rattle.command_words.specs.Options.{Text, Given, from_word, is_equals, is_value, joined_value, option_parts, option_word, options_from}
use Rattle.olap_meaning.proofs.Lists.{or_first, or_second}
use Rattle.command_words.specs.OddWords.{is_odd}

abbrev pub begins_with_hyphen : Text → Bool
begins_with_hyphen [] = false
begins_with_hyphen (b ∷ bs) = b == 45

-- `clap` takes an empty value, and the definitions do not
abbrev pub kept : Option (Text × Option Text) → Option (Text × Option Text)
kept None = None
kept (Some (n, None)) = Some (n, None)
kept (Some (n, Some [])) = None
kept (Some (n, Some (b ∷ bs))) = Some (n, Some (b ∷ bs))

joined-kept : (n t : Text) → joined_value n t ≡ kept (Some (n, Some t))
joined-kept n [] = refl
joined-kept n (b ∷ bs) = refl

pub take-one : (n x : ℕ) (xs : Text) → take (1 + n) (x ∷ xs) ≡ x ∷ take n xs
take-one n x xs =
    let e : 1 + n ≡ suc n = omega arith in
    ap (λ k. take k (x ∷ xs)) e

pub drop-one : (n x : ℕ) (xs : Text) → drop (1 + n + 1) (x ∷ xs) ≡ drop (n + 1) xs
drop-one n x xs =
    let e : 1 + n + 1 ≡ suc (n + 1) = omega arith in
    ap (λ k. drop k (x ∷ xs)) e

before-all : (xs : Text) → list_any is_equals xs ≡ false → before_first is_equals xs ≡ xs
before-all [] h = refl
before-all (x ∷ xs) h =
    rw (or_first (is_equals x) (list_any is_equals xs) h)
    (take-one (position_or_len is_equals xs) x xs ∙ ap (λ (t : Text). x ∷ t) (before-all xs (or_second (is_equals x) (list_any is_equals xs) h)))

parts_by : (text before after : Text) (h : Bool) → (h ≡ false → before ≡ text)
    → (if h then joined_value before after else Some (text, None)) ≡ kept (Some (before, if h then Some after else None))
parts_by text before after true e = joined-kept before after
parts_by text before after false e = ap (λ (n : Text). Some (n, None)) (sym (e refl))

parts-kept : (text : Text) → option_parts text ≡ kept (Some (name_and_value text))
parts-kept text =
    parts_by text (before_first is_equals text) (after_first is_equals text) (list_any is_equals text) (before-all text)

pub word-kept : (word : Text) → option_word word ≡ kept (long_of word)
word-kept [] = refl
word-kept (a ∷ []) =
    elim (cases_Bool (a == 45)) [
      | inl h ↦ rw h refl
      | inr h ↦ rw h refl
    ]
word-kept (a ∷ b ∷ []) =
    elim (cases_Bool (a == 45)) [
      | inl h ↦ elim (cases_Bool (b == 45)) [
        | inl k ↦ rw (h, k) refl
        | inr k ↦ rw (h, k) refl
      ]
      | inr h ↦ rw h refl
    ]
word-kept (a ∷ b ∷ c ∷ cs) =
    elim (cases_Bool (a == 45)) [
      | inl h ↦ elim (cases_Bool (b == 45)) [
        | inl k ↦ rw (h, k) (parts-kept (c ∷ cs))
        | inr k ↦ rw (h, k) refl
      ]
      | inr h ↦ rw h refl
    ]

long-hyphen : (word : Text) (p : Text × Option Text) → long_of word ≡ Some p → is_value word ≡ false
long-hyphen [] p e = absurd (cc e)
long-hyphen (b ∷ bs) p e =
    elim (cases_Bool (b == 45)) [
      | inl h ↦ rw h refl
      | inr h ↦ let none : None ≡ Some p = rw h at e in absurd (cc none)
    ]

odd_by : (v : Bool) (o : Option (Text × Option Text)) → v ≡ false → o ≡ None → (not v && not (is_some o)) ≡ true
odd_by v o e f = rw (e, f) refl

plain_by : (v : Bool) (o : Option (Text × Option Text)) → (not v && not (is_some o)) ≡ false → o ≡ None → v ≡ true
plain_by true o h e = refl
plain_by false o h e = absurd (true≢false (sym (odd_by false o refl e) ∙ h))

value-plain : (word : Text) → is_value word ≡ true → begins_with_hyphen word ≡ false
value-plain [] h = refl
value-plain (b ∷ bs) h =
    elim (cases_Bool (b == 45)) [
      | inl k ↦ absurd (true≢false (sym (rw k at h)))
      | inr k ↦ k
    ]

pub plain-value : (word : Text) → is_odd word ≡ false → is_value word ≡ not (begins_with_hyphen word)
plain-value [] h = absurd (true≢false h)
plain-value (b ∷ bs) h = refl

pub not-odd-plain : (word : Text) → is_odd word ≡ false → long_of word ≡ None → begins_with_hyphen word ≡ false
not-odd-plain word h e = value-plain word (plain_by (is_value word) (option_word word) h (word-kept word ∙ ap kept e))

plain_case : (word : Text) (o : Option (Text × Option Text)) → is_odd word ≡ false → long_of word ≡ o → option_word word ≡ o
plain_case word None h e = word-kept word ∙ ap kept e
plain_case word (Some (n, None)) h e = word-kept word ∙ ap kept e
plain_case word (Some (n, Some [])) h e =
    absurd (true≢false (sym (odd_by (is_value word) (option_word word) (long-hyphen word (n, Some []) e) (word-kept word ∙ ap kept e)) ∙ h))
plain_case word (Some (n, Some (b ∷ bs))) h e = word-kept word ∙ ap kept e

-- a word that is not odd is the same option to `clap` and to the definitions
pub plain-word : (word : Text) → is_odd word ≡ false → option_word word ≡ long_of word
plain-word word h = plain_case word (long_of word) h refl

odd_parts : (v : Bool) (o : Option (Text × Option Text)) → (not v && not (is_some o)) ≡ true → (v ≡ false) × (o ≡ None)
odd_parts true o h = absurd (true≢false (sym h))
odd_parts false None h = (refl, refl)
odd_parts false (Some p) h = absurd (true≢false (sym h))

none_word : (o : Option (Text × Option Text)) (others : Option Text → Option Given) → ((waits : Option Text) → others waits ≡ None) → from_word o others ≡ None
none_word None others h = refl
none_word (Some (n, None)) others h = h (Some n)
none_word (Some (n, Some v)) others h = ap (option_map (λ given. (n, v) ∷ given)) (h None)

none_value : (b : Bool) (p : Text × Text) (o : Option Given) → o ≡ None → (if b then option_map (λ given. p ∷ given) o else None) ≡ None
none_value true p o e = ap (option_map (λ given. p ∷ given)) e
none_value false p o e = refl

-- words of which one is odd are no options
pub odd-none : (words : List Text) (waits : Option Text) → list_any is_odd words ≡ true → options_from waits words ≡ None
unfolding options_from
odd-none [] waits h = absurd (true≢false (sym h))
odd-none (word ∷ words) None h =
    elim (cases_Bool (is_odd word)) [
      | inl odd ↦ rw ((odd_parts (is_value word) (option_word word) odd).1) refl
      | inr plain ↦
          let later : list_any is_odd words ≡ true = rw plain at h in
          none_word (option_word word) (λ waits. options_from waits words) (λ waits. odd-none words waits later)
    ]
odd-none (word ∷ words) (Some n) h =
    elim (cases_Bool (is_odd word)) [
      | inl odd ↦ rw ((odd_parts (is_value word) (option_word word) odd).0) refl
      | inr plain ↦
          let later : list_any is_odd words ≡ true = rw plain at h in
          none_value (is_value word) (n, word) (options_from None words) (odd-none words None later)
    ]

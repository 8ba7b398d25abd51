-- What `clap` makes of the words of a command whose arguments are options with one value each, for any list of names.
use Rattle.std.proofs.Common.{◌≡◌, ◌∙◌, ◌&&◌, ◌||◌, ℕ, Bool, true, false, not, List, [], ◌∷◌, ◌++◌, Option, None, Some, refl, sym, ap, inl, inr, map, option_map, find, fold, true≢false}
use Rattle.std.specs.List.{list_any}
use Rattle.std.specs.Str.{bytes_eq}
use Rattle.std.proofs.lemmas.Bool.{cases_Bool}
use Rattle.std.proofs.lemmas.List.{append-nil, map-append}
use Rattle.std.proofs.lemmas.Slice.Eq.{bytes_eq-Decides}
use Rattle.clap.specs.Lexer.{long_of, short_of}
use Rattle.clap.specs.Walk.{Held, Row, Rule, Walk, idle, option, arg_by_id, arg_by_index, arg_by_long, at_row, finished, has_row, more_values, settled, settled_rows, used, walked, with_default}
use Rattle.clap.specs.Simple.{Shape, new_rule, new_shape}
use Rattle.clap.specs.Kinds.{Kinds, or_else}
use Rattle.clap.specs.Takes.{is_given as was_given}
use Rattle.clap.specs.Faults.{check_fault, defaults_fault, repeat_fault, settle_fault, turn_fault, walk_fault}
use Rattle.clap.specs.declared.builder.action.ArgAction.TheVariants.{Set}
use Rattle.clap.specs.declared.builder.value_parser.ValueParser.TheVariants as vp
use Rattle.clap.specs.declared.parser.matches.ValueSource.TheVariants.{CommandLine}
use Rattle.command_words.specs.Shapes.{given_row, given_rows}
use Rattle.command_words.specs.Options.{Text, Known, Given, is_known, is_given, is_whole}
use Rattle.olap_meaning.proofs.Lists.{or_first, or_second, some_or_none}
use Rattle.command_words.specs.OddWords.{is_odd}
use Rattle.command_words.proofs.WordFacts.{begins_with_hyphen, not-odd-plain}
use Rattle.command_words.proofs.WordByWord.{line_from, line_of}

-- an option, as `clap` has it once the command is built
abbrev pub plain_rule : Text × Bool → Rule
plain_rule d = record (new_rule d.0) {
  long = Some d.0;
  action = Some Set;
  range = Some (record { start_inclusive = 1; end_inclusive = 1 });
  parser = Some vp.String;
  required = d.1;
}

abbrev pub flat_shape : Text → Known → Shape
flat_shape name known = record (new_shape name) {
  rules = map plain_rule known;
  no_binary_name = true;
  disable_help_flag = true;
  disable_help_subcommand = true;
  is_built = true;
}

pub has_row-given : (given : Given) (id : Text) → has_row id (given_rows given) ≡ is_given given id
has_row-given [] id = refl
has_row-given (o ∷ os) id = ap (λ b. bytes_eq o.0 id || b) (has_row-given os id)

at_row-absent : (id : Text) (change : Row → List Row) (missing rows : List Row) → has_row id rows ≡ false → at_row id change missing rows ≡ rows ++ missing
at_row-absent id change missing [] h = refl
at_row-absent id change missing (r ∷ rs) h =
    elim (cases_Bool (bytes_eq r.id id)) [
      | inl same ↦ absurd (true≢false (rw same at h))
      | inr other ↦ rw other (ap (λ (t : List Row). r ∷ t) (at_row-absent id change missing rs (rw other at h)))
    ]

pub used-new : (d : Text × Bool) (v : Text) (rows : List Row) → has_row d.0 rows ≡ false → used (plain_rule d) (v ∷ []) rows ≡ rows ++ given_row (d.0, v) ∷ []
used-new d v rows h =
    let cleared : at_row d.0 (λ _. []) [] rows ≡ rows = at_row-absent d.0 (λ _. []) [] rows h ∙ append-nil rows in
    rw cleared (at_row-absent d.0 (more_values CommandLine (v ∷ [])) (given_row (d.0, v) ∷ []) rows h)

-- the option that a name names
pub by_long : (known : Known) (name : Text) → arg_by_long (map plain_rule known) name ≡ option_map plain_rule (find (λ d. bytes_eq d.0 name) known)
by_long [] name = refl
by_long (d ∷ ds) name =
    elim (cases_Bool (bytes_eq d.0 name)) [
      | inl same ↦ rw same refl
      | inr other ↦ rw other (by_long ds name)
    ]

pub by_id : (known : Known) (name : Text) → arg_by_id (map plain_rule known) name ≡ option_map plain_rule (find (λ d. bytes_eq d.0 name) known)
by_id [] name = refl
by_id (d ∷ ds) name =
    elim (cases_Bool (bytes_eq d.0 name)) [
      | inl same ↦ rw same refl
      | inr other ↦ rw other (by_id ds name)
    ]

pub by_index : (known : Known) (i : ℕ) → arg_by_index (map plain_rule known) i ≡ None
by_index [] i = refl
by_index (d ∷ ds) i = by_index ds i

pub defaults-none : (known : Known) (rows : List Row) → defaults_fault rows (map plain_rule known) ≡ []
unfolding defaults_fault
defaults-none [] rows = refl
defaults-none (d ∷ ds) rows =
    elim (cases_Bool (has_row d.0 rows)) [
      | inl has ↦ rw has (defaults-none ds rows)
      | inr has ↦ rw has (defaults-none ds rows)
    ]

pub defaults-stay : (known : Known) (rows : List Row) → fold with_default rows (map plain_rule known) ≡ rows
defaults-stay [] rows = refl
defaults-stay (d ∷ ds) rows =
    let one : with_default rows (plain_rule d) ≡ rows =
    elim (cases_Bool (has_row d.0 rows)) [
      | inl has ↦ rw has refl
      | inr has ↦ rw has refl
    ] in
    ap (λ (t : List Row). fold with_default t (map plain_rule ds)) one ∙ defaults-stay ds rows

given-explicit : (given : Given) (id : Text) → was_given id (given_rows given) ≡ is_given given id
given-explicit [] id = refl
given-explicit (o ∷ os) id =
    elim (cases_Bool (bytes_eq o.0 id)) [
      | inl same ↦ rw same refl
      | inr other ↦ rw other (given-explicit os id)
    ]

lacks_one : (needed was rest : Bool) → ((needed && not was) || not rest) ≡ not ((not needed || was) && rest)
lacks_one true true rest = refl
lacks_one true false rest = refl
lacks_one false true rest = refl
lacks_one false false rest = refl

lacks : (known : Known) (given : Given) → list_any (λ a. a.required && not (was_given a.id (given_rows given))) (map plain_rule known) ≡ not (is_whole known given)
lacks [] given = refl
lacks (d ∷ ds) given =
    ap (λ b. (d.1 && not b) || list_any (λ a. a.required && not (was_given a.id (given_rows given))) (map plain_rule ds)) (given-explicit given d.0)
    ∙ ap (λ b. (d.1 && not (is_given given d.0)) || b) (lacks ds given)
    ∙ lacks_one d.1 (is_given given d.0) (is_whole ds given)

-- the last check
pub check-whole : (name : Text) (known : Known) (given : Given) → is_whole known given ≡ true → check_fault (flat_shape name known) (given_rows given) false ≡ []
check-whole name known given h = rw (lacks known given, h) refl

pub check-lacks : (name : Text) (known : Known) (given : Given) → is_whole known given ≡ false → check_fault (flat_shape name known) (given_rows given) false ≡ [] → ⊥
check-lacks name known given h = rw (lacks known given, h) (λ e. cc e)

-- ---- the walk

abbrev pub walk_idle : List Row → Option (Text × List Text) → Walk
walk_idle rows waits = record { held = record { rows = rows; pending = waits; skip = 0 }; waiting = idle; position = 1; is_trailing = false; stopped = None }

abbrev pub walk_option : List Row → Text → Walk
walk_option rows name = record { held = record { rows = rows; pending = Some (name, []); skip = 0 }; waiting = option name; position = 1; is_trailing = false; stopped = None }

abbrev pub walk_end : Shape → Walk → List Text → Held
walk_end s w words = (fold (walked s.rules []) w words).held

-- the fault of the words that are left, and of the end
abbrev pub end_fault : Shape → Held → Kinds
end_fault s end = or_else (settle_fault s.rules s.args_override_self end)
    (or_else (defaults_fault (settled s.rules end).rows s.rules) (check_fault s (finished s.rules end) false))

abbrev pub rest_fault : Shape → Walk → List Text → Kinds
rest_fault s w words = or_else (walk_fault s [] w words) (end_fault s (walk_end s w words))

or_else-assoc : (a b c : Kinds) → or_else (or_else a b) c ≡ or_else a (or_else b c)
or_else-assoc [] b c = refl
or_else-assoc (k ∷ ks) b c = refl

or_else-first : (a b : Kinds) → (a ≡ [] → ⊥) → or_else a b ≡ [] → ⊥
or_else-first [] b full e = full refl
or_else-first (k ∷ ks) b full e = cc e

rest-cons : (s : Shape) (w : Walk) (word : Text) (words : List Text)
    → rest_fault s w (word ∷ words) ≡ or_else (turn_fault s [] w word) (rest_fault s (walked s.rules [] w word) words)
unfolding walk_fault
rest-cons s w word words = or_else-assoc (turn_fault s [] w word) (walk_fault s [] (walked s.rules [] w word) words) (end_fault s (walk_end s (walked s.rules [] w word) words))

-- ---- what a word looks like

not-dashes : (word : Text) (p : Text × Option Text) → long_of word ≡ Some p → bytes_eq word (45 ∷ 45 ∷ []) ≡ false
not-dashes word p e =
    elim (cases_Bool (bytes_eq word (45 ∷ 45 ∷ []))) [
      | inl same ↦ absurd (let clash : None ≡ Some p = sym (ap long_of ((bytes_eq-Decides word (45 ∷ 45 ∷ [])).0 same)) ∙ e in cc clash)
      | inr other ↦ other
    ]

plain-dashes : (word : Text) → begins_with_hyphen word ≡ false → bytes_eq word (45 ∷ 45 ∷ []) ≡ false
plain-dashes word h =
    elim (cases_Bool (bytes_eq word (45 ∷ 45 ∷ []))) [
      | inl same ↦ absurd (true≢false (sym (ap begins_with_hyphen ((bytes_eq-Decides word (45 ∷ 45 ∷ [])).0 same)) ∙ h))
      | inr other ↦ other
    ]

plain-long : (word : Text) → begins_with_hyphen word ≡ false → long_of word ≡ None
plain-long [] h = refl
plain-long (b ∷ bs) h = rw h refl

plain-short : (word : Text) → begins_with_hyphen word ≡ false → short_of word ≡ None
plain-short [] h = refl
plain-short (b ∷ bs) h = rw h refl

bytes-same : (t : Text) → bytes_eq t t ≡ true
bytes-same t = (bytes_eq-Decides t t).1 refl

known-found : (known : Known) (name : Text) → is_known known name ≡ true
    → (d : Text × Bool) × (find (λ x. bytes_eq x.0 name) known ≡ Some d) × (d.0 ≡ name)
known-found [] name h = absurd (true≢false (sym h))
known-found (d ∷ ds) name h =
    elim (cases_Bool (bytes_eq d.0 name)) [
      | inl same ↦ (d, rw same refl, (bytes_eq-Decides d.0 name).0 same)
      | inr other ↦
          let (e, found, is) = known-found ds name (rw other at h) in
          (e, rw other found, is)
    ]

unknown-found : (known : Known) (name : Text) → is_known known name ≡ false → find (λ x. bytes_eq x.0 name) known ≡ None
unknown-found [] name h = refl
unknown-found (d ∷ ds) name h =
    rw (or_first (bytes_eq d.0 name) _ h) (unknown-found ds name (or_second (bytes_eq d.0 name) _ h))

-- ---- one word

module _ (name : Text) (known : Known) where
  turn-stray : (rows : List Row) (waits : Option (Text × List Text)) (word : Text) → begins_with_hyphen word ≡ false
      → turn_fault (flat_shape name known) [] (walk_idle rows waits) word ≡ [] → ⊥
  turn-stray rows waits word h = rw (plain-dashes word h, plain-long word h, plain-short word h, by_index known 1) (λ e. cc e)

  turn-unknown : (rows : List Row) (waits : Option (Text × List Text)) (word n : Text) (v : Option Text) → long_of word ≡ Some (n, v)
      → find (λ x. bytes_eq x.0 n) known ≡ None → turn_fault (flat_shape name known) [] (walk_idle rows waits) word ≡ [] → ⊥
  turn-unknown rows waits word n v e none = rw (not-dashes word (n, v) e, e, by_long known n, none) (λ f. cc f)

  -- a known name alone
  turn-name : (rows : List Row) (waits : Option (Text × List Text)) (word : Text) (d : Text × Bool) (n : Text) → long_of word ≡ Some (n, None)
      → find (λ x. bytes_eq x.0 n) known ≡ Some d
      → turn_fault (flat_shape name known) [] (walk_idle rows waits) word ≡ or_else (settle_fault (map plain_rule known) false (record { rows = rows; pending = waits; skip = 0 })) []
  turn-name rows waits word d n e found = rw (not-dashes word (n, None) e, e, by_long known n, found) refl

  walked-name : (rows : List Row) (waits : Option (Text × List Text)) (word : Text) (d : Text × Bool) (n : Text) → long_of word ≡ Some (n, None)
      → find (λ x. bytes_eq x.0 n) known ≡ Some d
      → walked (map plain_rule known) [] (walk_idle rows waits) word ≡ walk_option (settled_rows (map plain_rule known) waits rows) d.0
  unfolding walked
  walked-name rows waits word d n e found = rw (not-dashes word (n, None) e, e, by_long known n, found) refl

  -- a known name with its value
  turn-value : (rows : List Row) (waits : Option (Text × List Text)) (word : Text) (d : Text × Bool) (n v : Text) → long_of word ≡ Some (n, Some v)
      → find (λ x. bytes_eq x.0 n) known ≡ Some d
      → turn_fault (flat_shape name known) [] (walk_idle rows waits) word
      ≡ or_else (or_else (settle_fault (map plain_rule known) false (record { rows = rows; pending = waits; skip = 0 }))
      (or_else (repeat_fault false d.0 (settled_rows (map plain_rule known) waits rows)) [])) []
  turn-value rows waits word d n v e found = rw (not-dashes word (n, Some v) e, e, by_long known n, found) refl

  walked-value : (rows : List Row) (waits : Option (Text × List Text)) (word : Text) (d : Text × Bool) (n v : Text) → long_of word ≡ Some (n, Some v)
      → find (λ x. bytes_eq x.0 n) known ≡ Some d
      → walked (map plain_rule known) [] (walk_idle rows waits) word ≡ walk_idle (used (plain_rule d) (v ∷ []) (settled_rows (map plain_rule known) waits rows)) None
  unfolding walked
  walked-value rows waits word d n v e found = rw (not-dashes word (n, Some v) e, e, by_long known n, found) refl

  -- the word after a name
  turn-next : (rows : List Row) (d : Text × Bool) (word : Text) → begins_with_hyphen word ≡ false → find (λ x. bytes_eq x.0 d.0) known ≡ Some d
      → turn_fault (flat_shape name known) [] (walk_option rows d.0) word ≡ []
  turn-next rows d word h found = rw (plain-dashes word h, plain-long word h, plain-short word h) refl

  walked-next : (rows : List Row) (d : Text × Bool) (word : Text) → begins_with_hyphen word ≡ false → find (λ x. bytes_eq x.0 d.0) known ≡ Some d
      → walked (map plain_rule known) [] (walk_option rows d.0) word ≡ walk_idle rows (Some (d.0, word ∷ []))
  unfolding walked
  walked-next rows d word h found = rw (plain-dashes word h, plain-long word h, plain-short word h, by_id known d.0, found) (rw (bytes-same d.0) refl)

  turn-next-option : (rows : List Row) (d : Text × Bool) (word n : Text) (v : Option Text) → long_of word ≡ Some (n, v) → find (λ x. bytes_eq x.0 d.0) known ≡ Some d
      → turn_fault (flat_shape name known) [] (walk_option rows d.0) word ≡ [] → ⊥
  turn-next-option rows d word n None e found =
      elim (some_or_none (find (λ x. bytes_eq x.0 n) known)) [
        | inl none ↦ rw (not-dashes word (n, None) e, e, by_long known n, none) (λ f. cc f)
        | inr some ↦ rw (not-dashes word (n, None) e, e, by_long known n, some.1, by_id known d.0, found) (λ f. cc f)
      ]
  turn-next-option rows d word n (Some v) e found =
      elim (some_or_none (find (λ x. bytes_eq x.0 n) known)) [
        | inl none ↦ rw (not-dashes word (n, Some v) e, e, by_long known n, none) (λ f. cc f)
        | inr some ↦ rw (not-dashes word (n, Some v) e, e, by_long known n, some.1, by_id known d.0, found) (λ f. cc f)
      ]

  -- an option with its value, before it is settled
  settle-value : (rows : List Row) (d : Text × Bool) (v : Text) → find (λ x. bytes_eq x.0 d.0) known ≡ Some d
      → settle_fault (map plain_rule known) false (record { rows = rows; pending = Some (d.0, v ∷ []); skip = 0 }) ≡ or_else (repeat_fault false d.0 rows) []
  settle-value rows d v found = rw (by_id known d.0, found) refl

  settled-value : (rows : List Row) (d : Text × Bool) (v : Text) → find (λ x. bytes_eq x.0 d.0) known ≡ Some d
      → settled_rows (map plain_rule known) (Some (d.0, v ∷ [])) rows ≡ used (plain_rule d) (v ∷ []) rows
  settled-value rows d v found = rw (by_id known d.0, found) refl

  settle-name : (rows : List Row) (d : Text × Bool) → find (λ x. bytes_eq x.0 d.0) known ≡ Some d
      → settle_fault (map plain_rule known) false (record { rows = rows; pending = Some (d.0, []); skip = 0 }) ≡ [] → ⊥
  settle-name rows d found = rw (by_id known d.0, found) (λ e. cc e)

repeat-new : (d : Text × Bool) (given : Given) → is_given given d.0 ≡ false → or_else (repeat_fault false d.0 (given_rows given)) [] ≡ []
repeat-new d given h = rw (has_row-given given d.0, h) refl

repeat-twice : (d : Text × Bool) (given : Given) → is_given given d.0 ≡ true → or_else (repeat_fault false d.0 (given_rows given)) [] ≡ [] → ⊥
repeat-twice d given h = rw (has_row-given given d.0, h) (λ e. cc e)

used-given : (d : Text × Bool) (given : Given) (v : Text) → is_given given d.0 ≡ false
    → used (plain_rule d) (v ∷ []) (given_rows given) ≡ given_rows (given ++ (d.0, v) ∷ [])
used-given d given v h = used-new d v (given_rows given) (has_row-given given d.0 ∙ h) ∙ sym (map-append given_row given ((d.0, v) ∷ []))

-- ---- the words

module _ (name : Text) (known : Known) where
  -- `clap` refuses the words where they are no command line, and else it finds their options
  abbrev pub Agrees : Option Given → Walk → List Text → Type 0
  Agrees None w words = rest_fault (flat_shape name known) w words ≡ [] → ⊥
  Agrees (Some given) w words = (rest_fault (flat_shape name known) w words ≡ [])
      × (finished (map plain_rule known) (walk_end (flat_shape name known) w words) ≡ given_rows given)

  agrees_by : (r : Option Given) (w w2 : Walk) (word : Text) (words : List Text)
      → rest_fault (flat_shape name known) w (word ∷ words) ≡ rest_fault (flat_shape name known) w2 words
      → finished (map plain_rule known) (walk_end (flat_shape name known) w (word ∷ words)) ≡ finished (map plain_rule known) (walk_end (flat_shape name known) w2 words)
      → Agrees r w2 words → Agrees r w (word ∷ words)
  agrees_by None w w2 word words same rows h = λ e. h (sym same ∙ e)
  agrees_by (Some given) w w2 word words same rows h = (same ∙ h.0, rows ∙ h.1)

  agrees-step : (r : Option Given) (w w2 : Walk) (word : Text) (words : List Text) → turn_fault (flat_shape name known) [] w word ≡ []
      → walked (map plain_rule known) [] w word ≡ w2 → Agrees r w2 words → Agrees r w (word ∷ words)
  agrees-step r w w2 word words turn moved h =
      let same : rest_fault (flat_shape name known) w (word ∷ words) ≡ rest_fault (flat_shape name known) w2 words =
      rest-cons (flat_shape name known) w word words
      ∙ ap (λ k. or_else k (rest_fault (flat_shape name known) (walked (map plain_rule known) [] w word) words)) turn
      ∙ ap (λ x. rest_fault (flat_shape name known) x words) moved in
      agrees_by r w w2 word words same (ap (λ x. finished (map plain_rule known) (walk_end (flat_shape name known) x words)) moved) h

  agrees-fails : (w : Walk) (word : Text) (words : List Text) → (turn_fault (flat_shape name known) [] w word ≡ [] → ⊥) → Agrees None w (word ∷ words)
  agrees-fails w word words turn = λ e. or_else-first _ _ turn (sym (rest-cons (flat_shape name known) w word words) ∙ e)

  line-stray : (given : Given) (word : Text) (words : List Text) → long_of word ≡ None → line_from known given None (word ∷ words) ≡ None
  unfolding line_from
  line-stray given word words e = rw e refl

  line-unknown : (given : Given) (word : Text) (words : List Text) (n : Text) (v : Option Text) → long_of word ≡ Some (n, v) → is_known known n ≡ false
      → line_from known given None (word ∷ words) ≡ None
  unfolding line_from
  line-unknown given word words n None e k = rw (e, k) refl
  line-unknown given word words n (Some v) e k = rw (e, k) refl

  line-name : (given : Given) (word : Text) (words : List Text) (n : Text) → long_of word ≡ Some (n, None) → is_known known n ≡ true
      → line_from known given None (word ∷ words) ≡ line_from known given (Some n) words
  unfolding line_from
  line-name given word words n e k = rw (e, k) refl

  line-value : (given : Given) (word : Text) (words : List Text) (n v : Text) → long_of word ≡ Some (n, Some v) → is_known known n ≡ true → is_given given n ≡ false
      → line_from known given None (word ∷ words) ≡ line_from known (given ++ (n, v) ∷ []) None words
  unfolding line_from
  line-value given word words n v e k new = rw (e, k, new) refl

  line-twice : (given : Given) (word : Text) (words : List Text) (n v : Text) → long_of word ≡ Some (n, Some v) → is_known known n ≡ true → is_given given n ≡ true
      → line_from known given None (word ∷ words) ≡ None
  unfolding line_from
  line-twice given word words n v e k new = rw (e, k, new) refl

  line-next : (given : Given) (word : Text) (words : List Text) (n : Text) → begins_with_hyphen word ≡ false → is_given given n ≡ false
      → line_from known given (Some n) (word ∷ words) ≡ line_from known (given ++ (n, word) ∷ []) None words
  unfolding line_from
  line-next given word words n h new = rw (h, new) refl

  line-next-hyphen : (given : Given) (word : Text) (words : List Text) (n : Text) → begins_with_hyphen word ≡ true
      → line_from known given (Some n) (word ∷ words) ≡ None
  unfolding line_from
  line-next-hyphen given word words n h = rw h refl

  line-next-twice : (given : Given) (word : Text) (words : List Text) (n : Text) → begins_with_hyphen word ≡ false → is_given given n ≡ true
      → line_from known given (Some n) (word ∷ words) ≡ None
  unfolding line_from
  line-next-twice given word words n h new = rw (h, new) refl

  line-ended : (given : Given) → is_whole known given ≡ true → line_from known given None [] ≡ Some given
  unfolding line_from
  line-ended given h = rw h refl

  line-lacks : (given : Given) → is_whole known given ≡ false → line_from known given None [] ≡ None
  unfolding line_from
  line-lacks given h = rw h refl

  line-waits : (given : Given) (n : Text) → line_from known given (Some n) [] ≡ None
  unfolding line_from
  line-waits given n = refl

  end-settled : (rows : List Row) (waits : Option (Text × List Text)) (given : Given)
      → settle_fault (map plain_rule known) false (record { rows = rows; pending = waits; skip = 0 }) ≡ [] → settled_rows (map plain_rule known) waits rows ≡ given_rows given
      → rest_fault (flat_shape name known) (walk_idle rows waits) [] ≡ check_fault (flat_shape name known) (given_rows given) false
  unfolding walk_fault
  end-settled rows waits given quiet is =
      let done = defaults-stay known (settled_rows (map plain_rule known) waits rows) ∙ is in
      ap (λ k. or_else k (or_else (defaults_fault (settled_rows (map plain_rule known) waits rows) (map plain_rule known)) (check_fault (flat_shape name known) (finished (map plain_rule known) (record { rows = rows; pending = waits; skip = 0 })) false))) quiet
      ∙ ap (λ k. or_else k (check_fault (flat_shape name known) (finished (map plain_rule known) (record { rows = rows; pending = waits; skip = 0 })) false)) (defaults-none known (settled_rows (map plain_rule known) waits rows))
      ∙ ap (λ r. check_fault (flat_shape name known) r false) done

  stuck-word : (rows : List Row) (waits : Option (Text × List Text)) (word n : Text) (v : Option Text) → long_of word ≡ Some (n, v)
      → (settle_fault (map plain_rule known) false (record { rows = rows; pending = waits; skip = 0 }) ≡ [] → ⊥)
      → turn_fault (flat_shape name known) [] (walk_idle rows waits) word ≡ [] → ⊥
  stuck-word rows waits word n None e full =
      elim (some_or_none (find (λ x. bytes_eq x.0 n) known)) [
        | inl none ↦ turn-unknown name known rows waits word n None e none
        | inr found ↦ λ t. or_else-first _ _ full (sym (turn-name name known rows waits word found.0 n e found.1) ∙ t)
      ]
  stuck-word rows waits word n (Some v) e full =
      elim (some_or_none (find (λ x. bytes_eq x.0 n) known)) [
        | inl none ↦ turn-unknown name known rows waits word n (Some v) e none
        | inr found ↦ λ t. or_else-first _ _ (or_else-first _ _ full) (sym (turn-value name known rows waits word found.0 n v e found.1) ∙ t)
      ]

  -- an option that was given twice and is not settled yet
  stuck : (rows : List Row) (waits : Option (Text × List Text)) (words : List Text) → list_any is_odd words ≡ false
      → (settle_fault (map plain_rule known) false (record { rows = rows; pending = waits; skip = 0 }) ≡ [] → ⊥)
      → rest_fault (flat_shape name known) (walk_idle rows waits) words ≡ [] → ⊥
  unfolding walk_fault
  stuck rows waits [] plain full = or_else-first _ _ full
  stuck rows waits (word ∷ words) plain full =
      agrees-fails (walk_idle rows waits) word words (elim (some_or_none (long_of word)) [
        | inl e ↦ turn-stray name known rows waits word (not-odd-plain word (or_first (is_odd word) _ plain) e)
        | inr p ↦ stuck-word rows waits word p.0.0 p.0.1 p.1 full
      ])

  abbrev pub AgreesIdle : List Text → Type 0
  AgreesIdle words = (rows : List Row) (waits : Option (Text × List Text)) (given : Given)
      → settle_fault (map plain_rule known) false (record { rows = rows; pending = waits; skip = 0 }) ≡ [] → settled_rows (map plain_rule known) waits rows ≡ given_rows given
      → Agrees (line_from known given None words) (walk_idle rows waits) words

  abbrev pub AgreesWaiting : List Text → Type 0
  AgreesWaiting words = (given : Given) (d : Text × Bool) → find (λ x. bytes_eq x.0 d.0) known ≡ Some d
      → Agrees (line_from known given (Some d.0) words) (walk_option (given_rows given) d.0) words

  at_end : AgreesIdle []
  at_end rows waits given quiet is =
      let whole = end-settled rows waits given quiet is in
      elim (cases_Bool (is_whole known given)) [
        | inl yes_whole ↦ rw (line-ended given yes_whole) (whole ∙ check-whole name known given yes_whole, defaults-stay known (settled_rows (map plain_rule known) waits rows) ∙ is)
        | inr no_whole ↦ rw (line-lacks given no_whole) (λ e. check-lacks name known given no_whole (sym whole ∙ e))
      ]

  named : (word : Text) (words : List Text) (n : Text) → AgreesWaiting words → long_of word ≡ Some (n, None)
      → (rows : List Row) (waits : Option (Text × List Text)) (given : Given)
      → settle_fault (map plain_rule known) false (record { rows = rows; pending = waits; skip = 0 }) ≡ [] → settled_rows (map plain_rule known) waits rows ≡ given_rows given
      → is_known known n ≡ true → Agrees (line_from known given None (word ∷ words)) (walk_idle rows waits) (word ∷ words)
  named word words n later e rows waits given quiet is k =
      let (d, found, same) = known-found known n k in
      let again : find (λ x. bytes_eq x.0 d.0) known ≡ Some d = rw same found in
      rw (line-name given word words n e k, ← same) (agrees-step (line_from known given (Some d.0) words) (walk_idle rows waits) (walk_option (given_rows given) d.0) word words
      (turn-name name known rows waits word d n e found ∙ ap (λ x. or_else x []) quiet)
      (walked-name name known rows waits word d n e found ∙ ap (λ r. walk_option r d.0) is)
      (later given d again))

  valued : (word : Text) (words : List Text) (n v : Text) → AgreesIdle words → long_of word ≡ Some (n, Some v)
      → (rows : List Row) (waits : Option (Text × List Text)) (given : Given)
      → settle_fault (map plain_rule known) false (record { rows = rows; pending = waits; skip = 0 }) ≡ [] → settled_rows (map plain_rule known) waits rows ≡ given_rows given
      → is_known known n ≡ true → Agrees (line_from known given None (word ∷ words)) (walk_idle rows waits) (word ∷ words)
  valued word words n v later e rows waits given quiet is k =
      let (d, found, same) = known-found known n k in
      let turn = turn-value name known rows waits word d n v e found
      ∙ ap (λ x. or_else (or_else x (or_else (repeat_fault false d.0 (settled_rows (map plain_rule known) waits rows)) [])) []) quiet
      ∙ ap (λ r. or_else (or_else (repeat_fault false d.0 r) []) []) is in
      elim (cases_Bool (is_given given n)) [
        | inl twice ↦ rw (line-twice given word words n v e k twice)
            (agrees-fails (walk_idle rows waits) word words (λ t. or_else-first _ _ (repeat-twice d given (rw same twice)) (sym turn ∙ t)))
        | inr new ↦
            let fresh : is_given given d.0 ≡ false = rw same new in
            rw (line-value given word words n v e k new, ← same)
            (agrees-step (line_from known (given ++ (d.0, v) ∷ []) None words) (walk_idle rows waits) (walk_idle (given_rows (given ++ (d.0, v) ∷ [])) None) word words
            (turn ∙ ap (λ x. or_else x []) (repeat-new d given fresh))
            (walked-value name known rows waits word d n v e found ∙ ap (λ r. walk_idle (used (plain_rule d) (v ∷ []) r) None) is ∙ ap (λ r. walk_idle r None) (used-given d given v fresh))
            (later (given_rows (given ++ (d.0, v) ∷ [])) None (given ++ (d.0, v) ∷ []) refl refl))
      ]

  optioned : (word : Text) (words : List Text) (n : Text) (v : Option Text) → AgreesIdle words → AgreesWaiting words → long_of word ≡ Some (n, v)
      → (rows : List Row) (waits : Option (Text × List Text)) (given : Given)
      → settle_fault (map plain_rule known) false (record { rows = rows; pending = waits; skip = 0 }) ≡ [] → settled_rows (map plain_rule known) waits rows ≡ given_rows given
      → is_known known n ≡ true → Agrees (line_from known given None (word ∷ words)) (walk_idle rows waits) (word ∷ words)
  optioned word words n None idle_later later e = named word words n later e
  optioned word words n (Some v) idle_later later e = valued word words n v idle_later e

  idle_word : (word : Text) (words : List Text) → is_odd word ≡ false → AgreesIdle words → AgreesWaiting words → AgreesIdle (word ∷ words)
  idle_word word words plain idle_later later rows waits given quiet is =
      elim (some_or_none (long_of word)) [
        | inl e ↦ rw (line-stray given word words e) (agrees-fails (walk_idle rows waits) word words (turn-stray name known rows waits word (not-odd-plain word plain e)))
        | inr p ↦ elim (cases_Bool (is_known known p.0.0)) [
          | inl k ↦ optioned word words p.0.0 p.0.1 idle_later later p.1 rows waits given quiet is k
          | inr k ↦ rw (line-unknown given word words p.0.0 p.0.1 p.1 k)
              (agrees-fails (walk_idle rows waits) word words (turn-unknown name known rows waits word p.0.0 p.0.1 p.1 (unknown-found known p.0.0 k)))
        ]
      ]

  hyphen-long : (word : Text) → is_odd word ≡ false → begins_with_hyphen word ≡ true → (p : Text × Option Text) × (long_of word ≡ Some p)
  hyphen-long word plain h =
      elim (some_or_none (long_of word)) [
        | inl e ↦ absurd (true≢false (sym h ∙ not-odd-plain word plain e))
        | inr p ↦ p
      ]

  waiting_word : (word : Text) (words : List Text) → is_odd word ≡ false → list_any is_odd words ≡ false → AgreesIdle words → AgreesWaiting (word ∷ words)
  waiting_word word words plain rest idle_later given d found =
      elim (cases_Bool (begins_with_hyphen word)) [
        | inl h ↦
            let (p, e) = hyphen-long word plain h in
            rw (line-next-hyphen given word words d.0 h) (agrees-fails (walk_option (given_rows given) d.0) word words (turn-next-option name known (given_rows given) d word p.0 p.1 e found))
        | inr h ↦ elim (cases_Bool (is_given given d.0)) [
          | inl twice ↦ rw (line-next-twice given word words d.0 h twice)
              (agrees-step None (walk_option (given_rows given) d.0) (walk_idle (given_rows given) (Some (d.0, word ∷ []))) word words
              (turn-next name known (given_rows given) d word h found) (walked-next name known (given_rows given) d word h found)
              (stuck (given_rows given) (Some (d.0, word ∷ [])) words rest (λ t. repeat-twice d given twice (sym (settle-value name known (given_rows given) d word found) ∙ t))))
          | inr new ↦ rw (line-next given word words d.0 h new)
              (agrees-step (line_from known (given ++ (d.0, word) ∷ []) None words) (walk_option (given_rows given) d.0) (walk_idle (given_rows given) (Some (d.0, word ∷ []))) word words
              (turn-next name known (given_rows given) d word h found) (walked-next name known (given_rows given) d word h found)
              (idle_later (given_rows given) (Some (d.0, word ∷ [])) (given ++ (d.0, word) ∷ [])
              (settle-value name known (given_rows given) d word found ∙ repeat-new d given new)
              (settled-value name known (given_rows given) d word found ∙ used-given d given word new)))
        ]
      ]

  waiting_end : AgreesWaiting []
  unfolding walk_fault
  waiting_end given d found = rw (line-waits given d.0) (or_else-first _ _ (settle-name name known (given_rows given) d found))

  pub agrees : (words : List Text) → list_any is_odd words ≡ false → AgreesIdle words × AgreesWaiting words
  agrees [] plain = (at_end, waiting_end)
  agrees (word ∷ words) plain =
      let later = agrees words (or_second (is_odd word) _ plain) in
      let first = or_first (is_odd word) _ plain in
      (idle_word word words first later.0 later.1, waiting_word word words first (or_second (is_odd word) _ plain) later.0)

  start : (words : List Text) → list_any is_odd words ≡ false → Agrees (line_of known words) (walk_idle [] None) words
  start words plain = (agrees words plain).0 [] None [] refl refl

  by_line : (r : Option Given) (words : List Text) → Agrees r (walk_idle [] None) words → rest_fault (flat_shape name known) (walk_idle [] None) words ≡ []
      → (given : Given) × (r ≡ Some given) × (finished (map plain_rule known) (walk_end (flat_shape name known) (walk_idle [] None) words) ≡ given_rows given)
  by_line None words h e = absurd (h e)
  by_line (Some given) words h e = (given, refl, h.1)

  by_fault : (r : Option Given) (words : List Text) → Agrees r (walk_idle [] None) words → (rest_fault (flat_shape name known) (walk_idle [] None) words ≡ [] → ⊥) → r ≡ None
  by_fault None words h full = refl
  by_fault (Some given) words h full = absurd (full h.0)

  -- words that `clap` takes are a command line, and it finds their options
  pub flat-reads : (words : List Text) → list_any is_odd words ≡ false → rest_fault (flat_shape name known) (walk_idle [] None) words ≡ []
      → (given : Given) × (line_of known words ≡ Some given) × (finished (map plain_rule known) (walk_end (flat_shape name known) (walk_idle [] None) words) ≡ given_rows given)
  flat-reads words plain e = by_line (line_of known words) words (start words plain) e

  -- and words that it refuses are none
  pub flat-refuses : (words : List Text) → list_any is_odd words ≡ false → (rest_fault (flat_shape name known) (walk_idle [] None) words ≡ [] → ⊥) → line_of known words ≡ None
  flat-refuses words plain full = by_fault (line_of known words) words (start words plain) full

-- The records of ASCII are text.
use Rattle.std.proofs.Common.{◌≡◌, ◌<◌, ◌&&◌, ◌++◌, ◌∷◌, ◌∙◌, ℕ, zero, suc, Bool, true, false, List, [], Some, None, refl, sym, inl, inr, lit<, Bor}
use Rattle.std.proofs.lemmas.Bool.{and_parts, cases_Bool}
use Rattle.std.specs.List.{list_all}
use Rattle.std.specs.Str.{is_utf8, IsAscii}
use Rattle.std.proofs.lemmas.Str.{is_utf8-from_IsUtf8, IsUtf8-from_ascii}
use Rattle.csv.specs.Machine.{Read, next_record, ends_at_end, is_end, step, fields_after, field_after}
use Rattle.csv.specs.Reading.{ReadRecord, Reached, Ready, default_config, has_failed, reader_config, reader_trim, strip_bom, is_bom}
use Rattle.csv.specs.declared.parser.Action.{Action}
use Rattle.csv.specs.declared.parser.Action.TheVariants as act
use Rattle.csv.specs.declared.parser.Config.{Config}
use Rattle.csv.specs.declared.parser.State.{State}
use Rattle.csv.specs.declared.parser.State.TheVariants as st
use Rattle.csv.specs.declared.reader.Reader.{Reader}
use Rattle.csv.specs.declared.reader.Trim.TheVariants as trim
use Rattle.csv.proofs.ReadFacts.{rows-more}
use Rattle.csv_records.proofs.FieldFacts.{ascii_push}
use Rattle.csv_records.proofs.LeftFacts.{if_some, source_known}
use Rattle.csv_records.specs.Left.{HasAsciiLeft, Streams}

text_push : (fields : List (List ℕ)) (field : List ℕ) → list_all is_utf8 fields ≡ true → IsAscii field → list_all is_utf8 (fields ++ (field ∷ [])) ≡ true
text_push [] field h ascii = rw (is_utf8-from_IsUtf8 field (IsUtf8-from_ascii field ascii)) refl
text_push (f ∷ fs) field h ascii = both (is_utf8 f) (list_all is_utf8 fs) (list_all is_utf8 (fs ++ (field ∷ []))) h (λ rest. text_push fs field rest ascii)
  where
    both : (p q r : Bool) → (p && q) ≡ true → (q ≡ true → r ≡ true) → (p && r) ≡ true
    both true q r h more = more h
    both false q r h more = h

fields_text : (a : Action) (fields : List (List ℕ)) (field : List ℕ) → list_all is_utf8 fields ≡ true → IsAscii field → list_all is_utf8 (fields_after a fields field) ≡ true
fields_text act.EndField fields field h ascii = text_push fields field h ascii
fields_text act.Skip fields field h ascii = h
fields_text act.Copy fields field h ascii = h
fields_text act.EndRecord fields field h ascii = text_push fields field h ascii

field_ascii : (a : Action) (c : ℕ) (field : List ℕ) → c < 128 → IsAscii field → IsAscii (field_after a c field)
field_ascii act.Copy c field low ascii = ascii_push field c ascii low
field_ascii act.EndField c field low ascii = λ i. lit< tt
field_ascii act.Skip c field low ascii = ascii
field_ascii act.EndRecord c field low ascii = λ i. lit< tt

-- the record that comes next is text, and what follows it is ASCII
next_ascii : (cfg : Config) (s : State) (f : List (List ℕ)) (p xs : List ℕ) (q : Read) → list_all is_utf8 f ≡ true → IsAscii p → IsAscii xs → next_record cfg s f p xs ≡ Some q → (list_all is_utf8 q.0 ≡ true) × IsAscii q.2
unfolding next_record
next_ascii cfg s f p [] q text ascii left e = elim (if_some (ends_at_end s) (f ++ (p ∷ []), st.StartRecord, []) q None e) [
  | inl h ↦ rw (← h) (text_push f p text ascii, left)
  | inr h ↦ absurd (cc)
]
next_ascii cfg s f p (c ∷ rest) q text ascii left e =
    let action = (step cfg s c).1 in
    let fields = fields_text action f p text ascii in
    elim (if_some (is_end action) (fields_after action f p, (step cfg s c).0, rest) q (next_record cfg (step cfg s c).0 (fields_after action f p) (field_after action c p) rest) e) [
      | inl h ↦ rw (← h) (fields, λ i. left (suc i))
      | inr h ↦ next_ascii cfg (step cfg s c).0 (fields_after action f p) (field_after action c p) rest q fields (field_ascii action c p (left zero) ascii) (λ i. left (suc i)) h
    ]

-- a read that found a record
pub taken_ascii : (a b : Reader (Bor (List ℕ))) (f : List (List ℕ)) → has_failed a ≡ false → reader_config a ≡ default_config → ReadRecord (λ s. Some s.now) a b true f → HasAsciiLeft a
    → (list_all is_utf8 f ≡ true) × HasAsciiLeft b
unfolding Reached
taken_ascii a b f alive config r ascii =
    let (y, source) = source_known a alive in
    let (z, after, reached) = rows-more (λ (s : Bor (List ℕ)). Some s.now) a b f default_config a.state y y [] config source (refl, refl) r in
    let (p, next, fields, ended) = reached in
    let left : IsAscii y = rw source at ascii in
    let told = next_ascii default_config a.state [] [] y p refl (λ i. lit< tt) left next in
    (rw fields told.0, rw (after, ← ended.1) told.1)

-- what is left after a byte order mark is ASCII too
pub ascii_strip : (bytes : List ℕ) → IsAscii bytes → IsAscii (strip_bom bytes)
unfolding strip_bom
ascii_strip [] h = h
ascii_strip (a ∷ []) h = h
ascii_strip (a ∷ b ∷ []) h = h
ascii_strip (a ∷ b ∷ c ∷ rest) h = elim (cases_Bool (is_bom a b c)) [
  | inl mark ↦ rw mark (λ i. h (suc (suc (suc i))))
  | inr none ↦ rw none h
]

-- what one read of ASCII gives is text, and leaves ASCII
pub ascii_kept : (a b : Reader (Bor (List ℕ))) (known found : Bool) (f : List (List ℕ)) → Streams a → (known ≡ true → HasAsciiLeft a) → (has_failed a ≡ true → found ≡ false)
    → (reader_trim a ≡ trim.None → Ready a → ReadRecord (λ s. Some s.now) a b found f) → (known && found) ≡ true → (list_all is_utf8 f ≡ true) × HasAsciiLeft b
ascii_kept a b known found f streams ascii failed reads h =
    let (is_known, is_found) = and_parts known found h in
    elim streams [
      | inl dead ↦ absurd (let e : true ≡ false = sym is_found ∙ failed dead in cc e)
      | inr good ↦ elim (cases_Bool (has_failed a)) [
        | inl dead ↦ absurd (let e : true ≡ false = sym is_found ∙ failed dead in cc e)
        | inr alive ↦ taken_ascii a b f alive good.2 (rw is_found at (reads good.0 good.3)) (ascii is_known)
      ]
    ]

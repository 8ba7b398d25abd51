-- What the arguments of commands say of a line.
use Rattle.std.proofs.Common.{◌≡◌, ◌∙◌, ◌==◌, ◌||◌, ℕ, List, [], ◌∷◌, ◌++◌, inl, inr, Bool, true, false, Option, Some, None, Result, Ok, Err, IfOk, refl, sym, ap, subst, arith}
use Rattle.std.specs.Prelude.{encode_utf8, encode_utf8_all}
use Rattle.std.specs.Option.{option_map_or}
use Rattle.std.specs.Str.{IsAscii, is_utf8}
use Rattle.std.proofs.lemmas.Bool.{and_parts}
use Rattle.std.proofs.lemmas.Bool.Decides.{Decides-eqb}
use Rattle.std.proofs.lemmas.Str.{IsUtf8-from_ascii, chars-IsAscii, encode_ascii, encodes-chars}
use Rattle.std.proofs.lemmas.Str.Ascii.{IsAscii-cons, IsAscii-nil}
use Rattle.query_meaning.specs.Requests.{argument_of, is_blank}
use Rattle.query_meaning.specs.Tokens.{is_white}
use Rattle.text_forms.specs.Forms.{Writes}
use Rattle.text_forms.specs.White.{IsWhite, White, End}
use Rattle.text_forms.proofs.Alike.{white_low}
use Rattle.command_arguments.specs.Blank.{IsBlank}
use Rattle.olap_meaning.specs.declared.OutOfMemory.{OutOfMemory}
use Rattle.input_lines.specs.Asked.{Asks, AsksOnly, asked}
use Rattle.input_lines.specs.Requests.{HasArgument, IsOnly, IsRequest}
use Rattle.input_lines.specs.declared.request.Request.{Request}

-- a white character is one white byte
white_byte : (c : ℕ) (bytes : List ℕ) → IsWhite c → is_blank bytes ≡ true → is_blank (encode_utf8 c ++ bytes) ≡ true
white_byte c bytes (inl e) h = rw (e, encode_ascii 32 (omega arith)) h
white_byte c bytes (inr e) h = rw (e, encode_ascii 9 (omega arith)) h

-- white characters are white bytes
white_bytes : (cs : List ℕ) → White End cs → is_blank (encode_utf8_all cs) ≡ true
white_bytes [] h = refl
white_bytes (c ∷ cs) (inl h) = white_byte c (encode_utf8_all cs) h.0 (white_bytes cs h.1)
white_bytes (c ∷ cs) (inr e) = absurd cc

-- a text of white characters is one of white bytes
pub blank_text : (text : List ℕ) (value : Unit {0}) → Writes IsBlank text value → is_blank text ≡ true
blank_text text value w = subst (λ x. is_blank x ≡ true) (encodes-chars text w.utf8) (white_bytes _ w.means)

-- white bytes are white characters
white_character : (c : ℕ) → is_white c ≡ true → IsWhite c
white_character c white = by (c == 32) (c == 9) refl refl white
  where
    by : (a b : Bool) → (c == 32) ≡ a → (c == 9) ≡ b → (a || b) ≡ true → IsWhite c
    by true b is other h = inl ((Decides-eqb c 32).0 is)
    by false true is other h = inr ((Decides-eqb c 9).0 other)
    by false false is other h = absurd (let n : ⊥ = cc in n)

ascii : (text : List ℕ) → is_blank text ≡ true → IsAscii text
ascii [] blank = IsAscii-nil
ascii (c ∷ text) blank = let parts = and_parts (is_white c) (is_blank text) blank in IsAscii-cons c text (white_low c (white_character c parts.0)) (ascii text parts.1)

all_white : (text : List ℕ) → is_blank text ≡ true → White End text
all_white [] blank = refl
all_white (c ∷ text) blank = let parts = and_parts (is_white c) (is_blank text) blank in inl (white_character c parts.0, all_white text parts.1)

-- a text of white bytes is one of white characters
writes_blank : (text : List ℕ) → is_blank text ≡ true → Writes IsBlank text tt
writes_blank text blank = record { utf8 = IsUtf8-from_ascii text (ascii text blank); means = subst (White End) (sym (chars-IsAscii text (ascii text blank))) (all_white text blank) }

-- a line with a command and an argument that writes nothing has the command and white
pub is_white_argument : (word line argument : List ℕ) (value : Unit {0}) → argument_of word line ≡ Some argument → Writes IsBlank argument value → option_map_or is_blank (argument_of word line) false ≡ true
is_white_argument word line argument value e w = rw e (blank_text argument value w)

-- and the other way round
pub white_argument : (word line : List ℕ) → option_map_or is_blank (argument_of word line) false ≡ true → HasArgument word (Writes IsBlank) line tt
white_argument word line white = by (argument_of word line) refl white
  where
    by : (argument : Option (List ℕ)) → argument_of word line ≡ argument → option_map_or is_blank argument false ≡ true → HasArgument word (Writes IsBlank) line tt
    by None is h = absurd (let n : ⊥ = cc in n)
    by (Some argument) is h = record { argument = argument; command = is; writes = writes_blank argument h }

-- a line of text that has a command asks for what the command asks for with its argument
pub asked_by : (word argument text line : List ℕ) (r : Result Request OutOfMemory) → is_utf8 line ≡ true → text ≡ line → Some argument ≡ argument_of word text → IfOk r (λ request. Asks word argument (asked request)) → IfOk r (λ request. IsRequest line (asked request))
asked_by word argument text line (Ok request) utf8 same is h = h line utf8 (ap (argument_of word) (sym same) ∙ sym is)
asked_by word argument text line (Err error) utf8 same is h = tt

-- and for nothing else than the command asks for alone
pub only_by : (word argument text line : List ℕ) (r : Result Request OutOfMemory) → is_utf8 line ≡ true → text ≡ line → Some argument ≡ argument_of word text → IfOk r (λ request. AsksOnly word argument (asked request)) → IfOk r (λ request. IsOnly line (asked request))
only_by word argument text line (Ok request) utf8 same is h = h line utf8 (ap (argument_of word) (sym same) ∙ sym is)
only_by word argument text line (Err error) utf8 same is h = tt

-- The value of a file's bytes, by the answers of a read.
use Rattle.std.proofs.Common.{◌≡◌, ℕ, List, None, Some, refl, inl, inr}
use Rattle.std.proofs.lemmas.Bool.{cases_Bool}
use Rattle.std.proofs.lemmas.Str.{IsUtf8-from_is_utf8, is_utf8-from_IsUtf8}
use Rattle.std.specs.Str.{IsUtf8, is_utf8}
use Rattle.serde_json.specs.Data.{Data}
use Rattle.serde_json.specs.Read.{read}
use Rattle.cube_schema.specs.Fields.{json_of}

pub json-read : (bytes : List ℕ) (d : Data) → IsUtf8 bytes → read bytes ≡ Some d → json_of bytes ≡ Some d
unfolding json_of
json-read bytes d text is = rw (is_utf8-from_IsUtf8 bytes text) is

pub json-refused : (bytes : List ℕ) → (IsUtf8 bytes → read bytes ≡ None) → json_of bytes ≡ None
unfolding json_of
json-refused bytes refused =
    elim (cases_Bool (is_utf8 bytes)) [
      | inl is_text ↦ rw is_text (refused (IsUtf8-from_is_utf8 bytes is_text))
      | inr not_text ↦ rw not_text refl
    ]

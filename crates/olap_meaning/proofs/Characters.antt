-- A character beyond ASCII has only bytes beyond ASCII.
use Rattle.std.proofs.Common.{◌≤◌, ◌<◌, ℕ, [], sym, arith, inl, inr, length, get_or}
use Rattle.std.specs.Prelude.{encode_utf8}
use Rattle.std.proofs.lemmas.Bool.{cases_lt}
use Rattle.std.proofs.lemmas.List.{append-nil}
use Rattle.std.proofs.lemmas.Str.{inside_one}

pub high_bytes : (c : ℕ) → 128 ≤ c → (k : ℕ) → k < length (encode_utf8 c) → 128 ≤ get_or (encode_utf8 c) k 0
high_bytes c h k lt = elim (cases_lt (get_or (encode_utf8 c) k 0) 128) [
  | inl low ↦ (let e = inside_one c [] (encode_utf8 c) k (sym (append-nil (encode_utf8 c))) lt low in absurd (omega arith))
  | inr high ↦ high
]

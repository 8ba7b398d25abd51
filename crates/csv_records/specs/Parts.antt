-- Parts of a file that can be read by themselves.
use Rattle.std.specs.Prelude.{◌≢◌, ◌<◌, ℕ}

-- a byte is ASCII and no double quote
abbrev pub IsPlain : ℕ → Type 0
IsPlain c = (c < 128) × (c ≢ 34)

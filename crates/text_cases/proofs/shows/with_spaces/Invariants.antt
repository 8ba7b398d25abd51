-- The text so far is the plain one so far, with a space after each digit.
use Rattle.std.proofs.Common.{◌≡◌, flat_map, encode_utf8, string_bytes}
use Rattle.query_meaning.specs.Shown.{bare, breaks}
use Rattle.text_cases.specs.Spaced.{spaced}
use Rattle.text_cases.proofs.shows.with_spaces.Given as goal

-- the text so far is the plain one so far, with a space after each digit
abbrev pub invariant-loop-c : goal.invariant-loop-c
invariant-loop-c l = record {
  text : string_bytes l.text ≡ flat_map spaced l.yielded;
  same : bare (string_bytes l.text) ≡ bare (flat_map encode_utf8 l.yielded);
  breaks : breaks (string_bytes l.text) ≡ breaks (flat_map encode_utf8 l.yielded);
}

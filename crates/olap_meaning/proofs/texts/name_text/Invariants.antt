-- What holds at each turn of `name_text`.
use Rattle.std.proofs.Common.{◌≡◌, ◌++◌, string_bytes, codes, flat_map}
use Rattle.olap_meaning.specs.Texts.{name_character}
use Rattle.olap_meaning.proofs.texts.name_text.Given as goal

abbrev pub invariant-loop-c : goal.invariant-loop-c
invariant-loop-c l = string_bytes l.text ≡ codes "[" ++ flat_map name_character l.yielded

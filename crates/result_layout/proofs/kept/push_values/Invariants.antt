-- What holds at each turn of `push_values`: after the first name text stand those so far, each after a comma.
use Rattle.std.proofs.Common.{◌≡◌, ◌++◌, codes, flat_map, map, string_bytes, take}
use Rattle.result_layout.specs.CacheTexts.{value_text}
use Rattle.result_layout.proofs.kept.push_values.Given as goal

abbrev pub invariant-loop-value : goal.invariant-loop-value
invariant-loop-value l =
    string_bytes l.text ≡ string_bytes l.initial.text ++ flat_map (λ other. codes "," ++ other) (map (value_text l.catalog l.column) (take l.value-index l.others))

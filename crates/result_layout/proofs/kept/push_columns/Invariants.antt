-- What holds at each turn of `push_columns`: after the first column stand those so far, each after a space.
use Rattle.std.proofs.Common.{◌≡◌, ◌++◌, codes, flat_map, map, string_bytes, take}
use Rattle.result_layout.specs.CacheTexts.{allowance_text}
use Rattle.result_layout.proofs.kept.push_columns.Given as goal

abbrev pub invariant-loop-column : goal.invariant-loop-column
invariant-loop-column l =
    string_bytes l.text ≡ string_bytes l.initial.text ++ flat_map (λ other. codes " " ++ other) (map (allowance_text l.catalog) (take l.column-index l.others))

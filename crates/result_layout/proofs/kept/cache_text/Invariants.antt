-- What holds at each turn of `cache_text`: after the first line stand those of the loads so far.
use Rattle.std.proofs.Common.{◌≡◌, ◌++◌, flat_map, string_bytes, take}
use Rattle.olap_meaning.specs.Texts.{line}
use Rattle.result_layout.specs.CacheTexts.{load_text}
use Rattle.result_layout.proofs.kept.cache_text.Given as goal

abbrev pub invariant-loop-load : goal.invariant-loop-load
invariant-loop-load l =
    string_bytes l.text ≡ string_bytes l.initial.text ++ flat_map (λ load. line (load_text l.catalog load)) (take l.load-index l.view.lines)

-- What holds at each turn of `dims_text`: after the first name stand the names so far, each after a comma and a space.
use Rattle.std.proofs.Common.{◌≡◌, ◌++◌, codes, flat_map, map, string_bytes, take}
use Rattle.olap_meaning.specs.Texts.{name_text}
use Rattle.query_meaning.specs.RegionReplies.{dim_name}
use Rattle.line_session.proofs.flush.dims_text.Given as goal

abbrev pub invariant-loop-one : goal.invariant-loop-one
invariant-loop-one l =
    string_bytes l.text ≡ string_bytes l.initial.text ++ flat_map (λ other. codes ", " ++ other) (map (λ one. name_text (dim_name l.catalog one)) (take l.one-index l.others))

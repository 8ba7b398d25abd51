-- What holds at each turn of `path_title`.
use Rattle.std.proofs.Common.{◌≡◌, ◌++◌, take, flat_map, string_bytes}
use Rattle.std.specs.List.{zip}
use Rattle.olap_meaning.specs.declared.cells.LevelRef.TheVariants.{Whole}
use Rattle.olap_meaning.specs.Catalog.{root_name}
use Rattle.olap_meaning.specs.Texts.{name_text}
use Rattle.query_meaning.specs.Titles.{value_part}
use Rattle.result_layout.specs.Named.{IsNamed}
use Rattle.result_layout.proofs.titles.path_title.Given as goal

abbrev pub invariant-loop-i : goal.invariant-loop-i
invariant-loop-i l =
    (string_bytes l.title ≡ name_text (root_name l.catalog (Whole l.fn.h)) ++ flat_map (value_part l.catalog) (take l.i (zip l.levels l.path)))
    × IsNamed (string_bytes l.title)

-- That the title of a measure is its title, and that of names.
use Rattle.std.proofs.Common.{◌∙◌, ◌++◌, ap, sym, codes, append_assoc, get_or}
use Rattle.olap_meaning.specs.declared.tables.Measure.{Measure}
use Rattle.olap_meaning.specs.Texts.{name_text}
use Rattle.result_layout.proofs.NamedFacts.{measure_name, measures_utf8, named_below, named_one}
use Rattle.result_layout.proofs.titles.measure_title.Goals as goal

pub returns-clause-title : goal.returns-clause-title
returns-clause-title c =
    let own = measure_name c.args.catalog.now c.args.cube c.args.measure c.cube.result.now c.as_slice-measures.result.now c.index-measures-measure.result c.cube.ensures c.as_slice-measures.ensures c.requires.measure (c.index-measures-measure.is ∙ ap (λ n. get_or c.as_slice-measures.result.now n c.index-measures-measure.result) c.measure.view_is) in
    c.from_string.ensures ∙ c.in_ok-title.ensures.ok ∙ sym (append_assoc c.in_ok-root.root (codes ".") c.in_ok-name.name)
    ∙ ap (λ r. (r ++ codes ".") ++ c.in_ok-name.name) c.in_ok-root.ensures
    ∙ ap (λ n. (name_text (codes "Measures") ++ codes ".") ++ n)
    (c.in_ok-name.ensures ∙ ap name_text (c.as_str.ensures ∙ sym (ap (λ (m : Measure). m.name) c.index-measures-measure.is) ∙ sym own))

pub returns-clause-named : goal.returns-clause-named
returns-clause-named c =
    let front = named_one (codes "Measures") c.in_ok-root.root (λ none. cc none) measures_utf8 c.in_ok-root.ensures in
    let own = measure_name c.args.catalog.now c.args.cube c.args.measure c.cube.result.now c.as_slice-measures.result.now c.index-measures-measure.result c.cube.ensures c.as_slice-measures.ensures c.requires.measure (c.index-measures-measure.is ∙ ap (λ n. get_or c.as_slice-measures.result.now n c.index-measures-measure.result) c.measure.view_is) in
    named_below c.in_ok-root.root c.as_str.result.now _ front (λ none. c.has_names.ensures.measures c.args.cube c.args.measure c.requires.measure (own ∙ ap (λ (m : Measure). m.name) c.index-measures-measure.is ∙ sym c.as_str.ensures ∙ none)) c.as_str.utf8
    (c.from_string.ensures ∙ c.in_ok-title.ensures.ok ∙ sym (append_assoc c.in_ok-root.root (codes ".") c.in_ok-name.name)
    ∙ ap (λ n. (c.in_ok-root.root ++ codes ".") ++ n) c.in_ok-name.ensures)

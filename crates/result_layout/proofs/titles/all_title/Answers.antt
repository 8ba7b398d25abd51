-- That the title of an all member is that of names.
use Rattle.std.proofs.Common.{◌∙◌, ◌++◌, ap, sym, codes, append_assoc, rules}
use Rattle.result_layout.proofs.NamedFacts.{named_below, named_one}
use Rattle.result_layout.proofs.titles.all_title.Goals as goal

pub returns-clause-named : goal.returns-clause-named
returns-clause-named c =
    let front = named_one c.full_name.result.now _ (λ none. c.has_names.ensures.hierarchies c.args.h c.requires.hierarchy (sym c.full_name.ensures ∙ none)) c.full_name.utf8 c.in_ok-hierarchy.ensures in
    named_below c.in_ok-hierarchy.hierarchy c.as_str.result.now _ front (c.has_names.ensures.all_members c.args.h c.as_str.result.now (search rules)) c.as_str.utf8
    (c.from_string.ensures ∙ c.in_ok-title.ensures.ok ∙ sym (append_assoc c.in_ok-hierarchy.hierarchy (codes ".") c.in_ok-name.name)
    ∙ ap (λ n. (c.in_ok-hierarchy.hierarchy ++ codes ".") ++ n) c.in_ok-name.ensures)

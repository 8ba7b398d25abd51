-- That `path_title` ensures what it says, may call `value_name`, keeps what holds at each turn and stays within its
-- numbers.
use Rattle.std.proofs.Common.{◌∙◌, ◌++◌, ap, sym, subst, codes, string_bytes, append-nil}
use Rattle.olap_catalog.proofs.MemberFacts.{column_there}
use Rattle.olap_meaning.specs.declared.cells.LevelRef.TheVariants.{Whole}
use Rattle.olap_meaning.specs.Catalog.{root_name}
use Rattle.olap_meaning.specs.Texts.{name_text}
use Rattle.result_layout.specs.Named.{IsNamed}
use Rattle.result_layout.proofs.NamedFacts.{named_below, named_one}
use Rattle.result_layout.proofs.PathFacts.{path_own, path_deep, path_there, title_more, title_whole}
use Rattle.result_layout.proofs.titles.path_title.Goals as goal

pub bounds-levels-i : goal.bounds-levels-i
bounds-levels-i c =
    path_deep c.args.catalog.now c.as_slice-levels.result.now c.args.path.now c.loop-i.i
    (path_own c.args.catalog.now c.args.h c.args.path.now c.as_slice-levels.result.now c.hierarchy.result.now c.requires.path c.hierarchy.ensures c.as_slice-levels.ensures) c.loop-i-test.true

pub value_name-requires : goal.value_name-requires
value_name-requires c =
    let own = path_own c.args.catalog.now c.args.h c.args.path.now c.as_slice-levels.result.now c.hierarchy.result.now c.requires.path c.hierarchy.ensures c.as_slice-levels.ensures in
    let there = path_there c.args.catalog.now c.as_slice-levels.result.now c.args.path.now c.loop-i.i c.index-levels-i.result c.index-path-i.result own c.loop-i-test.true c.index-levels-i.is c.index-path-i.is in
    record {
      known = column_there c.args.catalog.now c.index-levels-i.result c.index-path-i.result there;
      there = there;
    }

pub loop-i-init : goal.loop-i-init
loop-i-init c =
    let text = c.into_string-title.ensures ∙ c.in_ok-name_text.ensures in (
      text ∙ ap name_text c.full_name.ensures ∙ sym (append-nil (name_text (root_name c.args.catalog.now (Whole c.args.h)))),
      named_one c.full_name.result.now _ (λ none. c.has_names.ensures.hierarchies c.args.h c.requires.hierarchy (sym c.full_name.ensures ∙ none)) c.full_name.utf8 text,
    )

pub loop-i-preserved : goal.loop-i-preserved
loop-i-preserved c =
    let own = path_own c.args.catalog.now c.args.h c.args.path.now c.as_slice-levels.result.now c.hierarchy.result.now c.requires.path c.hierarchy.ensures c.as_slice-levels.ensures in (
      title_more c.args.catalog.now (name_text (root_name c.args.catalog.now (Whole c.args.h))) _ _ _ c.as_str.result.now c.value_name.result.now c.as_slice-levels.result.now c.args.path.now c.loop-i.i c.index-levels-i.result c.index-path-i.result
          (path_deep c.args.catalog.now c.as_slice-levels.result.now c.args.path.now c.loop-i.i own c.loop-i-test.true) c.loop-i-test.true c.index-levels-i.is c.index-path-i.is c.loop-i.invariant.0
          c.in_ok-push_str.ensures.bytes c.value_name.ensures (c.as_str.ensures ∙ c.in_ok-name.ensures) c.in_ok-push_str-2.ensures.bytes,
      named_below (string_bytes c.loop-i.title) c.value_name.result.now _ c.loop-i.invariant.1 (c.has_names.ensures.values c.index-levels-i.result c.index-path-i.result c.value_name.result.now (sym c.value_name.ensures)) c.value_name.utf8
          (c.in_ok-push_str-2.ensures.bytes ∙ ap (λ t. t ++ c.as_str.result.now) c.in_ok-push_str.ensures.bytes
          ∙ ap (λ n. (string_bytes c.loop-i.title ++ codes ".") ++ n) (c.as_str.ensures ∙ c.in_ok-name.ensures)),
    )

pub returns-clause-title : goal.returns-clause-title
returns-clause-title c cube =
    c.from_string.ensures
    ∙ title_whole c.args.catalog.now c.args.h c.args.path.now c.as_slice-levels.result.now (name_text (root_name c.args.catalog.now (Whole c.args.h))) _ c.loop-i.i c.hierarchy.result.now c.hierarchy.ensures c.as_slice-levels.ensures
    c.loop-i-test.false c.loop-i.invariant.0

pub returns-clause-named : goal.returns-clause-named
returns-clause-named c = subst IsNamed (sym c.from_string.ensures) c.loop-i.invariant.1

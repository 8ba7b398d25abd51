-- The line of a kept load is that of the history.
use Rattle.std.proofs.Common.{◌≡◌, ◌∙◌, ap, sym, subst, refl, true, Option, Some, option_map}
use Rattle.std.specs.Borrow.{Bor}
use Rattle.std.specs.Prelude.{option_copied}
use Rattle.olap_meaning.specs.History.{kept}
use Rattle.history_core.specs.Cache.{CacheOf}
use Rattle.cache_flush.specs.declared.kept.Kept.{Kept}
use Rattle.cache_flush.specs.Loads.{KeptOf, kept_in}
use Rattle.cache_manager.specs.Kept.{IsKept}
use Rattle.history_core.specs.Shown.{kept_line}
use Rattle.cache_manager.proofs.Showing.{kept_found, line_told, some_kept}
use Rattle.cache_manager.proofs.manager.Manager.line.Goals as goal

pub unwrap-kept-requires : goal.unwrap-kept-requires
unwrap-kept-requires c =
    let keeps : kept c.self.inside.history.entries c.args.load ≡ true = ap (λ (k : CacheOf). kept k.entries c.args.load) c.self.view_is ∙ c.requires in
    let found = kept_found (IsKept c.self.inside.history.setting.catalog c.self.inside.history.entries) c.self.inside.shelf.loads c.args.load c.self.invariant.kept_are (c.self.invariant.kept_all c.args.load keeps) in
    rw (some_kept c.self.inside.shelf.flushed c.kept.result found.0 (c.kept.ensures ∙ found.1)).1 refl

pub returns : goal.returns
returns c =
    let keeps : kept c.self.inside.history.entries c.args.load ≡ true = ap (λ (k : CacheOf). kept k.entries c.args.load) c.self.view_is ∙ c.requires in
    let found = kept_found (IsKept c.self.inside.history.setting.catalog c.self.inside.history.entries) c.self.inside.shelf.loads c.args.load c.self.invariant.kept_are (c.self.invariant.kept_all c.args.load keeps) in
    let both : Some (kept_in c.self.inside.shelf.flushed c.unwrap-kept.result.now) ≡ Some found.0 = sym (ap (λ (r : Option (Bor Kept)). option_map (kept_in c.self.inside.shelf.flushed) (option_copied r)) c.unwrap-kept.ensures) ∙ c.kept.ensures ∙ found.1 in
    let same : kept_in c.self.inside.shelf.flushed c.unwrap-kept.result.now ≡ found.0 = cc in
    let is : IsKept c.self.inside.history.setting.catalog c.self.inside.history.entries (kept_in c.self.inside.shelf.flushed c.unwrap-kept.result.now) = subst (IsKept c.self.inside.history.setting.catalog c.self.inside.history.entries) (sym same) found.2 in
    rw (c.in_ok-copy_header.ensures, c.flushes.ensures, c.shut_list.ensures, c.header-header.ensures.value)
    (ap (λ (k : CacheOf). kept_line k.entries c.args.load) (sym c.self.view_is)
    ∙ line_told c.self.inside.history.setting.catalog c.self.inside.history.entries (kept_in c.self.inside.shelf.flushed c.unwrap-kept.result.now) c.args.load is (ap (λ (k : KeptOf). k.load) same ∙ found.3))

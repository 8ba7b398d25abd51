-- The version is that of the first load.
use Rattle.std.proofs.Common.{◌≡◌, ◌∙◌, ap, sym, arith, Some, Option}
use Rattle.std.specs.Prelude.{option_copied, option_map}
use Rattle.std.specs.Borrow.{Bor}
use Rattle.std.proofs.lemmas.Option.{get_or_from_slice_get, slice_get_within}
use Rattle.cache_flush.specs.declared.kept.Kept.{Kept}
use Rattle.cache_flush.specs.Loads.{KeptOf, kept_in}
use Rattle.rollup_plan.specs.Plans.{kept_at}
use Rattle.cache_manager.proofs.rollups.version_of.Goals as goal

pub index-requires : goal.index-requires
index-requires c = let below = slice_get_within c.args.rollup.now.loads.items 0 c.requires.0 c.requires.2 in omega (arith, below, c.args.rollup.now.loads.ok.0)

pub returns : goal.returns
returns c first kept at is =
    let number : c.index.result.now ≡ first = c.index.ensures ∙ get_or_from_slice_get c.args.rollup.now.loads.items 0 first c.index.result.now at in
    let both : Some (kept_in c.args.shelf.now.flushed c.unwrap.result.now) ≡ Some kept =
    ap (λ (o : Option (Bor Kept)). option_map (kept_in c.args.shelf.now.flushed) (option_copied o)) (sym c.unwrap.ensures) ∙ c.kept.ensures ∙ ap (kept_at c.args.shelf.now.loads) number ∙ is in
    let same : kept_in c.args.shelf.now.flushed c.unwrap.result.now ≡ kept = cc in
    ap (λ (k : KeptOf). k.version) same

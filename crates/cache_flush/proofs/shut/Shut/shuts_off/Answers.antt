-- What spans the header shuts off its cells; the records tell of regions after the place.
use Rattle.std.proofs.Common.{ℕ, ◌≡◌, ◌∙◌, ◌&&◌, sym, drop, true, Bool, List}
use Rattle.std.specs.List.{list_any}
use Rattle.olap_meaning.specs.declared.regions.Region.{Region}
use Rattle.olap_meaning.specs.Rolled.{value_count}
use Rattle.cache_flush.specs.Records.{RecordOf, is_after}
use Rattle.cache_flush.proofs.GoneFacts.{spanned_along, spanned_whole}
use Rattle.cache_flush.proofs.Recording.{any_told}
use Rattle.cache_flush.proofs.shut.Shut.shuts_off.Goals as goal

pub returns-then-spans : goal.returns-then-spans
returns-then-spans c passed =
    spanned_whole (value_count c.args.catalog.now) (drop c.args.place c.args.self.now.regions) c.args.header.now c.args.region.now c.requires.since (sym c.spans.ensures ∙ c.if-spans.true)

-- what passes among the records passes among the regions
told_by : (regions : List Region) (records : List RecordOf) (place : ℕ) → ((test : Region → Bool) → list_any (λ item. list_any (is_after place) item.flushes && test item.region) records ≡ list_any test (drop place regions))
    → (test : Region → Bool) → list_any (λ item. list_any (is_after place) item.flushes && test item.region) records ≡ true → list_any test (drop place regions) ≡ true
told_by regions records place told test h = sym (told test) ∙ h

pub returns-else-spans : goal.returns-else-spans
returns-else-spans c passed =
    let regions = c.self.inside.flushed.items in
    let told = told_by regions c.self.inside.ledger.records c.args.place (λ test. any_told regions c.self.inside.ledger.records test c.args.place c.self.invariant.1) in
    let held = rw (← c.self.view_is) at c.requires.since in
    rw (← c.self.view_is)
    (spanned_along (value_count c.args.catalog.now) (drop c.args.place regions) c.self.inside.ledger c.args.place c.args.header.now c.args.region.now told c.requires.formed held (sym c.span_along.ensures ∙ passed))

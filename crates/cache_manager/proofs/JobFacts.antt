-- Jobs that are out, while entries are added to the history.
use Rattle.std.proofs.Common.{◌≡◌, refl, sym, ◌∙◌, ap, subst, ℕ, List, [], ◌∷◌, ◌++◌, false, ◌||◌}
use Rattle.std.specs.List.{list_any}
use Rattle.std.proofs.lemmas.Bool.{both_ways, false_from_ne_true, or_from, or_left, or_right}
use Rattle.std.proofs.lemmas.List.{append-nil, append_assoc}
use Rattle.std.proofs.lemmas.List.Elements.{filter-append}
use Rattle.std.proofs.lemmas.List.Folds.{list_any-append}
use Rattle.olap_meaning.specs.declared.cells.Who.{Who}
use Rattle.olap_meaning.specs.declared.tables.Setting.{Setting}
use Rattle.olap_meaning.specs.History.{Entry, ends, load_at, rows_of}
use Rattle.olap_meaning.specs.Legal.{Legal}
use Rattle.olap_meaning.specs.declared.cells.Header.{Header}
use Rattle.olap_meaning.specs.declared.tables.Row.{Row}
use Rattle.segment_body.specs.BodyOf.{BodyOf}
use Rattle.fact_reader.specs.BodyRows.{HoldsRows, rows_in}
use Rattle.load_costs.specs.Costs.{cost, reads}
use Rattle.load_costs.proofs.CostFacts.{cost_on, reads_on}
use Rattle.olap_meaning.specs.declared.tables.Catalog.{Catalog}
use Rattle.olap_meaning.proofs.Steps.{prefixes_are_legal}
use Rattle.olap_meaning.proofs.Versions.{rows_stay}
use Rattle.segment_load.specs.Loads.{JobOf}
use Rattle.history_core.specs.Cache.{CacheOf}
use Rattle.cache_manager.specs.Jobs.{IsJobOf, IsOwnBody}
use Rattle.cache_manager.specs.Laws.{JobsStay}
use Rattle.history_core.specs.Seats.{entries_of, is_of_seat}
use Rattle.olap_meaning.proofs.Pushes.{load_on, recorded}

-- what a job has come to, which holds the rows of its snapshot, is the body of an own load
pub own_body : (cache : CacheOf) (job : JobOf) (body : BodyOf) → IsJobOf cache job → HoldsRows job.catalog job.header (rows_in job.snapshot) body → IsOwnBody cache job.who job.load body
own_body cache job body is holds = record {
  load = is.load;
  flies = is.flies;
  holds = subst (λ (rows : List Row). HoldsRows cache.setting.catalog is.load.header rows body) is.rows
      (subst (λ (h : Header). HoldsRows cache.setting.catalog h (rows_in job.snapshot) body) is.header
      (subst (λ (c : Catalog). HoldsRows c job.header (rows_in job.snapshot) body) is.catalog holds));
}

module _ (before after : CacheOf) (entry : Entry) (same : after.setting ≡ before.setting) (grown : after.entries ≡ before.entries ++ entry ∷ []) (legal : Legal before.setting before.entries) where
  unended_on : (who : Who) (j : ℕ) → list_any (ends j) (entries_of (entry ∷ []) who.seat) ≡ false → list_any (ends j) (entries_of before.entries who.seat) ≡ false → list_any (ends j) (entries_of after.entries who.seat) ≡ false
  unended_on who j other none =
      ap (λ (es : List Entry). list_any (ends j) (entries_of es who.seat)) grown
      ∙ ap (list_any (ends j)) (filter-append (is_of_seat who.seat) before.entries (entry ∷ []))
      ∙ list_any-append (ends j) (entries_of before.entries who.seat) (entries_of (entry ∷ []) who.seat)
      ∙ or_from (list_any (ends j) (entries_of before.entries who.seat)) (list_any (ends j) (entries_of (entry ∷ []) who.seat)) none other

  -- a job stays one of the cache's, where the entry is none of its seat that ends its load
  pub job_stays : (job : JobOf) → list_any (ends job.load) (entries_of (entry ∷ []) job.who.seat) ≡ false → IsJobOf before job → IsJobOf after job
  job_stays job other is =
      let rows : rows_of after.entries is.load.header.cube is.load.version ≡ rows_of before.entries is.load.header.cube is.load.version =
      ap (λ (es : List Entry). rows_of es is.load.header.cube is.load.version) grown
      ∙ rows_stay before.entries entry is.load.header.cube is.load.version (recorded before.setting before.entries job.load is.load legal is.flies.started) in
      record {
        load = is.load;
        catalog = is.catalog ∙ sym (ap (λ (s : Setting). s.catalog) same);
        flies = record {
          started = ap (λ (es : List Entry). load_at es job.load) grown ∙ load_on before.entries entry job.load is.load is.flies.started;
          own = is.flies.own;
          unended = unended_on job.who job.load other is.flies.unended;
        };
        header = is.header;
        rows = is.rows ∙ sym rows;
        version = is.version;
        read =
            is.read ∙ sym (reads_on before.setting.catalog before.entries (entry ∷ []) job.load is.load is.flies.started)
            ∙ ap (λ (es : List Entry). reads before.setting.catalog es job.load) (sym grown)
            ∙ ap (λ (s : Setting). reads s.catalog after.entries job.load) (sym same);
        costs =
            is.costs ∙ sym (cost_on before.setting.catalog before.entries (entry ∷ []) job.load is.load is.flies.started)
            ∙ ap (λ (es : List Entry). cost before.setting.catalog es job.load) (sym grown)
            ∙ ap (λ (s : Setting). cost s.catalog after.entries job.load) (sym same);
      }

-- a job stays over many entries of which none of its seat ends its load
pub job_stays_on : JobsStay
job_stays_on cache job [] legal none is = rw (append-nil cache.entries) is
job_stays_on cache job (e ∷ es) legal none is =
    let parted : (list_any (ends job.load) (entries_of (e ∷ []) job.who.seat) || list_any (ends job.load) (entries_of es job.who.seat)) ≡ false =
    sym (list_any-append (ends job.load) (entries_of (e ∷ []) job.who.seat) (entries_of es job.who.seat)) ∙ ap (list_any (ends job.load)) (sym (filter-append (is_of_seat job.who.seat) (e ∷ []) es)) ∙ none in
    let here : list_any (ends job.load) (entries_of (e ∷ []) job.who.seat) ≡ false = false_from_ne_true _ (λ h. both_ways _ parted (or_left (list_any (ends job.load) (entries_of (e ∷ []) job.who.seat)) (list_any (ends job.load) (entries_of es job.who.seat)) h)) in
    let rest : list_any (ends job.load) (entries_of es job.who.seat) ≡ false = false_from_ne_true _ (λ h. both_ways _ parted (or_right (list_any (ends job.load) (entries_of (e ∷ []) job.who.seat)) (list_any (ends job.load) (entries_of es job.who.seat)) h)) in
    let next : CacheOf = record { setting = cache.setting; entries = cache.entries ++ e ∷ [] } in
    let whole : cache.entries ++ e ∷ es ≡ next.entries ++ es = sym (append_assoc cache.entries (e ∷ []) es) in
    let first : IsJobOf next job = job_stays cache next e refl refl (prefixes_are_legal cache.setting cache.entries (e ∷ es) legal) job here is in
    subst (λ (entries : List Entry). IsJobOf (record { setting = cache.setting; entries = entries }) job) (sym whole) (job_stays_on next job es (subst (Legal cache.setting) whole legal) rest first)

-- What an append asks for, and what it comes to.
use Rattle.std.proofs.Common.{All, ◌≡◌, refl, sym, ◌∙◌, ap, subst, ℕ, ◌+◌, ◌<◌, [], ◌∷◌, ◌++◌, length, true, Option, None}
use Rattle.std.specs.Prelude.{IsTrue}
use Rattle.std.proofs.lemmas.Bool.{eq-eqb}
use Rattle.olap_meaning.specs.declared.cells.Who.{Who}
use Rattle.olap_meaning.specs.History.{Append, version}
use Rattle.olap_meaning.specs.Legal.{IsLegalAppend, Legal, is_next_call}
use Rattle.olap_meaning.proofs.Growing.{version_grows}
use Rattle.fact_versions.specs.FactRows.{FactRows}
use Rattle.fact_versions.specs.declared.faults.AppendFault.{AppendFault}
use Rattle.fact_versions.specs.Facts.{FactsOf, IsAlike, append_fault, arrival, batches_of, with_batch}
use Rattle.history_core.specs.History.{HistoryOf}
use Rattle.fact_reader.specs.BodyRows.{is_batch}
use Rattle.history_core.specs.Cache.{CacheOf}
use Rattle.history_core.specs.Arrivals.{arrival_in}
use Rattle.cache_manager.specs.Kept.{AreFactsOf}
use Rattle.cache_manager.proofs.Ends.{cache_of}
use Rattle.cache_manager.proofs.Facts.{admitted, all_alike, next_version, same_arrival}

module _ (cache : CacheOf) (history : HistoryOf) (facts : FactsOf) (who : Who) (cube : ℕ) (batch : FactRows) (is : cache_of history ≡ cache) (are : AreFactsOf history.setting history.entries facts) (known : cube < length cache.setting.catalog.cubes) (fits : IsTrue (is_batch cache.setting.catalog cube batch)) where
  fits_here : is_batch history.setting.catalog cube batch ≡ true
  fits_here = subst (λ (k : CacheOf). IsTrue (is_batch k.setting.catalog cube batch)) (sym is) fits

  known_here : cube < length history.setting.catalog.cubes
  known_here = subst (λ (k : CacheOf). cube < length k.setting.catalog.cubes) (sym is) known

  pub known_cube : cube < length facts.cubes
  known_cube = rw are.cubes known_here

  pub fits_cube : is_batch history.setting.catalog cube batch ≡ true
  fits_cube = fits_here

  pub alike_all : All (IsAlike batch) (batches_of facts cube)
  alike_all = all_alike history.setting.catalog cube batch (batches_of facts cube) fits_here (are.fit cube)

  pub refused : (o : Option AppendFault) → append_fault (arrival facts cube batch) ≡ o → append_fault (arrival_in cache cube batch.rows) ≡ o
  refused o h = ap (λ (k : CacheOf). append_fault (arrival_in k cube batch.rows)) (sym is) ∙ sym (ap append_fault (same_arrival (cache_of history) facts cube batch are)) ∙ h

  module _ (v : ℕ) (made : v ≡ length (batches_of (with_batch facts cube batch) cube)) where
    next : v ≡ version history.entries cube + 1
    next = next_version (cache_of history) facts cube v batch are known_cube made

    pub legal_append : Legal history.setting history.entries → IsTrue (is_next_call cache.entries who) → append_fault (arrival facts cube batch) ≡ None → IsLegalAppend history.setting history.entries who cube v batch.rows
    legal_append legal call passes =
        admitted (cache_of history) who cube v batch legal (sym (ap append_fault (same_arrival (cache_of history) facts cube batch are)) ∙ passes) next
        (subst (λ (k : CacheOf). IsTrue (is_next_call k.entries who)) (sym is) call) known_here fits_here

    pub entry_is : history.entries ++ Append who cube v batch.rows ∷ [] ≡ cache.entries ++ Append who cube (version cache.entries cube + 1) batch.rows ∷ []
    entry_is =
        ap (λ (n : ℕ). history.entries ++ Append who cube n batch.rows ∷ []) next
        ∙ ap (λ (k : CacheOf). k.entries ++ Append who cube (version k.entries cube + 1) batch.rows ∷ []) is

    pub version_is : v ≡ version (history.entries ++ Append who cube v batch.rows ∷ []) cube
    version_is = next ∙ sym (version_grows history.entries (Append who cube v batch.rows) cube ∙ rw (eq-eqb cube cube refl) refl)

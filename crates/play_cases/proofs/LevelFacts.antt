-- The levels of some tables, one table more.
use Rattle.std.proofs.Common.{refl, ◌≡◌, ◌∙◌, ◌+◌, ◌++◌, ℕ, List, [], ◌∷◌, Option, Some, None, sym, ap, map, take, slice_get, get_or, length}
use Rattle.std.specs.Option.{IsSomeAnd}
use Rattle.std.proofs.lemmas.List.{map-append, take_more}
use Rattle.std.proofs.lemmas.Option.{slice_get_within, slice_get-get_or}
use Rattle.olap_meaning.specs.declared.schema.SchemaDimension.{SchemaDimension}
use Rattle.olap_meaning.specs.Schema.{levels_of}
use Rattle.catalog_tables.specs.Tables.{TableOf}

pub levels_step : (dimensions : List SchemaDimension) (tables after : List TableOf) (i : ℕ) (t : TableOf) → map (λ t. t.levels) tables ≡ map (λ d. length (levels_of d)) (take i dimensions) → after ≡ tables ++ t ∷ []
    → IsSomeAnd (slice_get dimensions i) (λ d. t.levels ≡ length (levels_of d)) → map (λ t. t.levels) after ≡ map (λ d. length (levels_of d)) (take (i + 1) dimensions)
levels_step dimensions tables after i t even added own = by (slice_get dimensions i) refl own
  where
    by : (o : Option SchemaDimension) → slice_get dimensions i ≡ o → IsSomeAnd o (λ d. t.levels ≡ length (levels_of d)) → map (λ t. t.levels) after ≡ map (λ d. length (levels_of d)) (take (i + 1) dimensions)
    by None at has = absurd has
    by (Some d) at has =
        let within = slice_get_within dimensions i d at in
        let here : get_or dimensions i d ≡ d = let e : Some (get_or dimensions i d) ≡ Some d = sym (slice_get-get_or dimensions i d within) ∙ at in cc e in
        ap (map (λ (x : TableOf). x.levels)) added ∙ map-append (λ (x : TableOf). x.levels) tables (t ∷ []) ∙ ap (λ ns. ns ++ t.levels ∷ []) even ∙ ap (λ n. map (λ (x : SchemaDimension). length (levels_of x)) (take i dimensions) ++ n ∷ []) has
        ∙ sym (ap (map (λ (x : SchemaDimension). length (levels_of x))) (take_more dimensions i d within ∙ ap (λ x. take i dimensions ++ x ∷ []) here) ∙ map-append (λ (x : SchemaDimension). length (levels_of x)) (take i dimensions) (d ∷ []))

-- Facts that have grown by a batch, for who appends more than one.
use Rattle.std.proofs.Common.{◌≡◌, ◌<◌, ◌≢◌, ℕ, [], ◌∷◌, ◌++◌, All, length, length-set, get_or-set_same, get_or-set_other}
use Rattle.std.proofs.lemmas.List.Elements.{All-append, All-cons, All-nil}
use Rattle.fact_versions.specs.FactRows.{FactRows}
use Rattle.fact_versions.specs.Facts.{FactsOf, batches_of, with_batch}

pub length-cubes : (facts : FactsOf) (cube : ℕ) (batch : FactRows) → length (with_batch facts cube batch).cubes ≡ length facts.cubes
length-cubes facts cube batch = length-set facts.cubes cube (batches_of facts cube ++ batch ∷ [])

-- the cube has one batch more
pub batches_of-with_batch : (facts : FactsOf) (cube : ℕ) (batch : FactRows) → cube < length facts.cubes → batches_of (with_batch facts cube batch) cube ≡ batches_of facts cube ++ batch ∷ []
batches_of-with_batch facts cube batch known = get_or-set_same facts.cubes cube (batches_of facts cube ++ batch ∷ []) [] known

-- any other has those that it had
pub batches_of-with_batch_other : (facts : FactsOf) (cube other : ℕ) (batch : FactRows) → other ≢ cube → batches_of (with_batch facts cube batch) other ≡ batches_of facts other
batches_of-with_batch_other facts cube other batch differs = get_or-set_other facts.cubes cube other (batches_of facts cube ++ batch ∷ []) [] differs

-- what holds of the batches of the cube and of the further one holds of all
pub All-with_batch : (P : FactRows → Type 0) (facts : FactsOf) (cube : ℕ) (batch : FactRows) → cube < length facts.cubes → All P (batches_of facts cube) → P batch → All P (batches_of (with_batch facts cube batch) cube)
All-with_batch P facts cube batch known before further =
    rw (batches_of-with_batch facts cube batch known) (All-append P (batches_of facts cube) (batch ∷ []) before (All-cons P batch [] further (All-nil P)))

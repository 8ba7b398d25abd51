-- What an index keeps true of its parts.
use Rattle.std.specs.Prelude.{ℕ, ◌≡◌, ◌==◌, ◌<◌, ◌^◌, ◌&&◌, ◌⊎◌, List, All, IsTrue, nat_lt, sum_by}
use Rattle.std.specs.List.{list_any}
use Rattle.olap_meaning.specs.declared.cells.Header.{Header}
use Rattle.olap_meaning.specs.Covering.{among}
use Rattle.segment_header.specs.Headers.{is_header}
use Rattle.cache_flush.specs.Loads.{IsGone, KeptOf, group_count, numbers_of}
use Rattle.segment_index.specs.Grouping.{loads_at}
use Rattle.segment_index.specs.Index.{in_key, in_mask}

-- a load stands under each key that is counted for its header
abbrev pub StandsUnder : (Header → ℕ → ℕ) → List (ℕ × (List ℕ × ℕ)) → KeptOf → Type 0
StandsUnder count groups kept =
    (q : ℕ) → IsTrue (nat_lt 0 (count kept.body.header q)) → IsTrue (among (loads_at groups q) kept.load)

-- each kept load stands under its keys, or serves no well-formed cell any more, and nothing else stands there. Here and below,
-- sizes tell how many values each column has
pub record AreListed (sizes : ℕ → ℕ) (count : Header → ℕ → ℕ) (groups : List (ℕ × (List ℕ × ℕ))) (loads : List KeptOf) : Type 0 where
  pub whole : All (λ kept. IsGone sizes kept ⊎ StandsUnder count groups kept) loads
  pub just :
      (q number : ℕ) → IsTrue (among (loads_at groups q) number)
      → IsTrue (list_any (λ kept. nat_lt 0 (count kept.body.header q) && (kept.load == number)) loads)

-- kept loads are listed by the masks of their columns and by the keys of their cells, and their headers are well formed
abbrev pub AreKept : (ℕ → ℕ) → List (ℕ × (List ℕ × ℕ)) → List (ℕ × (List ℕ × ℕ)) → List KeptOf → Type 0
AreKept sizes masks cells loads =
    AreListed sizes in_mask masks loads × AreListed sizes (in_key sizes) cells loads
    × All (λ kept. IsTrue (is_header kept.body.header)) loads

-- some numbers are just those of kept loads
abbrev pub AreNumbersOf : List KeptOf → List ℕ → Type 0
AreNumbersOf loads numbers =
    (number : ℕ) → among numbers number ≡ among (numbers_of loads) number

-- how many groups kept loads hold in all, and each of them fewer than a u64 can count
abbrev pub HoldGroups : List KeptOf → ℕ → Type 0
HoldGroups loads groups =
    (groups ≡ sum_by group_count loads) × All (λ kept. group_count kept < 2 ^ 64) loads

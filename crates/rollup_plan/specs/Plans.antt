-- What a plan is.
use Rattle.std.specs.Prelude.{Bool, ℕ, ◌≡◌, ◌⊎◌, ◌≤◌, ◌<◌, ◌==◌, List, Option, Some, true, false, All, Contains, IsTrue, filter_map, length, map, option_map, slice_get}
use Rattle.std.specs.List.{find, list_any}
use Rattle.olap_meaning.specs.declared.Aggregator.{Aggregator}
use Rattle.olap_meaning.specs.declared.cells.Allowed.{Allowed}
use Rattle.olap_meaning.specs.declared.cells.Cell.{Cell}
use Rattle.olap_meaning.specs.declared.cells.Header.{Header}
use Rattle.olap_meaning.specs.Covering.{allows, among, header_covers, names_column}
use Rattle.olap_meaning.specs.History.{is_some_and}
use Rattle.olap_meaning.specs.Rolled.{IsRolled, Offer, allows_in, can_begin, header_columns, is_open_but}
use Rattle.segment_header.specs.Headers.{is_header, is_set}
use Rattle.cache_flush.specs.Loads.{KeptOf, are_different, is_candidate}
use Rattle.rollup_plan.specs.declared.plan.Part.{Part}
use Rattle.rollup_plan.specs.declared.plan.Plan.{Plan}

-- the kept load of a number
abbrev pub kept_at : List KeptOf → ℕ → Option KeptOf
kept_at loads load = find (λ kept. kept.load == load) loads

-- what a kept load offers
abbrev pub offer_of : KeptOf → Offer
offer_of kept = record { header = kept.body.header; version = kept.version }

-- what the loads of some numbers offer, in the order of the numbers
abbrev pub offers_at : List KeptOf → List ℕ → List Offer
offers_at loads numbers =
    filter_map (λ number. option_map offer_of (kept_at loads number)) numbers

-- a share of a cell: the header of a load, and the values of a split that are its own
pub record Share : Type 0 where
  pub header : Header
  pub own : Allowed

-- the shares of some parts
abbrev pub shares_of : List KeptOf → List Part → List Share
shares_of loads parts =
    filter_map
    (λ part. option_map
    (λ kept. record { header = kept.body.header; own = part.own }) (kept_at loads part.load)) parts

-- no value below a size is of two shares
abbrev pub AreApart : ℕ → List Share → Type 0
AreApart size shares =
    (i j : ℕ) (one other : Share) → i < j → slice_get shares i ≡ Some one
    → slice_get shares j ≡ Some other → (value : ℕ) → value < size
    → allows one.own value ≡ true → allows other.own value ≡ false

-- shares make a cell along a split, which is a column that the cell lacks: each header is well formed, covers the cell,
-- has the split and is open in each other column that the cell lacks; what is a share's own is well formed, and its
-- header allows it in the split; and each value of the split is of just one share
pub record MakeCell (size : ℕ → ℕ) (cell : Cell) (split : ℕ) (shares : List Share) : Type 0 where
  pub lacked : names_column cell split ≡ false
  pub formed : All (λ share. IsTrue (is_header share.header)) shares
  pub covering : All (λ share. IsTrue (header_covers share.header cell)) shares
  pub having : All (λ share. Contains (header_columns share.header) split) shares
  pub opened : All (λ share. IsTrue (is_open_but cell split share.header)) shares
  pub sets : All (λ share. IsTrue (is_set share.own)) shares
  pub within : All
      (λ share. (value : ℕ) → IsTrue (allows share.own value)
      → IsTrue (allows_in share.header split value)) shares
  pub apart : AreApart (size split) shares
  pub every : (value : ℕ) → value < size split
      → IsTrue (list_any (λ share. allows share.own value) shares)

-- a cell is rolled up by a plan over kept loads: each planned load is kept; what the planned loads offer is rolled up to
-- the cell along the plan's split; and the shares of the parts make the cell
pub record IsRolledBy (aggregator : Aggregator) (size : ℕ → ℕ) (cell : Cell)
    (loads : List KeptOf) (plan : Plan) : Type 0 where
  pub kept : length (shares_of loads plan.parts) ≡ length plan.parts
  pub rolled : IsRolled aggregator size cell (offers_at loads (map (λ part. part.load) plan.parts))
  pub along : rolled.split ≡ Some plan.split
  pub made : MakeCell size cell plan.split (shares_of loads plan.parts)

-- a plan is one for a cell over kept loads, of which some numbers are candidates: each part is of a candidate; the cell
-- is rolled up by the plan; no candidate of a newer version could have been begun with; no load has two parts; and where
-- there are more parts than one, each has a value of the split as its own
pub record IsPlanned (aggregator : Aggregator) (size : ℕ → ℕ) (cell : Cell)
    (loads : List KeptOf) (candidates : List ℕ) (plan : Plan) : Type 0 where
  pub known : All (λ part. IsTrue (among candidates part.load)) plan.parts
  pub rolls : IsRolledBy aggregator size cell loads plan
  pub newest : All
      (λ offer. IsTrue (can_begin size cell (offers_at loads candidates) offer)
      → offer.version ≤ rolls.rolled.version) (offers_at loads candidates)
  pub once : IsTrue (are_different (map (λ part. part.load) plan.parts))
  pub needed : (length plan.parts ≡ 1)
      ⊎ All
      (λ part. (value : ℕ) × (value < size plan.split) × IsTrue (allows part.own value)) plan.parts

-- the kept load of a number is a candidate for a cell
abbrev pub is_candidate_at : List KeptOf → Cell → ℕ → Bool
is_candidate_at loads cell number =
    is_some_and (λ kept. is_candidate kept cell) (kept_at loads number)

-- Numbers of boxes: those within the limit, and the first that is not.
use Rattle.std.proofs.Common.{◌≡◌, ◌∙◌, ◌+◌, ◌*◌, ◌<◌, ◌≤◌, ℕ, List, ◌∷◌, All, None, Some, sym, ap, subst, arith, drop, get_or, length, if◌then◌else◌}
use Rattle.std.proofs.lemmas.Bool.{le-leb, lt-leb}
use Rattle.std.proofs.Math.Nat.{mul-le-mul_left}
use Rattle.std.proofs.lemmas.List.{drop_more}
use Rattle.std.proofs.lemmas.List.Elements.{All-get_or}
use Rattle.olap_meaning.specs.declared.regions.Region.{Region}
use Rattle.query_meaning.specs.declared.TheConstants.{BOX_LIMIT}
use Rattle.query_meaning.specs.RegionMeaning.{TooManyBoxes, box_counts, many_crossed, many_united, too_many_boxes}
use Rattle.region_algebra.specs.Regions.{IsBounded}

pub few : (n : ℕ) → n ≤ BOX_LIMIT → too_many_boxes n ≡ None
few n h = ap (λ b. if b then None else Some (TooManyBoxes n BOX_LIMIT)) (le-leb n BOX_LIMIT h)

pub many : (n : ℕ) → BOX_LIMIT < n → too_many_boxes n ≡ Some (TooManyBoxes n BOX_LIMIT)
many n h = ap (λ b. if b then None else Some (TooManyBoxes n BOX_LIMIT)) (lt-leb n BOX_LIMIT h)

-- a part has not too many boxes
pub limit_at : (parts : List Region) (i : ℕ) (part : Region) → i < length parts → part ≡ get_or parts i part → All IsBounded parts → length part.boxes ≤ BOX_LIMIT
limit_at parts i part within is all = (subst IsBounded (sym is) (All-get_or IsBounded parts i part within all)).limit

-- two numbers within the limit have a product that is no great number
pub small_product : (p n : ℕ) → p ≤ BOX_LIMIT → n ≤ BOX_LIMIT → p * n ≤ 10_000_000_000
small_product p n h k = omega (arith, mul-le-mul_left p k)

module _ (parts : List Region) (i : ℕ) (part : Region) (within : i < length parts) (is : part ≡ get_or parts i part) where
  here : box_counts (drop i parts) ≡ length part.boxes ∷ box_counts (drop (i + 1) parts)
  here = ap box_counts (drop_more parts i part within ∙ ap (λ p. p ∷ drop (i + 1) parts) (sym is))

  -- one more factor
  pub crossed_on : (p : ℕ) → p * length part.boxes ≤ BOX_LIMIT → many_crossed p (box_counts (drop i parts)) ≡ many_crossed (p * length part.boxes) (box_counts (drop (i + 1) parts))
  crossed_on p h =
      ap (many_crossed p) here
      ∙ ap (λ b. if b then many_crossed (p * length part.boxes) (box_counts (drop (i + 1) parts)) else too_many_boxes (p * length part.boxes)) (le-leb (p * length part.boxes) BOX_LIMIT h)

  -- the first product above the limit
  pub crossed_past : (p : ℕ) → BOX_LIMIT < p * length part.boxes → many_crossed p (box_counts (drop i parts)) ≡ Some (TooManyBoxes (p * length part.boxes) BOX_LIMIT)
  crossed_past p h =
      ap (many_crossed p) here
      ∙ ap (λ b. if b then many_crossed (p * length part.boxes) (box_counts (drop (i + 1) parts)) else too_many_boxes (p * length part.boxes)) (lt-leb (p * length part.boxes) BOX_LIMIT h)
      ∙ many (p * length part.boxes) h

  -- one more summand
  pub united_on : (s : ℕ) → s + length part.boxes ≤ BOX_LIMIT → many_united s (box_counts (drop i parts)) ≡ many_united (s + length part.boxes) (box_counts (drop (i + 1) parts))
  united_on s h =
      ap (many_united s) here
      ∙ ap (λ b. if b then many_united (s + length part.boxes) (box_counts (drop (i + 1) parts)) else too_many_boxes (s + length part.boxes)) (le-leb (s + length part.boxes) BOX_LIMIT h)

  -- the first sum above the limit
  pub united_past : (s : ℕ) → BOX_LIMIT < s + length part.boxes → many_united s (box_counts (drop i parts)) ≡ Some (TooManyBoxes (s + length part.boxes) BOX_LIMIT)
  united_past s h =
      ap (many_united s) here
      ∙ ap (λ b. if b then many_united (s + length part.boxes) (box_counts (drop (i + 1) parts)) else too_many_boxes (s + length part.boxes)) (lt-leb (s + length part.boxes) BOX_LIMIT h)
      ∙ many (s + length part.boxes) h

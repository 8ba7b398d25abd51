-- Dimensions: the first that repeats, and the measures among them.
use Rattle.std.proofs.Common.{◌≡◌, ◌∙◌, ◌<◌, ◌+◌, ◌++◌, ℕ, suc, Bool, true, false, ◌||◌, List, [], ◌∷◌, None, Some, refl, sym, ap, length, drop, take, get_or, reverse, add-one, if◌then◌else◌, drop-cons}
use Rattle.std.specs.List.{list_all, list_any}
use Rattle.std.proofs.lemmas.Bool.{and_parts, or_right}
use Rattle.std.proofs.lemmas.List.{reverse-append, take_more}
use Rattle.std.proofs.lemmas.List.Folds.{list_any-append}
use Rattle.olap_meaning.specs.declared.regions.RegionDim.{RegionDim}
use Rattle.olap_meaning.specs.declared.regions.RegionDim.TheVariants as dim
use Rattle.olap_meaning.specs.Legal.{is_measures}
use Rattle.olap_meaning.proofs.Lists.{or_swap}
use Rattle.query_meaning.specs.RegionMeaning.{dim_again, has_dim, is_dim}

any_reverse : (p : RegionDim → Bool) (dims : List RegionDim) → list_any p (reverse dims) ≡ list_any p dims
any_reverse p [] = refl
any_reverse p (one ∷ dims) =
    ap (list_any p) (reverse-append (one ∷ []) dims)
    ∙ list_any-append p (reverse dims) (one ∷ [])
    ∙ or_swap (list_any p (reverse dims)) (p one)
    ∙ ap (λ b. p one || b) (any_reverse p dims)

module _ (dims : List RegionDim) (i : ℕ) (one : RegionDim) (within : i < length dims) (is : one ≡ get_or dims i one) where
  here : dim_again (reverse (take i dims)) (drop i dims) ≡ dim_again (reverse (take i dims)) (one ∷ drop (suc i) dims)
  here = ap (dim_again (reverse (take i dims))) (drop-cons dims i one within ∙ ap (λ r. r ∷ drop (suc i) dims) (sym is))

  front : reverse (take (i + 1) dims) ≡ one ∷ reverse (take i dims)
  front = ap reverse (take_more dims i one within ∙ ap (λ r. take i dims ++ r ∷ []) (sym is)) ∙ reverse-append (take i dims) (one ∷ [])

  -- a dimension that is among those before it is the first that repeats
  pub repeats : has_dim (take i dims) one ≡ true → dim_again (reverse (take i dims)) (drop i dims) ≡ Some one
  repeats among =
      here
      ∙ ap (λ b. if b then Some one else dim_again (one ∷ reverse (take i dims)) (drop (suc i) dims)) (any_reverse (is_dim one) (take i dims) ∙ among)

  -- and any other is passed
  pub passes : has_dim (take i dims) one ≡ false → dim_again (reverse (take i dims)) (drop i dims) ≡ dim_again (reverse (take (i + 1) dims)) (drop (i + 1) dims)
  passes among =
      here
      ∙ ap (λ b. if b then Some one else dim_again (one ∷ reverse (take i dims)) (drop (suc i) dims)) (any_reverse (is_dim one) (take i dims) ∙ among)
      ∙ ap (λ r. dim_again r (drop (suc i) dims)) (sym front)
      ∙ ap (λ n. dim_again (reverse (take (i + 1) dims)) (drop n dims)) (sym (add-one i))

-- the measures are among some dimensions
pub with_measures : (dims : List RegionDim) → has_dim dims dim.Measures ≡ list_any is_measures dims
with_measures [] = refl
with_measures (dim.Measures ∷ dims) = refl
with_measures (dim.Dimension d ∷ dims) = with_measures dims

-- and among others that have all of these
pub measures_shared : (dims others : List RegionDim) → list_all (has_dim dims) others ≡ true → list_any is_measures others ≡ true → list_any is_measures dims ≡ true
measures_shared dims [] all some = absurd (cc some)
measures_shared dims (dim.Measures ∷ others) all some = sym (with_measures dims) ∙ (and_parts (has_dim dims dim.Measures) (list_all (has_dim dims) others) all).0
measures_shared dims (dim.Dimension d ∷ others) all some = measures_shared dims others (and_parts (has_dim dims (dim.Dimension d)) (list_all (has_dim dims) others) all).1 some

-- dimensions of which none repeats go on so after the first of them
pub goes_on : (before dims others : List RegionDim) → dim_again before (dims ++ others) ≡ None
    → (after : List RegionDim) × (dim_again after others ≡ None) × (list_any is_measures after ≡ (list_any is_measures dims || list_any is_measures before))
goes_on before [] others none = (before, none, refl)
goes_on before (one ∷ dims) others none = by (goes_on (one ∷ before) dims others) (has_dim before one) none
  where
    turned : (a b c : Bool) → (a || (b || c)) ≡ ((b || a) || c)
    turned true true c = refl
    turned true false c = refl
    turned false true c = refl
    turned false false c = refl

    by : (dim_again (one ∷ before) (dims ++ others) ≡ None → (after : List RegionDim) × (dim_again after others ≡ None) × (list_any is_measures after ≡ (list_any is_measures dims || list_any is_measures (one ∷ before))))
        → (b : Bool) → (if b then Some one else dim_again (one ∷ before) (dims ++ others)) ≡ None
        → (after : List RegionDim) × (dim_again after others ≡ None) × (list_any is_measures after ≡ (list_any is_measures (one ∷ dims) || list_any is_measures before))
    by rest true here = absurd (cc here)
    by rest false later = let more = rest later in (more.0, more.1, more.2 ∙ turned (list_any is_measures dims) (is_measures one) (list_any is_measures before))

-- the measures are not among dimensions that go on after them, where none repeats
pub no_measures : (before dims : List RegionDim) → dim_again before dims ≡ None → list_any is_measures before ≡ true → list_any is_measures dims ≡ false
no_measures before [] none some = refl
no_measures before (one ∷ dims) none some = by (λ later. no_measures (one ∷ before) dims later (or_right (is_measures one) (list_any is_measures before) some)) one (has_dim before one) refl none
  where
    by : (dim_again (one ∷ before) dims ≡ None → list_any is_measures dims ≡ false) → (o : RegionDim) (b : Bool) → has_dim before o ≡ b → (if b then Some one else dim_again (one ∷ before) dims) ≡ None → (is_measures o || list_any is_measures dims) ≡ false
    by rest o true is here = absurd (cc here)
    by rest dim.Measures false is later = let e : true ≡ false = sym some ∙ sym (with_measures before) ∙ is in absurd (cc e)
    by rest (dim.Dimension d) false is later = rest later

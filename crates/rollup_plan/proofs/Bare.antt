-- Kept loads without what shuts off parts of them offer what they offer.
use Rattle.std.proofs.Common.{◌≡◌, sym, ◌∙◌, ap, subst, refl, ℕ, ◌≤◌, List, [], ◌∷◌, Option, Some, None, true, inl, inr, map, option_map, ◌&&◌, not, length, All, ◌==◌}
use Rattle.std.specs.Prelude.{IsTrue}
use Rattle.std.specs.List.{cons_option, find, list_any}
use Rattle.std.proofs.lemmas.Bool.{and_from, and_parts, cases_Bool}
use Rattle.std.proofs.lemmas.List.Elements.{All-weaker}
use Rattle.olap_meaning.specs.declared.Aggregator.{Aggregator}
use Rattle.olap_meaning.specs.declared.cells.Cell.{Cell}
use Rattle.olap_meaning.specs.declared.regions.Region.{Region}
use Rattle.olap_meaning.specs.Covering.{header_covers, names_column}
use Rattle.olap_meaning.specs.History.{is_some_and}
use Rattle.olap_meaning.specs.Rolled.{IsRolled, Offer, can_begin}
use Rattle.cache_flush.specs.Loads.{KeptOf, is_candidate, kept_in, kept_of}
use Rattle.cache_flush.specs.Shuts.{is_live}
use Rattle.cache_flush.specs.declared.kept.Kept.{Kept}
use Rattle.rollup_plan.specs.Picks.{bare, bare_of}
use Rattle.rollup_plan.specs.Plans.{IsPlanned, MakeCell, Share, is_candidate_at, kept_at, offer_of, offers_at, shares_of}
use Rattle.rollup_plan.specs.declared.plan.Part.{Part}
use Rattle.rollup_plan.specs.declared.plan.Plan.{Plan}

module _ (loads : List KeptOf) where
  pub kept_bare : (number : ℕ) → kept_at (bare loads) number ≡ option_map bare_of (kept_at loads number)
  kept_bare number = by loads
    where
      by : (ks : List KeptOf) → find (λ (kept : KeptOf). kept.load == number) (map bare_of ks) ≡ option_map bare_of (find (λ (kept : KeptOf). kept.load == number) ks)
      by [] = refl
      by (k ∷ ks) = elim (cases_Bool (k.load == number)) [ inl here ↦ rw here refl | inr other ↦ rw other (by ks) ]

  -- a load that is lent is one of them
  pub lent_bare : (regions : List Region) (number : ℕ) (kept : Kept) → kept_at loads number ≡ Some (kept_in regions kept) → kept_at (bare loads) number ≡ Some (kept_of kept)
  lent_bare regions number kept at = kept_bare number ∙ ap (option_map bare_of) at

  offer_bare : (o : Option KeptOf) → option_map offer_of (option_map bare_of o) ≡ option_map offer_of o
  offer_bare None = refl
  offer_bare (Some k) = refl

  pub offers_bare : (numbers : List ℕ) → offers_at (bare loads) numbers ≡ offers_at loads numbers
  offers_bare [] = refl
  offers_bare (n ∷ ns) =
      ap (λ (o : Option Offer). cons_option o (offers_at (bare loads) ns)) (ap (option_map offer_of) (kept_bare n) ∙ offer_bare (kept_at loads n))
      ∙ ap (cons_option (option_map offer_of (kept_at loads n))) (offers_bare ns)

  share_bare : (part : Part) (o : Option KeptOf) → ◌≡◌ {A = Option Share} (option_map (λ (kept : KeptOf). record { header = kept.body.header; own = part.own }) (option_map bare_of o)) (option_map (λ (kept : KeptOf). record { header = kept.body.header; own = part.own }) o)
  share_bare part None = refl
  share_bare part (Some k) = refl

  share_at : Part → Option Share
  share_at part = option_map (λ (kept : KeptOf). record { header = kept.body.header; own = part.own }) (kept_at loads part.load)

  pub shares_bare : (parts : List Part) → shares_of (bare loads) parts ≡ shares_of loads parts
  unfolding share_at
  shares_bare [] = refl
  shares_bare (p ∷ ps) =
      ap (λ (o : Option Share). cons_option o (shares_of (bare loads) ps)) (ap (λ (o : Option KeptOf). option_map (λ (kept : KeptOf). record { header = kept.body.header; own = p.own }) o) (kept_bare p.load) ∙ share_bare p (kept_at loads p.load))
      ∙ ap (cons_option (share_at p)) (shares_bare ps)

  -- candidates stay candidates
  pub candidates_bare : (cell : Cell) (numbers : List ℕ) → All (λ number. IsTrue (is_candidate_at loads cell number)) numbers → All (λ number. IsTrue (is_candidate_at (bare loads) cell number)) numbers
  candidates_bare cell numbers all =
      All-weaker (λ number. IsTrue (is_candidate_at loads cell number)) (λ number. IsTrue (is_candidate_at (bare loads) cell number))
      (λ number told. ap (is_some_and (λ (kept : KeptOf). is_candidate kept cell)) (kept_bare number) ∙ by (kept_at loads number) told) numbers all
    where
      by : (o : Option KeptOf) → is_some_and (λ (kept : KeptOf). is_candidate kept cell) o ≡ true → is_some_and (λ (kept : KeptOf). is_candidate kept cell) (option_map bare_of o) ≡ true
      by None told = absurd (cc)
      by (Some k) told =
          let wide = (and_parts (header_covers k.body.header cell && list_any (λ column. not (names_column cell column.0)) k.body.header.columns) (is_live k.shut cell) told).0 in
          and_from (header_covers k.body.header cell && list_any (λ column. not (names_column cell column.0)) k.body.header.columns) (is_live [] cell) wide refl

  -- what is rolled up along a split, of a version that is newest
  abbrev RolledAlong : Aggregator → (ℕ → ℕ) → Cell → ℕ → List Offer → List Offer → Type 0
  RolledAlong a size cell split candidates offers =
      (r : IsRolled a size cell offers) × (r.split ≡ Some split) × All (λ offer. IsTrue (can_begin size cell candidates offer) → offer.version ≤ r.version) candidates

  -- so a plan of them is a plan
  pub planned_bare : (a : Aggregator) (size : ℕ → ℕ) (cell : Cell) (candidates : List ℕ) (plan : Plan) → IsPlanned a size cell (bare loads) candidates plan → IsPlanned a size cell loads candidates plan
  planned_bare a size cell candidates plan is =
      let parts : List ℕ = map (λ (part : Part). part.load) plan.parts in
      let here : RolledAlong a size cell plan.split (offers_at (bare loads) candidates) (offers_at (bare loads) parts) = (is.rolls.rolled, is.rolls.along, is.newest) in
      let moved : RolledAlong a size cell plan.split (offers_at loads candidates) (offers_at loads parts) =
      subst (λ (cs : List Offer). RolledAlong a size cell plan.split cs (offers_at loads parts)) (offers_bare candidates)
      (subst (λ (os : List Offer). RolledAlong a size cell plan.split (offers_at (bare loads) candidates) os) (offers_bare parts) here) in
      record {
        known = is.known;
        rolls = record {
          kept = ap length (sym (shares_bare plan.parts)) ∙ is.rolls.kept;
          rolled = moved.0;
          along = moved.1;
          made = subst (MakeCell size cell plan.split) (shares_bare plan.parts) is.rolls.made;
        };
        newest = moved.2;
        once = is.once;
        needed = is.needed;
      }

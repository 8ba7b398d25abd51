-- The candidates that a shelf tells of a cell.
use Rattle.std.proofs.Common.{◌≡◌, ◌∙◌, ℕ, true, List, Some, length, refl, sym, ap, eq-eqb}
use Rattle.std.specs.Prelude.{◌==◌, Contains, IsTrue, filter, option_map}
use Rattle.std.proofs.lemmas.Bool.{eqb-true}
use Rattle.std.proofs.lemmas.Option.{slice_get_read}
use Rattle.olap_meaning.proofs.Members.{All-from_member, any_member, member_any, member_map}
use Rattle.cache_flush.specs.Loads.{KeptOf, are_different, is_candidate, numbers_of}
use Rattle.cache_flush.proofs.Differing.{found_by}
use Rattle.rollup_plan.specs.Laws.{CandidatesAreKept}
use Rattle.rollup_plan.specs.Plans.{is_candidate_at, kept_at}
use Rattle.rollup_plan.proofs.KindFacts.{member_filter}

-- a kept load is that of its number
pub kept_by_number : (loads : List KeptOf) (kept : KeptOf) → are_different (numbers_of loads) ≡ true → Contains loads kept → kept_at loads kept.load ≡ Some kept
kept_by_number loads kept differ (k, inside, here) =
    let at = slice_get_read loads (length loads) k kept refl inside (sym here) in
    found_by (λ (one : KeptOf). one.load) loads k kept.load differ (ap (option_map (λ (one : KeptOf). one.load)) at) ∙ at

pub candidates_are_kept : (loads : List KeptOf) → are_different (numbers_of loads) ≡ true → CandidatesAreKept loads
candidates_are_kept loads differ cell numbers told = All-from_member (λ number. IsTrue (is_candidate_at loads cell number)) numbers each
  where
    each : (number : ℕ) → Contains numbers number → is_candidate_at loads cell number ≡ true
    each number held =
        let there = sym (told number) ∙ any_member (λ n. n == number) numbers number held (eq-eqb number number refl) in
        let found = member_any (λ n. n == number) (numbers_of (filter (λ kept. is_candidate kept cell) loads)) there in
        let kept = member_map (λ (kept : KeptOf). kept.load) (filter (λ kept. is_candidate kept cell) loads) found.0 found.1 in
        let passes = member_filter (λ kept. is_candidate kept cell) loads kept.0 kept.1 in
        let same : kept.0.load ≡ number = kept.2 ∙ eqb-true found.0 number found.2 in
        let at : kept_at loads number ≡ Some kept.0 = ap (kept_at loads) (sym same) ∙ kept_by_number loads kept.0 differ passes.0 in
        rw at passes.1

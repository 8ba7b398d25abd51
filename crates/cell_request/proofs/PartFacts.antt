-- What the parts of a query mean.
use Rattle.std.proofs.Common.{◌≡◌, ◌∙◌, ◌++◌, ◌*◌, ℕ, Bool, true, List, None, Ok, sym, ap, length, min, if◌then◌else◌}
use Rattle.std.proofs.lemmas.List.Elements.{All-append, All-same}
use Rattle.olap_meaning.specs.MemberOf.{IsLevelIn}
use Rattle.olap_meaning.specs.Results.{unless}
use Rattle.olap_meaning.specs.declared.cells.LevelRef.{LevelRef}
use Rattle.olap_meaning.specs.declared.cells.Member.{Member}
use Rattle.olap_meaning.specs.declared.tables.Catalog.{Catalog}
use Rattle.query_meaning.specs.Resolution.{Meaning, crossed, most_told, twice}
use Rattle.cell_request.specs.declared.parts.Part.{Part}
use Rattle.cell_request.specs.Parts.{crossing, part_meant, IsPartOf}
use Rattle.cell_request.specs.Plans.{listed, pairs_of, IsPlanOf}
use Rattle.cell_request.proofs.Counts.{capped_product, length_pairs}

-- two meanings of the same roots, openness and tuples
pub meant_so : {roots others : List LevelRef} {open_one open_other : Bool} {tuples more : List (List Member)} → roots ≡ others → open_one ≡ open_other → tuples ≡ more
    → ◌≡◌ {A = Meaning} (record { roots = roots; is_open = open_one; tuples = tuples }) (record { roots = others; is_open = open_other; tuples = more })
meant_so {roots} {others} {open_one} {open_other} {tuples} {more} e f g =
    ap (λ r. record { roots = r; is_open = open_one; tuples = tuples }) e
    ∙ ap (λ o. record { roots = others; is_open = o; tuples = tuples }) f
    ∙ ap (λ t. record { roots = others; is_open = open_other; tuples = t }) g

-- as many pairs as the product of two counts, as far as it is told
pub crossed_count : (catalog : Catalog) (cube : ℕ) (first second : Part) (count : ℕ) → IsPartOf catalog cube first → IsPartOf catalog cube second → count ≡ min (first.count * second.count) most_told → count ≡ min (length (pairs_of catalog cube first.plan second.plan)) most_told
crossed_count catalog cube first second count one other is =
    is
    ∙ ap (λ n. min (n * second.count) most_told) one.count
    ∙ ap (λ n. min (min (length (listed catalog cube first.plan)) most_told * n) most_told) other.count
    ∙ capped_product most_told (length (listed catalog cube first.plan)) (length (listed catalog cube second.plan))
    ∙ ap (λ n. min n most_told) (sym (length_pairs (listed catalog cube first.plan) (listed catalog cube second.plan)))

module _ (catalog : Catalog) (cube : ℕ) (first second part : Part) (roots : part.roots ≡ first.roots ++ second.roots) (tuples : listed catalog cube part.plan ≡ pairs_of catalog cube first.plan second.plan) where
  -- what a Crossjoin means
  pub crossing_is : part.is_open ≡ (if first.is_open then true else second.is_open) → twice catalog (first.roots ++ second.roots) ≡ None → crossing catalog (part_meant catalog cube first) (part_meant catalog cube second) ≡ Ok (part_meant catalog cube part)
  crossing_is is_open once =
      ap (λ o. unless o (Ok (crossed (part_meant catalog cube first) (part_meant catalog cube second)))) once
      ∙ ap (λ m. Ok m) (sym (meant_so roots is_open tuples))

  -- its roots, plan and count
  pub crossing_own : IsPartOf catalog cube first → IsPartOf catalog cube second → IsPlanOf catalog cube part.plan → part.count ≡ min (length (pairs_of catalog cube first.plan second.plan)) most_told → IsPartOf catalog cube part
  crossing_own one other plan count = record {
    roots = All-same (IsLevelIn catalog) part.roots (first.roots ++ second.roots) roots (All-append (IsLevelIn catalog) first.roots second.roots one.roots other.roots);
    plan = plan;
    count = count ∙ ap (λ ts. min (length ts) most_told) (sym tuples);
  }

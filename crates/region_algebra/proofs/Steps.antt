-- What each of some regions means, and that it is smaller than they are.
use Rattle.std.proofs.Common.{◌≡◌, ◌<◌, ℕ, zero, suc, arith, List, [], ◌∷◌, Ok, refl, ap, length, get_or}
use Rattle.olap_meaning.specs.declared.tables.Catalog.{Catalog}
use Rattle.olap_meaning.specs.Results.{◌>>=◌}
use Rattle.olap_meaning.proofs.Each.{each}
use Rattle.query_meaning.specs.RegionMeaning.{parts_meant, region_meant}
use Rattle.query_meaning.specs.RegionTree.{RegionTree, region_size, trees_of, trees_size}

-- what each of some regions means
pub parts_each : (catalog : Catalog) (cube : ℕ) (trees : List RegionTree) → parts_meant catalog cube (trees_of trees) ≡ each (region_meant catalog cube) trees
parts_each catalog cube [] = refl
parts_each catalog cube (tree ∷ trees) = ap (λ r. region_meant catalog cube tree >>= (λ region. r >>= (λ regions. Ok (region ∷ regions)))) (parts_each catalog cube trees)

-- a region is smaller than the regions that it is one of
pub one_smaller : (trees : List RegionTree) (i : ℕ) (tree : RegionTree) → i < length trees → tree ≡ get_or trees i tree → region_size tree < trees_size (trees_of trees)
one_smaller [] i tree within is = absurd (omega arith)
one_smaller (first ∷ trees) zero tree within is = omega (arith, ap region_size is)
one_smaller (first ∷ trees) (suc i) tree within is = omega (arith, one_smaller trees i tree (omega arith) is)

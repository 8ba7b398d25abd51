-- What each of some paths, and of the sets in braces, means.
use Rattle.std.proofs.Common.{◌≡◌, List, [], ◌∷◌, Result, Ok, Err, ℕ, refl, ap}
use Rattle.olap_meaning.specs.declared.tables.Catalog.{Catalog}
use Rattle.olap_meaning.specs.Results.{◌>>=◌}
use Rattle.olap_meaning.proofs.Each.{each}
use Rattle.query_meaning.specs.Resolution.{Item, Meaning, Refusal, begin_of, items_meant, member_meant, members_meant, set_meant}
use Rattle.query_meaning.specs.Tree.{Set, sets_of}

-- the members of some paths
pub members_each : (catalog : Catalog) (cube : ℕ) (paths : List (List (List ℕ))) → members_meant catalog cube paths ≡ each (member_meant catalog cube) paths
members_each catalog cube [] = refl
members_each catalog cube (path ∷ paths) = ap (λ r. member_meant catalog cube path >>= (λ first. r >>= (λ others. Ok (first ∷ others)))) (members_each catalog cube paths)

-- what an item in braces means
abbrev pub item_meant : Catalog → ℕ → Set → Result Item Refusal
item_meant catalog cube set = set_meant catalog cube set >>= (λ meant. Ok (record { at = begin_of set; meant = meant }))

-- the items of braces
pub items_each : (catalog : Catalog) (cube : ℕ) (sets : List Set) → items_meant catalog cube (sets_of sets) ≡ each (item_meant catalog cube) sets
items_each catalog cube [] = refl
items_each catalog cube (set ∷ sets) = by (set_meant catalog cube set) (items_each catalog cube sets)
  where
    by : (r : Result Meaning Refusal) → items_meant catalog cube (sets_of sets) ≡ each (item_meant catalog cube) sets
        → (r >>= (λ meant. items_meant catalog cube (sets_of sets) >>= (λ items. Ok (record { at = begin_of set; meant = meant } ∷ items))))
        ≡ ((r >>= (λ meant. Ok (record { at = begin_of set; meant = meant }))) >>= (λ y. each (item_meant catalog cube) sets >>= (λ ys. Ok (y ∷ ys))))
    by (Err e) same = refl
    by (Ok meant) same = ap (λ s. s >>= (λ items. Ok (record { at = begin_of set; meant = meant } ∷ items))) same

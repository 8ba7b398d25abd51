-- Roots: the same ones, and the first that repeats.
use Rattle.std.proofs.Common.{◌≡◌, ◌∙◌, ◌<◌, ◌+◌, ◌++◌, ℕ, suc, Bool, true, false, ◌&&◌, ◌||◌, List, [], ◌∷◌, Some, All, map, refl, sym, ap, length, drop, take, get_or, reverse, add-one, if◌then◌else◌, drop-cons}
use Rattle.std.specs.List.{list_any}
use Rattle.std.proofs.lemmas.List.{reverse-append, take_more}
use Rattle.std.proofs.lemmas.List.Folds.{list_any-append}
use Rattle.std.proofs.lemmas.List.Elements.{All-map, All-weaker}
use Rattle.std.proofs.Math.Bool.{and-false}
use Rattle.olap_meaning.specs.MemberOf.{IsLevelIn, IsMemberOf}
use Rattle.olap_meaning.specs.declared.cells.LevelRef.{LevelRef}
use Rattle.olap_meaning.specs.declared.cells.Member.{Member}
use Rattle.olap_meaning.specs.declared.cells.Member.TheVariants as member
use Rattle.olap_meaning.specs.declared.tables.Catalog.{Catalog}
use Rattle.olap_meaning.proofs.Lists.{or_swap}
use Rattle.query_meaning.specs.Resolution.{are_roots, is_root, repeat_after, root_of}

-- lists of roots that are not as long are not the same
pub uneven : (roots others : List LevelRef) → (length roots ≡ length others → ⊥) → false ≡ are_roots roots others
uneven [] [] h = absurd (h refl)
uneven [] (root ∷ others) h = refl
uneven (root ∷ roots) [] h = refl
uneven (root ∷ roots) (other ∷ others) h = sym (and-false (is_root root other)) ∙ ap (λ t. is_root root other && t) (uneven roots others (λ e. h (ap suc e)))

any_reverse : (p : LevelRef → Bool) (roots : List LevelRef) → list_any p (reverse roots) ≡ list_any p roots
any_reverse p [] = refl
any_reverse p (root ∷ roots) =
    ap (list_any p) (reverse-append (root ∷ []) roots)
    ∙ list_any-append p (reverse roots) (root ∷ [])
    ∙ or_swap (list_any p (reverse roots)) (p root)
    ∙ ap (λ b. p root || b) (any_reverse p roots)

module _ (roots : List LevelRef) (i : ℕ) (root : LevelRef) (within : i < length roots) (is : root ≡ get_or roots i root) where
  here : repeat_after (reverse (take i roots)) (drop i roots) ≡ repeat_after (reverse (take i roots)) (root ∷ drop (suc i) roots)
  here = ap (repeat_after (reverse (take i roots))) (drop-cons roots i root within ∙ ap (λ r. r ∷ drop (suc i) roots) (sym is))

  before : reverse (take (i + 1) roots) ≡ root ∷ reverse (take i roots)
  before = ap reverse (take_more roots i root within ∙ ap (λ r. take i roots ++ r ∷ []) (sym is)) ∙ reverse-append (take i roots) (root ∷ [])

  -- a root that is among those before it is the first that repeats
  pub repeats : list_any (is_root root) (take i roots) ≡ true → repeat_after (reverse (take i roots)) (drop i roots) ≡ Some root
  repeats among =
      here
      ∙ ap (λ b. if b then Some root else repeat_after (root ∷ reverse (take i roots)) (drop (suc i) roots)) (any_reverse (is_root root) (take i roots) ∙ among)

  -- and any other is passed
  pub passes : list_any (is_root root) (take i roots) ≡ false → repeat_after (reverse (take i roots)) (drop i roots) ≡ repeat_after (reverse (take (i + 1) roots)) (drop (i + 1) roots)
  passes among =
      here
      ∙ ap (λ b. if b then Some root else repeat_after (root ∷ reverse (take i roots)) (drop (suc i) roots)) (any_reverse (is_root root) (take i roots) ∙ among)
      ∙ ap (λ r. repeat_after r (drop (suc i) roots)) (sym before)
      ∙ ap (λ n. repeat_after (reverse (take (i + 1) roots)) (drop n roots)) (sym (add-one i))

root_own : (catalog : Catalog) (cube : ℕ) (m : Member) → IsMemberOf catalog cube m → IsLevelIn catalog (root_of m)
root_own catalog cube (member.Measure m) own = tt
root_own catalog cube (member.All h) own = own.0
root_own catalog cube (member.At h path) own = own.0

-- the roots of a cube's members are the catalog's
pub roots_own : (catalog : Catalog) (cube : ℕ) (members : List Member) → All (IsMemberOf catalog cube) members → All (IsLevelIn catalog) (map root_of members)
roots_own catalog cube members own = All-map (IsLevelIn catalog) root_of members (All-weaker (IsMemberOf catalog cube) (λ m. IsLevelIn catalog (root_of m)) (root_own catalog cube) members own)

-- What a header allows in a column that a search found.
use Rattle.std.proofs.Common.{◌≡◌, ◌∙◌, ◌<◌, ℕ, Bool, true, false, not, List, [], ◌∷◌, Ok, Err, length, map, get_or, refl, sym, ap, eq-eqb, inl, inr}
use Rattle.std.specs.Prelude.{◌==◌, ◌&&◌, ◌||◌, Contains}
use Rattle.std.specs.List.{list_all, list_any}
use Rattle.std.specs.List.Sorted.{IsBinarySearchResult}
use Rattle.std.specs.Ordering.{nat_cmp}
use Rattle.std.proofs.lemmas.Bool.{and_parts, cases_Bool, eqb-true}
use Rattle.olap_meaning.specs.declared.cells.Allowed.{Allowed}
use Rattle.olap_meaning.specs.Covering.{allows}
use Rattle.olap_meaning.specs.Legal.{rise}
use Rattle.olap_meaning.specs.Rolled.{is_any}
use Rattle.olap_meaning.proofs.Members.{any_member, member_map}
use Rattle.segment_header.specs.Headers.{are_columns}
use Rattle.segment_header.proofs.RiseFacts.{found_key, key_here, key_told, search_found, search_missed}

all_is_none : {X : Type 0} (p : X → Bool) (xs : List X) → list_all p xs ≡ not (list_any (λ x. not (p x)) xs)
all_is_none p [] = refl
all_is_none p (x ∷ xs) =
    elim (cases_Bool (p x)) [ inl passes ↦ rw (passes, all_is_none p xs) refl | inr fails ↦ rw fails refl ]

module _ (columns : List (ℕ × Allowed)) (column : ℕ) (formed : are_columns columns ≡ true) where
  rising : rise (map (λ own. own.0) columns) ≡ true
  rising = (and_parts (rise (map (λ own. own.0) columns)) _ formed).0

  -- a column that is there is found
  pub not_missed : (i : ℕ) → Contains (map (λ own. own.0) columns) column → IsBinarySearchResult (λ own. nat_cmp own.0 column) columns (Err i) → ⊥
  not_missed i held missed =
      let own = member_map (λ (own : ℕ × Allowed). own.0) columns column held in
      let none = search_missed (λ own. own.0) column (λ own. own.0 == column) (λ own. eqb-true own.0 column) columns i rising missed in
      let some = any_member (λ (own : ℕ × Allowed). own.0 == column) columns own.0 own.1 (eq-eqb own.0.0 column own.2) in
      let e = sym none ∙ some in cc

  module _ (i : ℕ) (d : ℕ × Allowed) (inside : i < length columns) (found : IsBinarySearchResult (λ own. nat_cmp own.0 column) columns (Ok i)) where
    here : (get_or columns i d).0 ≡ column
    here = found_key _ _ (found d)

    pub found_allows : (value : ℕ) → allows (get_or columns i d).1 value ≡ list_any (λ own. (own.0 == column) && allows own.1 value) columns
    found_allows value =
        sym (search_found (λ own. own.0) column (λ own. (own.0 == column) && allows own.1 value) (λ own. key_told _ _ _) columns i d rising inside found ∙ key_here _ _ _ here)

    pub found_open : is_any (get_or columns i d).1 ≡ list_all (λ own. not (own.0 == column) || is_any own.1) columns
    found_open =
        let told = search_found (λ own. own.0) column (λ own. not (not (own.0 == column) || is_any own.1)) (λ own. only_here own.0 (is_any own.1)) columns i d rising inside found in
        sym (all_is_none (λ own. not (own.0 == column) || is_any own.1) columns ∙ ap not told ∙ at_here (get_or columns i d).0 (is_any (get_or columns i d).1) here)
      where
        only_here : (n : ℕ) (b : Bool) → not (not (n == column) || b) ≡ true → n ≡ column
        only_here n b passes =
            elim (cases_Bool (n == column)) [ inl same ↦ eqb-true n column same | inr other ↦ let e = rw other at passes in absurd (cc) ]

        not_twice : (b : Bool) → not (not b) ≡ b
        not_twice true = refl
        not_twice false = refl

        at_here : (n : ℕ) (b : Bool) → n ≡ column → not (not (not (n == column) || b)) ≡ b
        at_here n b same = rw (eq-eqb n column same) (not_twice b)

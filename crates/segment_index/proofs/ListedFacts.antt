-- Lists of kept loads by key, as loads come, are shut off, and go.
use Rattle.std.proofs.Common.{◌≡◌, ◌∙◌, ◌++◌, ℕ, Bool, true, false, not, List, [], ◌∷◌, Some, refl, sym, ap, subst, inl, inr, map, filter, Contains}
use Rattle.std.specs.Prelude.{◌==◌, ◌&&◌, ◌||◌, ◌⊎◌, All, nat_lt}
use Rattle.std.specs.List.{list_any}
use Rattle.std.specs.List.Sorted.{IsPermutation}
use Rattle.std.proofs.lemmas.Bool.{and_parts, cases_Bool, eq-eqb, eqb-true, or_right}
use Rattle.std.proofs.lemmas.List.Elements.{All-nil, All-cons, All-contains, All-push}
use Rattle.std.proofs.lemmas.List.Sorted.{All-permutation, IsPermutation-to_front, list_any-IsPermutation}
use Rattle.olap_meaning.specs.declared.cells.Header.{Header}
use Rattle.olap_meaning.specs.declared.regions.Region.{Region}
use Rattle.olap_meaning.specs.Covering.{among}
use Rattle.olap_meaning.proofs.Lists.{any_map, eq_turned}
use Rattle.olap_meaning.proofs.Members.{All-from_member, any_member, in_first, filter_member, in_rest, member_any, member_map}
use Rattle.cache_flush.specs.Loads.{IsGone, KeptOf, are_different, numbers_of, shut_off}
use Rattle.cache_flush.proofs.GoneFacts.{gone_more}
use Rattle.segment_index.specs.Grouping.{IsAdded, IsRemoved, loads_at}
use Rattle.segment_index.specs.Keeping.{AreListed, StandsUnder}
use Rattle.segment_index.specs.Search.{load_of}
use Rattle.segment_index.proofs.SearchFacts.{load_found}

abbrev Groups : Type 0
Groups = List (ℕ × (List ℕ × ℕ))

-- the loads of other numbers
abbrev pub others : ℕ → List KeptOf → List KeptOf
others n loads = filter (λ kept. not (kept.load == n)) loads

-- what holds of each load of another number
all_others : (Q : KeptOf → Type 0) (n : ℕ) (loads : List KeptOf) → ((kept : KeptOf) → Contains loads kept → (kept.load == n) ≡ false → Q kept) → All Q (others n loads)
all_others Q n [] each = All-nil Q
all_others Q n (k ∷ loads) each =
    let rest = all_others Q n loads (λ kept held. each kept (in_rest k loads kept held)) in
    elim (cases_Bool (k.load == n)) [
      | inl same ↦ rw same rest
      | inr other ↦ rw other (All-cons Q k (others n loads) (each k (in_first k loads) other) rest)
    ]

-- a load of another number is one of the others
in_others : (n : ℕ) (loads : List KeptOf) (p : KeptOf → Bool) (kept : KeptOf) → Contains loads kept → (kept.load == n) ≡ false → p kept ≡ true → list_any p (others n loads) ≡ true
in_others n loads p kept held other passes = any_member p (others n loads) kept (there loads held) passes
  where
    there : (loads : List KeptOf) → Contains loads kept → Contains (others n loads) kept
    there loads held = filter_member (λ kept. not (kept.load == n)) loads kept held (rw other refl)

module _ (sizes : ℕ → ℕ) (count : Header → ℕ → ℕ) where
  -- a load has a key and a number
  abbrev Has : ℕ → ℕ → KeptOf → Bool
  Has q number kept = nat_lt 0 (count kept.body.header q) && (kept.load == number)

  abbrev pub Stands : Groups → KeptOf → Type 0
  Stands groups kept = IsGone sizes kept ⊎ StandsUnder count groups kept

  -- no load
  pub listed_none : (groups : Groups) → ((q : ℕ) → loads_at groups q ≡ []) → AreListed sizes count groups []
  listed_none groups none = record {
    whole = All-nil (Stands groups);
    just = λ q number listed. absurd (let nothing : among [] number ≡ true = rw (none q) at listed in cc);
  }

  -- the same numbers under each key
  pub listed_still : (groups after : Groups) (loads : List KeptOf) → ((q : ℕ) → loads_at after q ≡ loads_at groups q) → AreListed sizes count groups loads → AreListed sizes count after loads
  listed_still groups after loads same listed = record {
    whole = All-from_member (Stands after) loads (λ kept held.
        elim (All-contains (Stands groups) loads kept listed.whole held) [
          | inl gone ↦ inl gone
          | inr stands ↦ inr (λ q has. rw (same q) (stands q has))
        ]);
    just = λ q number there. listed.just q number (rw (same q) at there);
  }

  stands_shut : (groups : Groups) (region : Region) (kept : KeptOf) → Stands groups kept → Stands groups (shut_off region kept)
  stands_shut groups region kept (inl gone) = inl (gone_more sizes region kept gone)
  stands_shut groups region kept (inr stands) = inr stands

  -- a region is flushed
  pub listed_shut : (groups : Groups) (region : Region) (loads : List KeptOf) → AreListed sizes count groups loads → AreListed sizes count groups (map (shut_off region) loads)
  listed_shut groups region loads listed = record {
    whole = All-from_member (Stands groups) (map (shut_off region) loads) (λ kept held.
        let (before, there, is) = member_map (shut_off region) loads kept held in
        subst (Stands groups) is (stands_shut groups region before (All-contains (Stands groups) loads before listed.whole there)));
    just = λ q number there. any_map (Has q number) (shut_off region) loads ∙ listed.just q number there;
  }

  -- the loads in another order
  pub listed_moved : (groups : Groups) (loads moved : List KeptOf) → IsPermutation loads moved → AreListed sizes count groups loads → AreListed sizes count groups moved
  listed_moved groups loads moved permuted listed = record {
    whole = All-permutation (Stands groups) loads moved permuted listed.whole;
    just = λ q number there. sym (list_any-IsPermutation (Has q number) loads moved permuted) ∙ listed.just q number there;
  }

  -- a load is put in
  pub listed_more : (groups after : Groups) (loads : List KeptOf) (kept : KeptOf) → IsAdded (count kept.body.header) kept.load groups after → AreListed sizes count groups loads → AreListed sizes count after (loads ++ kept ∷ [])
  listed_more groups after loads kept added listed = record {
    whole = All-push (Stands after) loads kept
        (All-from_member (Stands after) loads (λ other held.
        elim (All-contains (Stands groups) loads other listed.whole held) [
          | inl gone ↦ inl gone
          | inr stands ↦ inr (λ q has. added.loads q other.load ∙ or_right (nat_lt 0 (count kept.body.header q) && (kept.load == other.load)) (among (loads_at groups q) other.load) (stands q has))
        ]))
        (inr (λ q has. added.loads q kept.load ∙ rw (has, eq-eqb kept.load kept.load refl) refl));
    just = λ q number there. list_any-IsPermutation (Has q number) (loads ++ kept ∷ []) (kept ∷ loads) (IsPermutation-to_front loads kept) ∙ by q number (sym (added.loads q number) ∙ there);
  }
    where
      by : (q number : ℕ) → (Has q number kept || among (loads_at groups q) number) ≡ true → (Has q number kept || list_any (Has q number) loads) ≡ true
      by q number either =
          elim (cases_Bool (Has q number kept)) [
            | inl has ↦ rw has refl
            | inr none ↦ rw none (listed.just q number (rw none at either))
          ]

  -- a number that is not taken out still stands
  stands_still : (groups after : Groups) (n : ℕ) (header : Header) (q number : ℕ) → IsRemoved (count header) n groups after → (number == n) ≡ false → among (loads_at groups q) number ≡ true → among (loads_at after q) number ≡ true
  stands_still groups after n header q number removed other there =
      let apart : (n == number) ≡ false = eq_turned n number ∙ other in
      removed.loads q number ∙ rw (apart, there) (elim (cases_Bool (nat_lt 0 (count header q))) [ inl has ↦ rw has refl | inr none ↦ rw none refl ])

  -- what stands stood before
  stood : (groups after : Groups) (n : ℕ) (header : Header) (q number : ℕ) → IsRemoved (count header) n groups after → among (loads_at after q) number ≡ true → ((not (nat_lt 0 (count header q) && (n == number))) ≡ true) × (among (loads_at groups q) number ≡ true)
  stood groups after n header q number removed there = and_parts (not (nat_lt 0 (count header q) && (n == number))) (among (loads_at groups q) number) (sym (removed.loads q number) ∙ there)

  module _ (groups after : Groups) (loads : List KeptOf) (n : ℕ) (kept : KeptOf) (differ : are_different (numbers_of loads) ≡ true) (found : load_of loads n ≡ Some kept)
      (removed : IsRemoved (count kept.body.header) n groups after) (listed : AreListed sizes count groups loads) where
    -- the load with the number is the one that was found
    is_found : (other : KeptOf) → Contains loads other → (other.load == n) ≡ true → other ≡ kept
    is_found other held same =
        let e : other.load ≡ n = eqb-true other.load n same in
        let at : load_of loads n ≡ Some other = ap (load_of loads) (sym e) ∙ load_found loads other differ held in
        let both : Some other ≡ Some kept = sym at ∙ found in
        cc

    -- a load is taken out
    pub listed_left : (left : List KeptOf) → IsPermutation (others n loads) left → AreListed sizes count after left
    listed_left left permuted = listed_moved after (others n loads) left permuted (record {
      whole = all_others (Stands after) n loads (λ other held apart.
          elim (All-contains (Stands groups) loads other listed.whole held) [
            | inl gone ↦ inl gone
            | inr stands ↦ inr (λ q has. stands_still groups after n kept.body.header q other.load removed apart (stands q has))
          ]);
      just = λ q number there.
          let (away, before) = stood groups after n kept.body.header q number removed there in
          let (other, held, has) = member_any (Has q number) loads (listed.just q number before) in
          let parts = and_parts (nat_lt 0 (count other.body.header q)) (other.load == number) has in
          elim (cases_Bool (other.load == n)) [
            | inl same ↦
                let is : other ≡ kept = is_found other held same in
                let number_is : other.load ≡ number = eqb-true other.load number parts.1 in
                let n_is : other.load ≡ n = eqb-true other.load n same in
                let under : nat_lt 0 (count kept.body.header q) ≡ true = rw is at parts.0 in
                let equal : (n == number) ≡ true = eq-eqb n number (sym n_is ∙ number_is) in
                absurd (let none : not (true && true) ≡ true = rw (under, equal) at away in cc)
            | inr apart ↦ in_others n loads (Has q number) other held apart has
          ];
    })

    -- a load that serves no cell any more leaves the lists
    pub listed_gone : IsGone sizes kept → AreListed sizes count after loads
    listed_gone gone = record {
      whole = All-from_member (Stands after) loads (λ other held.
          elim (cases_Bool (other.load == n)) [
            | inl same ↦ inl (rw (is_found other held same) gone)
            | inr apart ↦ elim (All-contains (Stands groups) loads other listed.whole held) [
              | inl before ↦ inl before
              | inr stands ↦ inr (λ q has. stands_still groups after n kept.body.header q other.load removed apart (stands q has))
            ]
          ]);
      just = λ q number there. listed.just q number (stood groups after n kept.body.header q number removed there).1;
    }

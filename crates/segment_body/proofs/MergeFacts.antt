-- Rows of the same values, added at once.
use Rattle.std.proofs.Common.{◌≡◌, ◌∙◌, ◌<◌, ◌≤◌, ℕ, zero, suc, ◌+◌, ℤ, false, List, [], ◌∷◌, ◌++◌, Option, Some, length, map, set, get_or, append_assoc, length-append, refl, sym, ap, subst, arith, inl, inr, bytes_eq}
use Rattle.std.specs.Prelude.{All, IsTrue, slice_get}
use Rattle.std.specs.List.{list_any}
use Rattle.std.proofs.lemmas.List.{append-nil, get_or_default, get_or-set_same, length-map, length-set}
use Rattle.std.proofs.lemmas.List.Elements.{All-weaker}
use Rattle.std.proofs.lemmas.List.Concat.{flat_map-append}
use Rattle.std.proofs.Math.Seq.{get_or-append_seam, set-append_seam}
use Rattle.std.proofs.lemmas.Option.{slice_get_within}
use Rattle.olap_meaning.specs.declared.Aggregator.{Aggregator}
use Rattle.olap_meaning.specs.declared.TheConstants.{ROW_LIMIT}
use Rattle.olap_meaning.specs.declared.cells.Header.{Header}
use Rattle.segment_header.specs.Headers.{are_allowed}
use Rattle.segment_body.specs.declared.group.Block.{Block}
use Rattle.segment_body.specs.Groups.{Group, group, values_of, rows_of, with_number, with_numbers, placed_in, groups_of, AreHeld, IsAdded, IsMerged}
use Rattle.segment_body.proofs.GroupFacts.{HeldMore, added, groups_fit, values_at}

-- the later of two writes at one place stays
set_twice : {X : Type 0} (xs : List X) (i : ℕ) (x y : X) → set (set xs i x) i y ≡ set xs i y
set_twice [] i x y = refl
set_twice (z ∷ zs) zero x y = refl
set_twice (z ∷ zs) (suc i) x y = ap (λ (rest : List _). z ∷ rest) (set_twice zs i x y)

-- a first number is added, and then the others
pub record Between (a : Aggregator) (values : List ℕ) (n m : Option ℤ) (ns : List (Option ℤ)) (old new : List Group) (place : ℕ) : Type 0 where
  pub middle : List Group
  pub first : IsAdded a values n old middle place
  pub rest : IsMerged a values (m ∷ ns) middle new place

module _ (a : Aggregator) (values : List ℕ) (n m : Option ℤ) (ns : List (Option ℤ)) (old new : List Group) (place : ℕ) where
  between_there : slice_get (values_of old) place ≡ Some values → ((d : Group) → new ≡ set old place (with_numbers (get_or old place d) (n ∷ m ∷ ns))) → Between a values n m ns old new place
  between_there at changed =
      let base : Group = group values (record { aggregator = a; values = [] }) in
      let g : Group = get_or old place base in
      let inside = inside_of old at in
      let next : Group = with_number g n in
      let middle : List Group = set old place next in
      let within : place < length middle = rw length-set inside in
      let named : g.values ≡ values = some_same (sym (values_at old place base inside) ∙ at) in
      record {
        middle = middle;
        first = inl (at, λ d. ap (λ (h : Group). set old place (with_number h n)) (get_or_default old place base d inside));
        rest = inl (
          values_at middle place base within ∙ ap (λ (h : Group). Some h.values) (get_or-set_same old place next base inside) ∙ ap (λ (v : List ℕ). Some v) named,
          λ d. changed base ∙ sym (ap (λ (h : Group). set middle place (with_numbers h (m ∷ ns))) (get_or-set_same old place next d inside) ∙ set_twice old place next (with_numbers next (m ∷ ns)) ∙ ap (λ (vs : List (Option ℤ)). set old place (group g.values (record { aggregator = g.tally.aggregator; values = vs }))) (append_assoc g.tally.values (n ∷ []) (m ∷ ns))),
        );
      }
    where
      some_same : {v : List ℕ} → Some v ≡ Some values → v ≡ values
      some_same e = cc

      inside_of : (gs : List Group) → slice_get (values_of gs) place ≡ Some values → place < length gs
      inside_of gs at = let below = slice_get_within (values_of gs) place values at in omega (arith, length-map gs (λ (h : Group). h.values))

  between_new : list_any (bytes_eq values) (values_of old) ≡ false → place ≡ length old → new ≡ old ++ group values (record { aggregator = a; values = n ∷ m ∷ ns }) ∷ [] → Between a values n m ns old new place
  between_new none last changed =
      let one : Group = group values (record { aggregator = a; values = n ∷ [] }) in
      let middle : List Group = old ++ one ∷ [] in
      let within : place < length middle = omega (arith, length-append old (one ∷ [])) in
      let at : (d : Group) → get_or middle place d ≡ one = λ d. rw last (get_or-append_seam old one [] d) in
      record {
        middle = middle;
        first = inr (none, last, refl);
        rest = inl (
          values_at middle place one within ∙ ap (λ (h : Group). Some h.values) (at one),
          λ d. changed ∙ sym (ap (λ (h : Group). set middle place (with_numbers h (m ∷ ns))) (at d) ∙ ap (λ (i : ℕ). set middle i (with_numbers one (m ∷ ns))) last ∙ set-append_seam old one [] (with_numbers one (m ∷ ns))),
        );
      }

  between : IsMerged a values (n ∷ m ∷ ns) old new place → Between a values n m ns old new place
  between (inl there) = between_there there.0 there.1
  between (inr fresh) = between_new fresh.0 fresh.1 fresh.2

-- what is held with rows more of the same values
pub merged : (h : Header) (a : Aggregator) (values : List ℕ) (place : ℕ) (new : List Group) (n : Option ℤ) (ns : List (Option ℤ)) (groups : List Group) (places : List (ℕ × Option ℤ))
    → AreHeld h a groups places (rows_of groups places) → IsMerged a values (n ∷ ns) groups new place → IsTrue (are_allowed h values) → length (rows_of groups places) + length (n ∷ ns) ≤ ROW_LIMIT
    → HeldMore h a new (places ++ map (λ m. (place, m)) (n ∷ ns)) (rows_of groups places ++ map (λ m. (values, m)) (n ∷ ns))
merged h a values place new n [] groups places held is allowed room = added h a groups places held values n new place is allowed (omega (arith, room))
merged h a values place new n (m ∷ ns) groups places held is allowed room =
    let two = between a values n m ns groups new place is in
    let one = added h a groups places held values n two.middle place two.first allowed (omega (arith, room)) in
    let held_one : AreHeld h a two.middle (places ++ (place, n) ∷ []) (rows_of two.middle (places ++ (place, n) ∷ [])) = subst (AreHeld h a two.middle (places ++ (place, n) ∷ [])) (sym one.rows_are) one.held in
    let long : length (rows_of two.middle (places ++ (place, n) ∷ [])) ≡ length (rows_of groups places) + 1 = ap length one.rows_are ∙ length-append (rows_of groups places) ((values, n) ∷ []) in
    let rest = merged h a values place new m ns two.middle (places ++ (place, n) ∷ []) held_one two.rest allowed (omega (arith, room, long)) in
    let at_places : (places ++ (place, n) ∷ []) ++ map (λ k. (place, k)) (m ∷ ns) ≡ places ++ map (λ k. (place, k)) (n ∷ m ∷ ns) = append_assoc places ((place, n) ∷ []) (map (λ k. (place, k)) (m ∷ ns)) in
    let at_rows : rows_of two.middle (places ++ (place, n) ∷ []) ++ map (λ k. (values, k)) (m ∷ ns) ≡ rows_of groups places ++ map (λ k. (values, k)) (n ∷ m ∷ ns) =
    ap (λ (rs : List (List ℕ × Option ℤ)). rs ++ map (λ k. (values, k)) (m ∷ ns)) one.rows_are ∙ append_assoc (rows_of groups places) ((values, n) ∷ []) (map (λ k. (values, k)) (m ∷ ns)) in
    subst (λ (rs : List (List ℕ × Option ℤ)). HeldMore h a new (places ++ map (λ k. (place, k)) (n ∷ m ∷ ns)) rs) at_rows
    (subst (λ (ps : List (ℕ × Option ℤ)). HeldMore h a new ps (rows_of two.middle (places ++ (place, n) ∷ []) ++ map (λ k. (values, k)) (m ∷ ns))) at_places rest)

-- a block more, of these numbers
pub placed_block : (blocks all : List Block) (block : Block) → all ≡ blocks ++ block ∷ [] → (ns : List (Option ℤ)) → block.numbers.items ≡ ns
    → placed_in all ≡ placed_in blocks ++ map (λ number. (block.place, number)) ns
placed_block blocks all block is ns are =
    ap placed_in is
    ∙ flat_map-append (λ (b : Block). map (λ number. (b.place, number)) b.numbers.items) blocks (block ∷ [])
    ∙ ap (λ (ps : List (ℕ × Option ℤ)). placed_in blocks ++ ps) (append-nil (map (λ number. (block.place, number)) block.numbers.items))
    ∙ ap (λ (ms : List (Option ℤ)). placed_in blocks ++ map (λ number. (block.place, number)) ms) are

-- the rows of a tally that is not empty
pub merged_all : (h : Header) (a : Aggregator) (values : List ℕ) (place : ℕ) (new : List Group) (numbers : List (Option ℤ)) (groups : List Group) (places : List (ℕ × Option ℤ))
    → (length numbers ≡ 0 → ⊥) → AreHeld h a groups places (rows_of groups places) → IsMerged a values numbers groups new place → IsTrue (are_allowed h values) → length (rows_of groups places) + length numbers ≤ ROW_LIMIT
    → HeldMore h a new (places ++ map (λ m. (place, m)) numbers) (rows_of groups places ++ map (λ m. (values, m)) numbers)
merged_all h a values place new [] groups places some held is allowed room = absurd (some refl)
merged_all h a values place new (n ∷ ns) groups places some held is allowed room = merged h a values place new n ns groups places held is allowed room

-- each group has room for numbers that the rows have room for
pub groups_room : (a : Aggregator) (rows : List (List ℕ × Option ℤ)) (groups : List Group) (n : ℕ) → groups ≡ groups_of a rows → length rows + n ≤ ROW_LIMIT → All (λ group. length group.tally.values + n ≤ ROW_LIMIT) groups
groups_room a rows groups n grouped room =
    All-weaker (λ (g : Group). length g.tally.values < length rows + 1) (λ (g : Group). length g.tally.values + n ≤ ROW_LIMIT) (λ g few. omega arith) groups (groups_fit a rows groups (length rows + 1) grouped (omega arith))

-- The masks of columns: those of a header that covers a cell, beside the cell's.
use Rattle.std.proofs.Common.{◌≡◌, ◌≤◌, ◌^◌, ◌%◌, ℕ, true, List, [], ◌∷◌, map, fold, refl, sym, arith, inl, inr, true≢false, bit_and, min, max}
use Rattle.std.specs.Prelude.{◌==◌, ◌&&◌}
use Rattle.std.specs.Int.{bit_at}
use Rattle.std.specs.List.{list_any, list_all}
use Rattle.std.proofs.lemmas.Bool.{and_parts, cases_Bool, eqb-true}
use Rattle.std.proofs.lemmas.Nat.Bits.{bit_at_and, bit_at_or, same_from_bits}
use Rattle.olap_meaning.specs.declared.cells.Allowed.{Allowed}
use Rattle.olap_meaning.specs.declared.cells.Cell.{Cell}
use Rattle.olap_meaning.specs.declared.cells.Header.{Header}
use Rattle.olap_meaning.specs.Covering.{allows, among, header_covers, just_covers}
use Rattle.segment_header.specs.Masks.{cell_mask, header_mask, mask, with_column}

-- ---- bits

pub with_at : (m c i : ℕ) → bit_at (with_column m c) i ≡ max (bit_at m i) (bit_at (2 ^ (c % 64)) i)
with_at m c i = bit_at_or m (2 ^ (c % 64)) i

pub bits_kept : (xs : List ℕ) (m i : ℕ) → bit_at m i ≤ bit_at (fold with_column m xs) i
bits_kept [] m i = omega arith
bits_kept (x ∷ xs) m i =
    let e = with_at m x i in
    let rest = bits_kept xs (with_column m x) i in
    omega (arith, e, rest)

bit_of_member : (xs : List ℕ) (m c i : ℕ) → among xs c ≡ true → bit_at (2 ^ (c % 64)) i ≤ bit_at (fold with_column m xs) i
bit_of_member [] m c i h = absurd (true≢false (sym h))
bit_of_member (x ∷ xs) m c i h =
    elim (cases_Bool (x == c)) [
      | inl same ↦
          let is : x ≡ c = eqb-true x c same in
          let e : bit_at (with_column m c) i ≡ max (bit_at m i) (bit_at (2 ^ (c % 64)) i) = with_at m c i in
          let rest : bit_at (with_column m c) i ≤ bit_at (fold with_column (with_column m c) xs) i = bits_kept xs (with_column m c) i in
          let here : bit_at (2 ^ (c % 64)) i ≤ bit_at (fold with_column (with_column m c) xs) i = omega (arith, e, rest) in
          rw is here
      | inr other ↦ bit_of_member xs (with_column m x) c i (rw other at h)
    ]

bits_below : (ys : List ℕ) (xs : List ℕ) (m i : ℕ) → list_all (among xs) ys ≡ true → bit_at m i ≤ bit_at (mask xs) i → bit_at (fold with_column m ys) i ≤ bit_at (mask xs) i
bits_below [] xs m i all le = le
bits_below (y ∷ ys) xs m i all le =
    let parts = and_parts (among xs y) (list_all (among xs) ys) all in
    let e : bit_at (with_column m y) i ≡ max (bit_at m i) (bit_at (2 ^ (y % 64)) i) = with_at m y i in
    let here : bit_at (2 ^ (y % 64)) i ≤ bit_at (mask xs) i = bit_of_member xs 0 y i parts.0 in
    bits_below ys xs (with_column m y) i parts.1 (omega (arith, e, le, here))

bits_within : (xs ys : List ℕ) (i : ℕ) → list_all (among xs) ys ≡ true → bit_at (mask ys) i ≤ bit_at (mask xs) i
bits_within xs ys i all = bits_below ys xs 0 i all (bits_kept xs 0 i)

-- where each column is one of others, the mask of the others has all bits of its mask
mask_within : (xs ys : List ℕ) → list_all (among xs) ys ≡ true → bit_and (mask xs) (mask ys) ≡ mask ys
mask_within xs ys all =
    same_from_bits (bit_and (mask xs) (mask ys)) (mask ys) (λ i.
    let e : bit_at (bit_and (mask xs) (mask ys)) i ≡ min (bit_at (mask xs) i) (bit_at (mask ys) i) = bit_at_and (mask xs) (mask ys) i in
    let le : bit_at (mask ys) i ≤ bit_at (mask xs) i = bits_within xs ys i all in
    omega (arith, e, le))

-- the same columns have the same mask, in whatever order and however often
mask_same : (xs ys : List ℕ) → list_all (among xs) ys ≡ true → list_all (among ys) xs ≡ true → mask xs ≡ mask ys
mask_same xs ys all back =
    same_from_bits (mask xs) (mask ys) (λ i.
    let le : bit_at (mask ys) i ≤ bit_at (mask xs) i = bits_within xs ys i all in
    let ge : bit_at (mask xs) i ≤ bit_at (mask ys) i = bits_within ys xs i back in
    omega (arith, le, ge))

-- ---- columns

named_by : (cols : List (ℕ × Allowed)) (c v : ℕ) → list_any (λ column. (column.0 == c) && allows column.1 v) cols ≡ true → among (map (λ own. own.0) cols) c ≡ true
named_by [] c v h = absurd (true≢false (sym h))
named_by (o ∷ os) c v h =
    elim (cases_Bool (o.0 == c)) [
      | inl same ↦ rw same refl
      | inr other ↦ rw other (named_by os c v (rw other at h))
    ]

covered : (cols : List (ℕ × Allowed)) (at : List (ℕ × ℕ)) → list_all (λ pair. list_any (λ column. (column.0 == pair.0) && allows column.1 pair.1) cols) at ≡ true → list_all (among (map (λ own. own.0) cols)) (map (λ pair. pair.0) at) ≡ true
covered cols [] h = refl
covered cols (p ∷ ps) h =
    let a = and_parts (list_any (λ column. (column.0 == p.0) && allows column.1 p.1) cols) (list_all (λ pair. list_any (λ column. (column.0 == pair.0) && allows column.1 pair.1) cols) ps) h in
    rw (named_by cols p.0 p.1 a.0) (covered cols ps a.1)

named_in : (at : List (ℕ × ℕ)) (c : ℕ) → list_any (λ pair. pair.0 == c) at ≡ true → among (map (λ pair. pair.0) at) c ≡ true
named_in [] c h = h
named_in (p ∷ ps) c h =
    elim (cases_Bool (p.0 == c)) [
      | inl same ↦ rw same refl
      | inr other ↦ rw other (named_in ps c (rw other at h))
    ]

just : (at : List (ℕ × ℕ)) (cols : List (ℕ × Allowed)) → list_all (λ column. list_any (λ pair. pair.0 == column.0) at) cols ≡ true → list_all (among (map (λ pair. pair.0) at)) (map (λ own. own.0) cols) ≡ true
just at [] h = refl
just at (o ∷ os) h =
    let a = and_parts (list_any (λ pair. pair.0 == o.0) at) (list_all (λ column. list_any (λ pair. pair.0 == column.0) at) os) h in
    rw (named_in at o.0 a.0) (just at os a.1)

columns_of_cell : (header : Header) (cell : Cell) → header_covers header cell ≡ true → list_all (among (map (λ own. own.0) header.columns)) (map (λ pair. pair.0) cell.at) ≡ true
columns_of_cell header cell h =
    let parts = and_parts ((header.cube == cell.cube) && (header.measure == cell.measure)) (list_all (λ pair. list_any (λ column. (column.0 == pair.0) && allows column.1 pair.1) header.columns) cell.at) h in
    covered header.columns cell.at parts.1

-- a header that covers a cell has all bits of the cell's mask
pub cell_within : (header : Header) (cell : Cell) → header_covers header cell ≡ true → bit_and (header_mask header) (cell_mask cell) ≡ cell_mask cell
cell_within header cell h = mask_within (map (λ own. own.0) header.columns) (map (λ pair. pair.0) cell.at) (columns_of_cell header cell h)

-- a header that covers a cell with just the cell's columns has its mask
pub cell_same : (header : Header) (cell : Cell) → just_covers header cell ≡ true → header_mask header ≡ cell_mask cell
cell_same header cell h =
    let parts = and_parts (header_covers header cell) (list_all (λ column. list_any (λ pair. pair.0 == column.0) cell.at) header.columns) h in
    mask_same (map (λ own. own.0) header.columns) (map (λ pair. pair.0) cell.at) (columns_of_cell header cell parts.0) (just cell.at header.columns parts.1)

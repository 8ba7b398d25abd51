-- The masks under which loads stand, beside that of a cell for which they are candidates.
use Rattle.std.proofs.Common.{◌≡◌, ◌≢◌, ◌∙◌, ◌≤◌, ◌<◌, ◌%◌, ◌^◌, ℕ, Bool, true, false, not, List, [], ◌∷◌, fold, map, refl, sym, ap, arith, inl, inr, true≢false, bit_and, max, min, nat_eq}
use Rattle.std.specs.Prelude.{◌==◌, ◌&&◌, ◌||◌}
use Rattle.std.specs.Int.{bit_at}
use Rattle.std.specs.Int.Bits.{and_self}
use Rattle.std.specs.List.{list_all, list_any}
use Rattle.std.proofs.Math.Nat.{mod-eq_of_lt, mod-lt}
use Rattle.std.proofs.lemmas.Bool.{and_from, and_parts, cases_Bool, cases_lt, eq-eqb, eqb-true, leb-false, or_right}
use Rattle.std.proofs.lemmas.Nat.Bits.{bit_at-lt, bit_at-pow_other, bit_at-pow_same, bit_at-zero, bit_at_and, bit_at_ones, same_from_bits}
use Rattle.olap_meaning.specs.declared.cells.Allowed.{Allowed}
use Rattle.olap_meaning.specs.declared.cells.Cell.{Cell}
use Rattle.olap_meaning.specs.declared.cells.Header.{Header}
use Rattle.olap_meaning.specs.Covering.{allows, among, columns_of, header_covers, names_column}
use Rattle.segment_header.specs.Masks.{mask, with_column}
use Rattle.segment_header.proofs.MaskFacts.{bits_kept, cell_within, with_at}
use Rattle.segment_index.specs.declared.masks.TheConstants.{ALL_BITS}
use Rattle.segment_index.specs.Grouping.{is_above}
use Rattle.segment_index.specs.Masks.{cell_list_mask, goes_beyond, header_list_mask, is_beyond, list_mask}
use Rattle.segment_index.proofs.KeyFacts.{all_named}

-- ---- columns

-- a test of what each element is mapped to
pub any_mapped : {X Y : Type 0} (p : X → Bool) (h : Y → X) (ys : List Y) → list_any p (map h ys) ≡ list_any (λ y. p (h y)) ys
any_mapped p h [] = refl
any_mapped p h (y ∷ ys) = ap (λ b. p (h y) || b) (any_mapped p h ys)

-- each of some columns that do not go beyond has a bit of its own
in_range : (xs : List ℕ) (c : ℕ) → goes_beyond xs ≡ false → among xs c ≡ true → is_beyond c ≡ false
in_range [] c near h = absurd (true≢false (sym h))
in_range (x ∷ xs) c near h =
    elim (cases_Bool (is_beyond x)) [
      | inl over ↦ absurd (true≢false (rw over at near))
      | inr under ↦ elim (cases_Bool (x == c)) [
        | inl same ↦ ap is_beyond (sym (eqb-true x c same)) ∙ under
        | inr other ↦ in_range xs c (rw under at near) (rw other at h)
      ]
    ]

-- columns that are among some that do not go beyond do not
none_beyond : (xs ys : List ℕ) → list_all (among xs) ys ≡ true → goes_beyond xs ≡ false → goes_beyond ys ≡ false
none_beyond xs [] all near = refl
none_beyond xs (y ∷ ys) all near =
    let parts = and_parts (among xs y) (list_all (among xs) ys) all in
    rw (in_range xs y near parts.0) (none_beyond xs ys parts.1 near)

-- each column of a cell is one of a header's that covers it
cell_named : (header : Header) (cell : Cell) → header_covers header cell ≡ true → list_all (among (map (λ own. own.0) header.columns)) (columns_of cell) ≡ true
cell_named header cell covers =
    let parts = and_parts ((header.cube == cell.cube) && (header.measure == cell.measure)) (list_all (λ pair. list_any (λ column. (column.0 == pair.0) && allows column.1 pair.1) header.columns) cell.at) covers in
    all_named header.columns cell.at parts.1

-- a column that is not a cell's, of columns of which one is not
dropped : (columns : List (ℕ × Allowed)) (at : List (ℕ × ℕ)) → list_any (λ column. not (list_any (λ pair. pair.0 == column.0) at)) columns ≡ true
    → (c : ℕ) × (among (map (λ own. own.0) columns) c ≡ true) × (among (map (λ pair. pair.0) at) c ≡ false)
dropped [] at h = absurd (true≢false (sym h))
dropped (own ∷ columns) at h =
    let named = any_mapped (λ v. v == own.0) (λ pair. pair.0) at in
    elim (cases_Bool (list_any (λ pair. pair.0 == own.0) at)) [
      | inl there ↦
          let rest = dropped columns at (rw there at h) in
          (rest.0, or_right (own.0 == rest.0) (among (map (λ own. own.0) columns) rest.0) rest.1, rest.2)
      | inr gone ↦ (own.0, rw (eq-eqb own.0 own.0 refl) refl, named ∙ gone)
    ]

-- ---- bits

-- the mask of columns has the bit of one of them that has a bit of its own
has_bit : (xs : List ℕ) (m c : ℕ) → among xs c ≡ true → c < 64 → 1 ≤ bit_at (fold with_column m xs) c
has_bit [] m c h below = absurd (true≢false (sym h))
has_bit (x ∷ xs) m c h below =
    elim (cases_Bool (x == c)) [
      | inl same ↦
          let is : x ≡ c = eqb-true x c same in
          let own : bit_at (2 ^ (c % 64)) c ≡ 1 = rw (mod-eq_of_lt below) (bit_at-pow_same c) in
          let e : bit_at (with_column m c) c ≡ max (bit_at m c) (bit_at (2 ^ (c % 64)) c) = with_at m c c in
          let rest : bit_at (with_column m c) c ≤ bit_at (fold with_column (with_column m c) xs) c = bits_kept xs (with_column m c) c in
          let here : 1 ≤ bit_at (fold with_column (with_column m c) xs) c = omega (arith, own, e, rest) in
          rw is here
      | inr other ↦ has_bit xs (with_column m x) c (rw other at h) below
    ]

-- one bit is not set by the bit of another
still_none : (m c i : ℕ) → i ≢ c % 64 → bit_at m i ≡ 0 → bit_at (with_column m c) i ≡ 0
still_none m c i other none =
    let e : bit_at (with_column m c) i ≡ max (bit_at m i) (bit_at (2 ^ (c % 64)) i) = with_at m c i in
    let apart : bit_at (2 ^ (c % 64)) i ≡ 0 = bit_at-pow_other (c % 64) i other in
    omega (arith, e, apart, none)

-- the mask of columns that do not go beyond has not the bit of a column that is not among them
lacks_bit : (ys : List ℕ) (m c : ℕ) → goes_beyond ys ≡ false → among ys c ≡ false → bit_at m c ≡ 0 → bit_at (fold with_column m ys) c ≡ 0
lacks_bit [] m c near gone none = none
lacks_bit (y ∷ ys) m c near gone none =
    elim (cases_Bool (y == c)) [
      | inl same ↦ absurd (true≢false (rw same at gone))
      | inr other ↦ elim (cases_Bool (is_beyond y)) [
        | inl over ↦ absurd (true≢false (rw over at near))
        | inr under ↦
            let own : y % 64 ≡ y = mod-eq_of_lt (leb-false 64 y under) in
            let apart : c ≢ y % 64 = λ e. true≢false (sym (eq-eqb y c (sym (e ∙ own))) ∙ other) in
            lacks_bit ys (with_column m y) c (rw under at near) (rw other at gone) (still_none m y c apart none)
      ]
    ]

-- a mask has no bit from 64 on
no_high : (xs : List ℕ) (m i : ℕ) → 64 ≤ i → bit_at m i ≡ 0 → bit_at (fold with_column m xs) i ≡ 0
no_high [] m i above none = none
no_high (x ∷ xs) m i above none =
    let below : x % 64 < 64 = mod-lt x (omega arith) in
    let apart : i ≢ x % 64 = λ e. omega (arith, e, below, above) in
    no_high xs (with_column m x) i above (still_none m x i apart none)

-- all bits keep those of a number that has none from 64 on
all_keep : (m : ℕ) → ((i : ℕ) → 64 ≤ i → bit_at m i ≡ 0) → bit_and ALL_BITS m ≡ m
all_keep m none =
    same_from_bits (bit_and ALL_BITS m) m (λ i.
    let e : bit_at (bit_and ALL_BITS m) i ≡ min (bit_at ALL_BITS i) (bit_at m i) = bit_at_and ALL_BITS m i in
    elim (cases_lt i 64) [
      | inl below ↦
          let one : bit_at ALL_BITS i ≡ 1 = bit_at_ones 64 i below in
          let less : bit_at m i < 2 = bit_at-lt m i in
          omega (arith, e, one, less)
      | inr above ↦
          let high : bit_at m i ≡ 0 = none i above in
          omega (arith, e, high)
    ])

-- ---- the masks of a header and of a cell that it covers

-- a header that covers a cell has all bits of the cell's mask
mask_within : (header : Header) (cell : Cell) → header_covers header cell ≡ true → bit_and (header_list_mask header) (cell_list_mask cell) ≡ cell_list_mask cell
mask_within header cell covers =
    let xs = map (λ own. own.0) header.columns in
    let ys = columns_of cell in
    elim (cases_Bool (goes_beyond xs)) [
      | inl far ↦ elim (cases_Bool (goes_beyond ys)) [
        | inl over ↦ rw (far, over) (and_self ALL_BITS)
        | inr near ↦ rw (far, near) (all_keep (mask ys) (λ i above. no_high ys 0 i above (bit_at-zero i)))
      ]
      | inr near ↦
          let under = none_beyond xs ys (cell_named header cell covers) near in
          rw (near, under) (cell_within header cell covers)
    ]

-- columns of which one is not among others have another mask, except where that has all bits
same_is_all : (xs ys : List ℕ) (c : ℕ) → among xs c ≡ true → among ys c ≡ false → list_mask xs ≡ list_mask ys → list_mask ys ≡ ALL_BITS
same_is_all xs ys c here gone same =
    elim (cases_Bool (goes_beyond ys)) [
      | inl over ↦ rw over refl
      | inr under ↦ elim (cases_Bool (goes_beyond xs)) [
        | inl far ↦ let all : list_mask xs ≡ ALL_BITS = rw far refl in sym same ∙ all
        | inr near ↦
            let equal : mask xs ≡ mask ys = rw (near, under) at same in
            let one : 1 ≤ bit_at (mask xs) c = has_bit xs 0 c here (leb-false 64 c (in_range xs c near here)) in
            let none : bit_at (mask ys) c ≡ 0 = lacks_bit ys 0 c under gone (bit_at-zero c) in
            let both : bit_at (mask xs) c ≡ bit_at (mask ys) c = ap (λ m. bit_at m c) equal in
            absurd (omega (arith, one, none, both))
      ]
    ]

differs_or_all : (m n : ℕ) → (m ≡ n → n ≡ ALL_BITS) → (not (nat_eq m n) || nat_eq n ALL_BITS) ≡ true
differs_or_all m n all =
    elim (cases_Bool (nat_eq m n)) [
      | inl same ↦ or_right (not (nat_eq m n)) (nat_eq n ALL_BITS) (eq-eqb n ALL_BITS (all (eqb-true m n same)))
      | inr other ↦ rw other refl
    ]

-- the mask of a header that covers a cell, and has a column that the cell does not name, stands above the cell's
pub candidate_above : (header : Header) (cell : Cell) → header_covers header cell ≡ true → list_any (λ column. not (names_column cell column.0)) header.columns ≡ true → is_above (cell_list_mask cell) (header_list_mask header) ≡ true
candidate_above header cell covers drops =
    let m = header_list_mask header in
    let n = cell_list_mask cell in
    let (c, here, gone) = dropped header.columns cell.at drops in
    and_from (nat_eq (bit_and m n) n) (not (nat_eq m n) || nat_eq n ALL_BITS)
    (eq-eqb (bit_and m n) n (mask_within header cell covers))
    (differs_or_all m n (same_is_all (map (λ own. own.0) header.columns) (columns_of cell) c here gone))

-- Cells of a catalog have the same key exactly where they are alike: a mask tells the columns below 64.
use Rattle.std.proofs.Common.{◌≡◌, ◌≤◌, ◌<◌, ◌^◌, ◌%◌, ◌∙◌, ℕ, List, [], ◌∷◌, length, map, fold, refl, sym, ap, arith, inl, inr, Bool, true, false, ◌&&◌, ◌==◌, nat_eq}
use Rattle.std.specs.Prelude.{nat_lt}
use Rattle.std.specs.Int.{bit_at}
use Rattle.std.specs.List.{list_all}
use Rattle.std.proofs.lemmas.Bool.{and_from, and_parts, cases_Bool, eq-eqb, eqb-true, ltb-true, or_cases, or_left, or_right}
use Rattle.std.proofs.lemmas.Nat.Bits.{bit_at-pow_other, bit_at-pow_same, bit_at-zero}
use Rattle.olap_meaning.specs.declared.cells.Cell.{Cell}
use Rattle.olap_meaning.specs.declared.tables.Catalog.{Catalog}
use Rattle.olap_meaning.specs.Covering.{among, columns_of}
use Rattle.olap_meaning.specs.Legal.{is_cell, is_value, rise}
use Rattle.olap_meaning.proofs.Lists.{same_bool}
use Rattle.list_orders.proofs.Rising.{same_rising}
use Rattle.history_core.specs.Groups.{alike}
use Rattle.segment_header.specs.Masks.{mask, with_column}
use Rattle.segment_header.proofs.MaskFacts.{bits_kept, with_at}
use Rattle.cell_groups.specs.Keys.{key_of}
use Rattle.cell_groups.proofs.Alike.{alike_from, alike_told}

-- keys are equal
abbrev pub key_eq : ℕ × ℕ × ℕ → ℕ × ℕ × ℕ → Bool
key_eq one other = nat_eq one.0 other.0 && (nat_eq one.1 other.1 && nat_eq one.2 other.2)

-- columns are below 64
abbrev are_below_64 : List ℕ → Bool
are_below_64 columns = list_all (λ column. nat_lt column 64) columns

-- ---- bits

own_bit : (m c : ℕ) → c < 64 → 1 ≤ bit_at (with_column m c) c
own_bit m c l =
    let e = with_at m c c in
    let small : c % 64 ≡ c = omega (arith, l) in
    let one : bit_at (2 ^ (c % 64)) c ≡ 1 = rw small (bit_at-pow_same c) in
    omega (arith, e, one)

-- a column has its bit
bit_of_column : (xs : List ℕ) (m c : ℕ) → c < 64 → among xs c ≡ true → 1 ≤ bit_at (fold with_column m xs) c
bit_of_column [] m c l h = absurd (cc)
bit_of_column (x ∷ xs) m c l h =
    elim (or_cases (x == c) (among xs c) h) [
      | inl same ↦
          let is : x ≡ c = eqb-true x c same in
          let here = own_bit m c l in
          let rest = bits_kept xs (with_column m c) c in
          let there : 1 ≤ bit_at (fold with_column (with_column m c) xs) c = omega (arith, here, rest) in
          rw is there
      | inr later ↦ bit_of_column xs (with_column m x) c l later
    ]

other_bit : (m x c : ℕ) → x < 64 → (x == c) ≡ false → bit_at (with_column m x) c ≡ bit_at m c
other_bit m x c l apart =
    let e = with_at m x c in
    let small : x % 64 ≡ x = omega (arith, l) in
    let none : bit_at (2 ^ (x % 64)) c ≡ 0 = rw small (bit_at-pow_other x c (λ same. let h : (x == c) ≡ true = eq-eqb x c (sym same) in cc)) in
    omega (arith, e, none)

-- and a bit has its column
column_of_bit : (xs : List ℕ) (m c : ℕ) → are_below_64 xs ≡ true → bit_at m c ≡ 0 → 1 ≤ bit_at (fold with_column m xs) c → among xs c ≡ true
column_of_bit [] m c below none h = absurd (omega (arith, none, h))
column_of_bit (x ∷ xs) m c below none h =
    let parts = and_parts (nat_lt x 64) (are_below_64 xs) below in
    elim (cases_Bool (x == c)) [
      | inl same ↦ or_left (x == c) (among xs c) same
      | inr other ↦ or_right (x == c) (among xs c) (column_of_bit xs (with_column m x) c parts.1 (other_bit m x c (ltb-true x 64 parts.0) other ∙ none) h)
    ]

below_of : (xs : List ℕ) (c : ℕ) → are_below_64 xs ≡ true → among xs c ≡ true → c < 64
below_of [] c below h = absurd (cc)
below_of (x ∷ xs) c below h =
    let parts = and_parts (nat_lt x 64) (are_below_64 xs) below in
    elim (or_cases (x == c) (among xs c) h) [
      | inl same ↦ let is : x ≡ c = eqb-true x c same in let l : x < 64 = ltb-true x 64 parts.0 in omega (arith, is, l)
      | inr later ↦ below_of xs c parts.1 later
    ]

all_among : (xs ys zs : List ℕ) → are_below_64 ys ≡ true → are_below_64 zs ≡ true → mask zs ≡ mask ys → list_all (among zs) xs ≡ true → list_all (among ys) xs ≡ true
all_among [] ys zs below also same h = refl
all_among (x ∷ xs) ys zs below also same h =
    let parts = and_parts (among zs x) (list_all (among zs) xs) h in
    let bit : 1 ≤ bit_at (mask zs) x = bit_of_column zs 0 x (below_of zs x also parts.0) parts.0 in
    let there : 1 ≤ bit_at (mask ys) x = rw (← same) bit in
    and_from (among ys x) (list_all (among ys) xs) (column_of_bit ys 0 x below (bit_at-zero x) there) (all_among xs ys zs below also same parts.1)

own_among : (xs ys : List ℕ) → list_all (among (ys)) xs ≡ true → (y : ℕ) → list_all (among (y ∷ ys)) xs ≡ true
own_among [] ys h y = refl
own_among (x ∷ xs) ys h y =
    let parts = and_parts (among ys x) (list_all (among ys) xs) h in
    and_from (among (y ∷ ys) x) (list_all (among (y ∷ ys)) xs) (or_right (y == x) (among ys x) parts.0) (own_among xs ys parts.1 y)

each_among : (xs : List ℕ) → list_all (among xs) xs ≡ true
each_among [] = refl
each_among (x ∷ xs) = and_from (among (x ∷ xs) x) (list_all (among (x ∷ xs)) xs) (or_left (x == x) (among xs x) (eq-eqb x x refl)) (own_among xs xs (each_among xs) x)

-- rising columns below 64 with the same mask are the same
mask_tells : (xs ys : List ℕ) → rise xs ≡ true → rise ys ≡ true → are_below_64 xs ≡ true → are_below_64 ys ≡ true → mask xs ≡ mask ys → xs ≡ ys
mask_tells xs ys up over low below same =
    same_rising xs ys up over (all_among xs ys xs below low same (each_among xs)) (all_among ys xs ys low below (sym same) (each_among ys))

-- ---- cells of a catalog

columns_below : (catalog : Catalog) (at : List (ℕ × ℕ)) → length catalog.columns ≤ 64 → list_all (λ pair. nat_lt pair.0 (length catalog.columns) && is_value catalog pair.0 pair.1) at ≡ true → are_below_64 (map (λ pair. pair.0) at) ≡ true
columns_below catalog [] few all = refl
columns_below catalog (p ∷ ps) few all =
    let parts = and_parts (nat_lt p.0 (length catalog.columns) && is_value catalog p.0 p.1) (list_all (λ pair. nat_lt pair.0 (length catalog.columns) && is_value catalog pair.0 pair.1) ps) all in
    let l : p.0 < length catalog.columns = ltb-true p.0 (length catalog.columns) (and_parts (nat_lt p.0 (length catalog.columns)) (is_value catalog p.0 p.1) parts.0).0 in
    and_from _ _ (below p.0 (omega (arith, l, few))) (columns_below catalog ps few parts.1)
  where
    below : (n : ℕ) → n < 64 → nat_lt n 64 ≡ true
    below n l = grind (arith, l)

pub known_values : (catalog : Catalog) (cell : Cell) → is_cell catalog cell ≡ true → list_all (λ pair. nat_lt pair.0 (length catalog.columns) && is_value catalog pair.0 pair.1) cell.at ≡ true
known_values catalog cell known = (and_parts _ _ (and_parts _ _ (and_parts _ _ known).0).0).1

pub known_rises : (catalog : Catalog) (cell : Cell) → is_cell catalog cell ≡ true → rise (columns_of cell) ≡ true
known_rises catalog cell known = (and_parts _ _ (and_parts _ _ known).0).1

-- cells of a catalog have the same key exactly where they are alike
pub key_tells : (catalog : Catalog) (one other : Cell) → length catalog.columns ≤ 64 → is_cell catalog one ≡ true → is_cell catalog other ≡ true → key_eq (key_of one) (key_of other) ≡ alike one other
key_tells catalog one other few known also =
    same_bool (key_eq (key_of one) (key_of other)) (alike one other)
    (λ h.
    let parts = and_parts (nat_eq one.cube other.cube) (nat_eq one.measure other.measure && nat_eq (mask (columns_of one)) (mask (columns_of other))) h in
    let rest = and_parts (nat_eq one.measure other.measure) (nat_eq (mask (columns_of one)) (mask (columns_of other))) parts.1 in
    alike_from one other
    (record {
      cube = eqb-true one.cube other.cube parts.0;
      measure = eqb-true one.measure other.measure rest.0;
      columns = mask_tells (columns_of one) (columns_of other) (known_rises catalog one known) (known_rises catalog other also) (columns_below catalog one.at few (known_values catalog one known)) (columns_below catalog other.at few (known_values catalog other also)) (eqb-true (mask (columns_of one)) (mask (columns_of other)) rest.1);
    }))
    (λ h.
    let is = alike_told one other h in
    and_from _ _ (eq-eqb one.cube other.cube is.cube) (and_from _ _ (eq-eqb one.measure other.measure is.measure) (eq-eqb (mask (columns_of one)) (mask (columns_of other)) (ap mask is.columns))))

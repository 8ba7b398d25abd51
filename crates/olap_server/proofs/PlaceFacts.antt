-- Where columns stand, and what stands there.
use Rattle.std.proofs.Common.{◌≡◌, ◌<◌, ◌+◌, ℕ, zero, suc, Bool, true, false, List, [], ◌∷◌, Option, Some, map, length, slice_get, refl, ap, arith, bytes_eq, get_or, drop, take, ◌++◌, ◌&&◌, not}
use Rattle.std.proofs.lemmas.List.{take_more, map-append}
use Rattle.std.specs.List.{list_all}
use Rattle.csv_records.proofs.PlaceFacts.{field_there}
use Rattle.olap_meaning.specs.Records.{column_place, field_in}
use Rattle.olap_meaning.proofs.Lists.{drop_step}

-- places that were found one for each item
pub place_of_item : {A : Type 0} (g : A → Option ℕ) (places : List ℕ) (items : List A) → map (λ place. Some place) places ≡ map g items
    → (i : ℕ) (item : A) → i < length items → item ≡ get_or items i item → (i < length places) × ((place : ℕ) → place ≡ get_or places i place → g item ≡ Some place)
place_of_item g [] [] same i item h is = absurd (omega arith)
place_of_item g [] (y ∷ ys) same i item h is = absurd (cc)
place_of_item g (x ∷ xs) [] same i item h is = absurd (cc)
place_of_item g (x ∷ xs) (y ∷ ys) same zero item h is = (omega arith, λ place here. cc)
place_of_item g (x ∷ xs) (y ∷ ys) same (suc i) item h is =
    let rest : map (λ place. Some place) xs ≡ map g ys = cc in
    let told = place_of_item g xs ys rest i item (omega arith) is in
    (omega (arith, told.0), told.1)

-- a test of each item from a place on is that of the item there and of the others
pub all_from : {A : Type 0} (p : A → Bool) (items : List A) (i : ℕ) (item : A) → i < length items → item ≡ get_or items i item → list_all p (drop i items) ≡ p item && list_all p (drop (i + 1) items)
all_from p items i item h is = ap (list_all p) (drop_step items i item h is)

-- what a pair asks of a record is told by the field at its place
pub asked_from : (header row : List (List ℕ)) (places : List ℕ) (pairs : List (List ℕ × List ℕ)) → map (λ place. Some place) places ≡ map (λ p. column_place p.0 header) pairs
    → (i : ℕ) (pair : List ℕ × List ℕ) → i < length pairs → pair ≡ get_or pairs i pair → (place : ℕ) → place ≡ get_or places i place → (field : List ℕ) → slice_get row place ≡ Some field
    → list_all (λ p. bytes_eq p.1 (field_in header p.0 row)) (drop i pairs) ≡ bytes_eq pair.1 field && list_all (λ p. bytes_eq p.1 (field_in header p.0 row)) (drop (i + 1) pairs)
asked_from header row places pairs same i pair h is place at field there =
    let told = place_of_item (λ (p : List ℕ × List ℕ). column_place p.0 header) places pairs same i pair h is in
    let found = field_there header row pair.0 field place (told.1 place at) there in
    rw (← found) (all_from (λ (p : List ℕ × List ℕ). bytes_eq p.1 (field_in header p.0 row)) pairs i pair h is)

pub not_true : (b : Bool) → true ≡ not b → b ≡ false
not_true true h = cc
not_true false h = refl

pub not_false : (b : Bool) → false ≡ not b → b ≡ true
not_false true h = refl
not_false false h = cc

-- one place more, for the next pair
pub placed_more : {A : Type 0} (g : A → Option ℕ) (places : List ℕ) (items : List A) (i : ℕ) (item : A) (place : ℕ) → i < length items → item ≡ get_or items i item
    → map (λ p. Some p) places ≡ map g (take i items) → g item ≡ Some place → map (λ p. Some p) (places ++ place ∷ []) ≡ map g (take (i + 1) items)
placed_more g places items i item place h is so_far found =
    let more = take_more items i item h in
    rw (more, map-append, map-append) (rw (← is, so_far, found) refl)

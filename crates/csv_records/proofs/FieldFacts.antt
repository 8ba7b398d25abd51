-- A record's field by its place.
use Rattle.std.proofs.Common.{◌≡◌, ◌≢◌, ◌<◌, ◌+◌, ◌&&◌, ℕ, zero, suc, Bool, List, [], ◌∷◌, Some, None, drop, length, refl, ap, slice_get, add-one, arith, cond, lit<, ◌++◌, EachIndex, get_or}
use Rattle.std.specs.List.{list_all, position_from}
use Rattle.std.specs.Str.{IsAscii}
use Rattle.olap_meaning.proofs.Lists.{drop_at as drop_suc}
use Rattle.csv.specs.Records.{field_at}

pub field_at-slice_get : (fs : List (List ℕ)) (i : ℕ) → field_at fs i ≡ slice_get fs i
unfolding field_at
field_at-slice_get [] i = refl
field_at-slice_get (f ∷ fs) zero = refl
field_at-slice_get (f ∷ fs) (suc i) = field_at-slice_get fs i

pub drop_at : {A : Type 0} (xs : List A) (i : ℕ) (x : A) → slice_get xs i ≡ Some x → drop i xs ≡ x ∷ drop (i + 1) xs
drop_at xs i x h = rw add-one (drop_suc xs i x h)

-- a test of each item from a place on is that of the item there and of the others
pub list_all_drop : {A : Type 0} (p : A → Bool) (xs : List A) (i : ℕ) (x : A) → slice_get xs i ≡ Some x → list_all p (drop i xs) ≡ p x && list_all p (drop (i + 1) xs)
list_all_drop p xs i x h = ap (list_all p) (drop_at xs i x h)

-- there is an item at each place of a list
pub item_within : {A : Type 0} (xs : List A) (i : ℕ) → i < length xs → slice_get xs i ≢ None
item_within [] i h e = absurd (omega arith)
item_within (x ∷ xs) zero h e = absurd (cc)
item_within (x ∷ xs) (suc i) h e = item_within xs i (omega arith) e

-- the first place from a place on is that place, or the first after it
pub position_from_drop : {A : Type 0} (p : A → Bool) (xs : List A) (i : ℕ) (x : A) → slice_get xs i ≡ Some x
    → position_from p i (drop i xs) ≡ cond (p x) (Some i) (position_from p (i + 1) (drop (i + 1) xs))
position_from_drop p xs i x h = ap (position_from p i) (drop_at xs i x h)

pub ascii_drop : (m : ℕ) (bytes : List ℕ) → IsAscii bytes → IsAscii (drop m bytes)
ascii_drop zero bytes h = h
ascii_drop (suc m) [] h = h
ascii_drop (suc m) (b ∷ bs) h = ascii_drop m bs (λ i. h (suc i))

pub ascii_push : (bytes : List ℕ) (c : ℕ) → IsAscii bytes → c < 128 → IsAscii (bytes ++ c ∷ [])
ascii_push [] c h low zero = low
ascii_push [] c h low (suc i) = lit< tt
ascii_push (b ∷ bs) c h low zero = h zero
ascii_push (b ∷ bs) c h low (suc i) = ascii_push bs c (λ k. h (suc k)) low i

pub ascii_each : (bytes : List ℕ) → EachIndex bytes (λ k. get_or bytes k 0 < 128) → IsAscii bytes
ascii_each [] h i = lit< tt
ascii_each (b ∷ bs) h zero = h zero (omega arith)
ascii_each (b ∷ bs) h (suc i) = ascii_each bs (λ k low. h (suc k) (omega arith)) i

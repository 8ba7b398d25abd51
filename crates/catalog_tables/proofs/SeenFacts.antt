-- Looking for a name among texts and among their bytes.
use Rattle.std.proofs.Common.{subst, false, ◌≡◌, ◌∙◌, ◌||◌, ◌++◌, ℕ, Bool, true, List, [], ◌∷◌, Some, refl, sym, ap, if◌then◌else◌, map, position, cond, not, ◌+◌, String, Global, string_bytes}
use Rattle.std.specs.String.{string_eq}
use Rattle.indexmap.specs.IndexSet.{insert_key}
use Rattle.catalog_tables.specs.Tables.{seen_with}
use Rattle.std.specs.List.{list_any, prefix_len, position_or_len}
use Rattle.olap_meaning.proofs.Appearances.{position_at, none_at}
use Rattle.std.proofs.lemmas.List.{length-map, map-append}
use Rattle.std.specs.Str.{bytes_eq}
use Rattle.std.proofs.lemmas.Slice.Eq.{bytes_eq-Decides}

prefix_len-map : {A B : Type 0} (f : A → B) (p : B → Bool) (xs : List A) → prefix_len p (map f xs) ≡ prefix_len (λ x. p (f x)) xs
prefix_len-map f p [] = refl
prefix_len-map f p (x ∷ xs) = ap (λ n. cond (p (f x)) (1 + n) 0) (prefix_len-map f p xs)

pub position-map : {A B : Type 0} (f : A → B) (p : B → Bool) (xs : List A) → position p (map f xs) ≡ position (λ x. p (f x)) xs
position-map f p xs = rw (prefix_len-map f (λ x. not (p x)) xs, length-map xs f) refl

pub list_any-map : {A B : Type 0} (f : A → B) (p : B → Bool) (xs : List A) → list_any p (map f xs) ≡ list_any (λ x. p (f x)) xs
list_any-map f p [] = refl
list_any-map f p (x ∷ xs) = ap (λ b. p (f x) || b) (list_any-map f p xs)

pub seen-kept : (name : List ℕ) (xs : List (List ℕ)) → list_any (bytes_eq name) xs ≡ true → xs ≡ seen_with xs name
seen-kept name xs h = rw h refl

insert_by : (b : Bool) (ks : List (String Global)) (k : String Global)
    → map string_bytes (if b then ks else ks ++ k ∷ []) ≡ (if b then map string_bytes ks else map string_bytes ks ++ string_bytes k ∷ [])
insert_by true ks k = refl
insert_by false ks k = map-append string_bytes ks (k ∷ [])

-- what an insert does to the bytes of the keys
pub seen-insert : (ks : List (String Global)) (k : String Global) → map string_bytes (insert_key string_eq ks k) ≡ seen_with (map string_bytes ks) (string_bytes k)
seen-insert ks k = rw (list_any-map string_bytes (bytes_eq (string_bytes k)) ks) (insert_by (list_any (string_eq k) ks) ks k)

number-new : (ks : List (String Global)) (k : String Global) → list_any (string_eq k) ks ≡ false
    → position (bytes_eq (string_bytes k)) (map string_bytes (insert_key string_eq ks k)) ≡ Some (position_or_len (string_eq k) ks)
number-new ks k none =
    ap (position (bytes_eq (string_bytes k))) (seen-insert ks k ∙ ap (λ b. if b then map string_bytes ks else map string_bytes ks ++ string_bytes k ∷ []) unseen)
    ∙ position_at (bytes_eq (string_bytes k)) (map string_bytes ks) [] (string_bytes k) unseen ((bytes_eq-Decides (string_bytes k) (string_bytes k)).1 refl)
    ∙ ap (λ n. Some n) (length-map ks string_bytes ∙ sym (none_at (string_eq k) ks none))
  where
    unseen : list_any (bytes_eq (string_bytes k)) (map string_bytes ks) ≡ false
    unseen = list_any-map string_bytes (bytes_eq (string_bytes k)) ks ∙ none

-- the number of a name that is new
pub number-added : (ks : List (String Global)) (k : String Global) (t : List ℕ) → string_bytes k ≡ t → list_any (λ x. bytes_eq t (string_bytes x)) ks ≡ false
    → position (bytes_eq t) (map string_bytes (insert_key string_eq ks k)) ≡ Some (position_or_len (string_eq k) ks)
number-added ks k t same =
    let P : List ℕ → Type 0 = λ u. list_any (λ x. bytes_eq u (string_bytes x)) ks ≡ false → position (bytes_eq u) (map string_bytes (insert_key string_eq ks k)) ≡ Some (position_or_len (string_eq k) ks) in
    subst P same (number-new ks k)

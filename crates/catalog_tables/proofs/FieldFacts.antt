-- The numbers of a field's texts, as one more is added.
use Rattle.std.proofs.Common.{◌≡◌, ◌∙◌, ◌+◌, ◌<◌, ◌≤◌, ◌++◌, ◌^◌, ℕ, Bool, true, false, List, [], ◌∷◌, Option, Some, None, refl, sym, ap, map, option_map, option_and_then, position, slice_get, get_or, cond, bytes_eq, length, nat_lt, arith}
use Rattle.std.specs.List.{list_any, position_or_len}
use Rattle.std.proofs.lemmas.Bool.{lt-ltb}
use Rattle.std.proofs.lemmas.List.{append-nil, length-map, map-append, length-append}
use Rattle.std.proofs.lemmas.Option.{slice_get-map, slice_get-get_or}
use Rattle.olap_meaning.specs.declared.schema.TheConstants.{RECORD_LIMIT}
use Rattle.olap_meaning.specs.Catalog.{first_appearances}
use Rattle.olap_meaning.proofs.Appearances.{appearances_push, any-same}
use Rattle.olap_meaning.proofs.Lists.{appearances_le, place_stays}
use Rattle.catalog_tables.specs.Tables.{seen_with, number_of, AreNumbered}

some_within : (n m i : ℕ) → cond (nat_lt n m) (Some n) None ≡ Some i → (n < m) × (n ≡ i)
some_within n m i e = by (nat_lt n m) refl e
  where
    by : (b : Bool) → nat_lt n m ≡ b → cond b (Some n) None ≡ Some i → (n < m) × (n ≡ i)
    by true within found = (grind arith, cc)
    by false within found = absurd (cc)

pub position_stays : {A : Type 0} (p : A → Bool) (xs ys : List A) (i : ℕ) → position p xs ≡ Some i → position p (xs ++ ys) ≡ Some i
position_stays p xs ys i found =
    let k = some_within (position_or_len p xs) (length xs) i found in
    let within : position_or_len p xs < length (xs ++ ys) = omega (arith, length-append xs ys) in
    ap (λ n. cond (nat_lt n (length (xs ++ ys))) (Some n) None) (place_stays p xs ys k.0)
    ∙ ap (λ b. cond b (Some (position_or_len p xs)) None) (lt-ltb (position_or_len p xs) (length (xs ++ ys)) within)
    ∙ ap (λ n. Some n) k.1

-- a place that was found is one of the list
pub position_within : {A : Type 0} (p : A → Bool) (xs : List A) (i : ℕ) → position p xs ≡ Some i → i < length xs
position_within p xs i found = let k = some_within (position_or_len p xs) (length xs) i found in omega (arith, k.0, k.1)

-- the names with one more text are those seen with it
pub seen_is : (texts : List (List ℕ)) (t : List ℕ) → seen_with (first_appearances texts) t ≡ first_appearances (texts ++ t ∷ [])
seen_is texts t =
    ap (λ b. cond b (first_appearances texts) (first_appearances texts ++ t ∷ [])) (any-same (bytes_eq t) texts)
    ∙ by (list_any (bytes_eq t) texts) ∙ sym (appearances_push texts t)
  where
    by : (b : Bool) → cond b (first_appearances texts) (first_appearances texts ++ t ∷ []) ≡ first_appearances texts ++ cond b [] (t ∷ [])
    by true = sym (append-nil (first_appearances texts))
    by false = refl

number_stays : (texts : List (List ℕ)) (t text : List ℕ) (i : ℕ) → number_of texts text ≡ Some i → number_of (texts ++ t ∷ []) text ≡ Some i
number_stays texts t text i found =
    ap (position (bytes_eq text)) (appearances_push texts t) ∙ position_stays (bytes_eq text) (first_appearances texts) (cond (list_any (bytes_eq t) texts) [] (t ∷ [])) i found

numbers_stay : (f g : List ℕ → Option ℕ) (numbers : List ℕ) (texts : List (List ℕ)) → ((text : List ℕ) (i : ℕ) → f text ≡ Some i → g text ≡ Some i)
    → map Some numbers ≡ map f texts → map Some numbers ≡ map g texts
numbers_stay f g [] [] h e = refl
numbers_stay f g [] (t ∷ ts) h e = absurd (cc e)
numbers_stay f g (n ∷ ns) [] h e = absurd (cc e)
numbers_stay f g (n ∷ ns) (t ∷ ts) h e =
    let first : f t ≡ Some n = cc e in
    let rest : map Some ns ≡ map f ts = cc e in
    let here = h t n first in
    let more = numbers_stay f g ns ts h rest in
    cc

-- one text more, with its number
pub numbered_push : (names after : List (List ℕ)) (numbers : List ℕ) (texts : List (List ℕ)) (t : List ℕ) (i : ℕ) → AreNumbered names numbers texts → length texts < RECORD_LIMIT
    → after ≡ seen_with names t → position (bytes_eq t) after ≡ Some i → AreNumbered after (numbers ++ i ∷ []) (texts ++ t ∷ [])
numbered_push names after numbers texts t i kept room seen found =
    let named : after ≡ first_appearances (texts ++ t ∷ []) = seen ∙ ap (λ ns. seen_with ns t) kept.named ∙ seen_is texts t in
    record {
      named = named;
      numbered =
          map-append Some numbers (i ∷ [])
          ∙ ap (λ ns. ns ++ Some i ∷ []) (numbers_stay (number_of texts) (number_of (texts ++ t ∷ [])) numbers texts (λ text j. number_stays texts t text j) kept.numbered)
          ∙ ap (λ o. map (number_of (texts ++ t ∷ [])) texts ++ o ∷ []) (sym found ∙ ap (position (bytes_eq t)) named)
          ∙ sym (map-append (number_of (texts ++ t ∷ [])) texts (t ∷ []));
      room = omega (arith, length-append texts (t ∷ []));
    }

-- the number of a record's text
pub number_here : (names : List (List ℕ)) (numbers : List ℕ) (texts : List (List ℕ)) (leaf n : ℕ) → AreNumbered names numbers texts → leaf < length texts → n ≡ get_or numbers leaf n
    → Some n ≡ option_and_then (number_of texts) (slice_get texts leaf)
number_here names numbers texts leaf n kept within at =
    ap (λ m. Some m) at ∙ by (slice_get texts leaf) (slice_get numbers leaf) (sym (slice_get-map Some numbers leaf) ∙ ap (λ os. slice_get os leaf) kept.numbered ∙ slice_get-map (number_of texts) texts leaf)
    (sym (slice_get-get_or numbers leaf n inside))
  where
    inside : leaf < length numbers
    inside = let e = ap length kept.numbered in omega (arith, e, length-map numbers Some, length-map texts (number_of texts))

    by : (o : Option (List ℕ)) (m : Option ℕ) → option_map Some m ≡ option_map (number_of texts) o → Some (get_or numbers leaf n) ≡ m → Some (get_or numbers leaf n) ≡ option_and_then (number_of texts) o
    by (Some t) (Some k) e is = is ∙ cc e
    by None (Some k) e is = absurd (cc e)
    by o None e is = absurd (cc is)

-- the number of one text more is one of 32 bits
pub number_fits : (names after : List (List ℕ)) (numbers : List ℕ) (texts : List (List ℕ)) (t : List ℕ) (i : ℕ) → AreNumbered names numbers texts → length texts < RECORD_LIMIT
    → after ≡ seen_with names t → position (bytes_eq t) after ≡ Some i → i < 2 ^ 32
number_fits names after numbers texts t i kept room seen found =
    let named : after ≡ first_appearances (texts ++ t ∷ []) = seen ∙ ap (λ ns. seen_with ns t) kept.named ∙ seen_is texts t in
    let within : i < length after = position_within (bytes_eq t) after i found in
    let most : length (first_appearances (texts ++ t ∷ [])) ≤ length (texts ++ t ∷ []) = appearances_le (texts ++ t ∷ []) in
    let e = ap length named in
    omega (arith, length-append texts (t ∷ []))

-- how many different texts there are is a number of 32 bits
pub count_fits : (names : List (List ℕ)) (numbers : List ℕ) (texts : List (List ℕ)) → AreNumbered names numbers texts → length names < 2 ^ 32
count_fits names numbers texts kept =
    let e = ap length kept.named in
    let most = appearances_le texts in
    omega (arith, kept.room)

-- a number that was found is one of 32 bits
pub found_fits : (names : List (List ℕ)) (numbers : List ℕ) (texts : List (List ℕ)) (text : List ℕ) (i : ℕ) → AreNumbered names numbers texts → position (bytes_eq text) names ≡ Some i → i < 2 ^ 32
found_fits names numbers texts text i kept found =
    let e = count_fits names numbers texts kept in
    let within = position_within (bytes_eq text) names i found in
    omega arith

-- The measures of a cube, by their names.
use Rattle.std.proofs.Common.{inl, inr, ◌⊎◌, ◌≡◌, ◌∙◌, ◌+◌, ◌<◌, ◌≤◌, ◌^◌, ◌++◌, ℕ, zero, suc, true, false, List, [], ◌∷◌, Option, Some, None, Ok, Err, refl, sym, ap, map, drop, option_map, option_and_then, slice_get, get_or, length, ok_or, arith, nat_le, nat_eq}
use Rattle.std.specs.List.{enumerate_from, list_all}
use Rattle.std.specs.Option.{option_map_or}
use Rattle.std.proofs.lemmas.Bool.Decides.{nat_tests}
use Rattle.std.proofs.lemmas.List.{length-map, append_assoc}
use Rattle.std.proofs.lemmas.Option.{slice_get-map, slice_get-get_or, slice_get_cases}
use Rattle.olap_meaning.specs.declared.schema.TheConstants.{MEASURE_LIMIT}
use Rattle.olap_meaning.specs.declared.tables.Catalog.{Catalog}
use Rattle.olap_meaning.specs.declared.tables.Cube.{Cube}
use Rattle.olap_meaning.specs.declared.tables.Measure.{Measure}
use Rattle.olap_meaning.specs.declared.cells.Member.TheVariants as member
use Rattle.olap_meaning.specs.declared.cells.LevelRef.TheVariants.{Measures}
use Rattle.olap_meaning.specs.Catalog.{named_below, children, measure_members, and_then, member_name, match_of}
use Rattle.olap_meaning.proofs.Lists.{drop_step, passes_at}
use Rattle.olap_catalog.specs.declared.fault.NameFault.{NameFault}
use Rattle.olap_catalog.specs.declared.fault.NameFault.TheVariants.{UnknownMember, OutOfMemory}
use Rattle.olap_catalog.specs.Parts.{has_few_measures}
use Rattle.olap_catalog.specs.Roots.{measure_names}
use Rattle.olap_catalog.specs.Members.{or_fault, from_root_or_fault}
use Rattle.olap_catalog.proofs.PartFacts.{item_behind, length_snoc}
use Rattle.olap_catalog.proofs.WalkFacts.{drop_past}

-- a cube's names of measures, as a catalog keeps them
pub record HasMeasures (catalog : Catalog) (cube : ℕ) (names : List (List ℕ)) : Type 0 where
  pub own : Cube
  pub at : slice_get catalog.cubes cube ≡ Some own
  pub named : names ≡ measure_names own

pub has_measures : (catalog : Catalog) (kept : List (List (List ℕ))) (cube : ℕ) (names : List (List ℕ)) → kept ≡ map measure_names catalog.cubes → cube < length catalog.cubes → names ≡ get_or kept cube names → HasMeasures catalog cube names
has_measures catalog kept cube names is within at = found (slice_get catalog.cubes cube) refl
  where
    outside : ((x : Cube) × (cube < length catalog.cubes) × (slice_get catalog.cubes cube ≡ Some x) × (get_or catalog.cubes cube x ≡ x)) ⊎ ((length catalog.cubes ≤ cube) × (slice_get catalog.cubes cube ≡ None)) → slice_get catalog.cubes cube ≡ None → ⊥
    outside (inl here) none = let k : Some here.0 ≡ None = sym here.2 ∙ none in cc k
    outside (inr past) none = omega (arith, past.0)

    found : (o : Option Cube) → slice_get catalog.cubes cube ≡ o → HasMeasures catalog cube names
    found None none = absurd (outside (slice_get_cases catalog.cubes cube).1 none)
    found (Some own) there =
        let listed : slice_get kept cube ≡ Some (measure_names own) = ap (λ ls. slice_get ls cube) is ∙ slice_get-map measure_names catalog.cubes cube ∙ ap (option_map measure_names) there in
        let count : length kept ≡ length catalog.cubes = ap length is ∙ length-map catalog.cubes measure_names in
        let same : Some names ≡ Some (measure_names own) = ap (λ x. Some x) at ∙ sym (slice_get-get_or kept cube names (omega (arith, count))) ∙ listed in
        record { own = own; at = there; named = cc same }

members_are : (catalog : Catalog) (cube : ℕ) (names : List (List ℕ)) (has : HasMeasures catalog cube names) → measure_members catalog cube ≡ map (λ (m : ℕ × Measure). member.Measure m.0) (enumerate_from 0 has.own.measures)
members_are catalog cube names has = ap (λ o. map (λ (m : ℕ × Measure). member.Measure m.0) (enumerate_from 0 (option_map_or (λ (c : Cube). c.measures) o []))) has.at

-- the measure at a place
measure_at : (catalog : Catalog) (cube : ℕ) (names : List (List ℕ)) (has : HasMeasures catalog cube names) (i : ℕ) → i < length names → slice_get (measure_members catalog cube) i ≡ Some (member.Measure i)
measure_at catalog cube names has i within =
    let count : length names ≡ length has.own.measures = ap length has.named ∙ length-map has.own.measures (λ (m : Measure). m.name) in
    ap (λ ms. slice_get ms i) (members_are catalog cube names has) ∙ numbered 0 has.own.measures i (omega (arith, count)) ∙ ap (λ n. Some (member.Measure n)) (zero_plus i)
  where
    zero_plus : (n : ℕ) → 0 + n ≡ n
    zero_plus n = omega arith

    numbered : (k : ℕ) (xs : List Measure) (n : ℕ) → n < length xs → slice_get (map (λ (m : ℕ × Measure). member.Measure m.0) (enumerate_from k xs)) n ≡ Some (member.Measure (k + n))
    numbered k [] n h = absurd (omega arith)
    numbered k (x ∷ xs) zero h = ap (λ m. Some (member.Measure m)) (let e : k ≡ k + 0 = omega arith in e)
    numbered k (x ∷ xs) (suc n) h = numbered (k + 1) xs n (omega arith) ∙ ap (λ m. Some (member.Measure m)) (let e : k + 1 + n ≡ k + suc n = omega arith in e)

no_measure : (catalog : Catalog) (cube : ℕ) (names : List (List ℕ)) (has : HasMeasures catalog cube names) → names ≡ [] → measure_members catalog cube ≡ []
no_measure catalog cube names has empty = members_are catalog cube names has ∙ by has.own.measures (sym has.named ∙ empty)
  where
    by : (ms : List Measure) → map (λ (m : Measure). m.name) ms ≡ [] → map (λ (m : ℕ × Measure). member.Measure m.0) (enumerate_from 0 ms) ≡ []
    by [] e = refl
    by (m ∷ ms) e = absurd (cc e)

-- the names of the measures
names_are : (catalog : Catalog) (cube : ℕ) (names : List (List ℕ)) (has : HasMeasures catalog cube names) → map (member_name catalog cube) (measure_members catalog cube) ≡ names
names_are catalog cube names has =
    ap (map (member_name catalog cube)) (members_are catalog cube names has) ∙ walk [] has.own.measures refl ∙ sym has.named
  where
    own_name : (j : ℕ) → member_name catalog cube (member.Measure j) ≡ option_map_or (λ (m : Measure). m.name) (slice_get has.own.measures j) []
    own_name j = ap (λ o. option_map_or (λ (m : Measure). m.name) (option_and_then (λ (c : Cube). slice_get c.measures j) o) []) has.at

    walk : (before after : List Measure) → has.own.measures ≡ before ++ after → map (member_name catalog cube) (map (λ (m : ℕ × Measure). member.Measure m.0) (enumerate_from (length before) after)) ≡ map (λ (m : Measure). m.name) after
    walk before [] e = refl
    walk before (x ∷ xs) e =
        let next : length before + 1 ≡ length (before ++ x ∷ []) = let k = length_snoc before x in omega arith in
        ap (λ n. n ∷ map (member_name catalog cube) (map (λ (m : ℕ × Measure). member.Measure m.0) (enumerate_from (length before + 1) xs)))
        (own_name (length before) ∙ ap (λ ms. option_map_or (λ (m : Measure). m.name) (slice_get ms (length before)) []) e ∙ ap (λ o. option_map_or (λ (m : Measure). m.name) o []) (item_behind before xs x))
        ∙ ap (λ ns. x.name ∷ ns) (ap (λ n. map (member_name catalog cube) (map (λ (m : ℕ × Measure). member.Measure m.0) (enumerate_from n xs))) next ∙ walk (before ++ x ∷ []) xs (e ∙ sym (append_assoc before (x ∷ []) xs)))

start : (catalog : Catalog) (cube : ℕ) (path : List (List ℕ)) (name : List ℕ) → 0 < length path → name ≡ get_or path 0 name
    → from_root_or_fault catalog cube Measures path ≡ or_fault (and_then (named_below catalog cube (drop 1 path) (measure_members catalog cube)) (ok_or (slice_get (measure_members catalog cube) 0) name))
start catalog cube path name some at = ap (from_root_or_fault catalog cube Measures) (drop_step path 0 name some at)

pub without_measures : (catalog : Catalog) (cube : ℕ) (path : List (List ℕ)) (name : List ℕ) (fault : NameFault) (names : List (List ℕ)) (has : HasMeasures catalog cube names) → 0 < length path → name ≡ get_or path 0 name → nat_eq (length names) 0 ≡ true
    → (fault ≡ OutOfMemory) ⊎ (fault ≡ UnknownMember name) → (fault ≡ OutOfMemory) ⊎ (from_root_or_fault catalog cube Measures path ≡ Err fault)
without_measures catalog cube path name fault names has some at empty (inl memory) = inl memory
without_measures catalog cube path name fault names has some at empty (inr unknown) =
    inr (start catalog cube path name some at
    ∙ ap (λ ms. or_fault (and_then (named_below catalog cube (drop 1 path) ms) (ok_or (slice_get ms 0) name))) (no_measure catalog cube names has (none names empty)) ∙ ap (λ f. Err f) (sym unknown))
  where
    none : (ns : List (List ℕ)) → nat_eq (length ns) 0 ≡ true → ns ≡ []
    none [] e = refl
    none (n ∷ ns) e = absurd (contradiction (length ns) e)
      where
        contradiction : (k : ℕ) → nat_eq (suc k) 0 ≡ true → ⊥
        contradiction k h = grind (arith, nat_tests)

some_names : (ns : List (List ℕ)) → nat_eq (length ns) 0 ≡ false → 0 < length ns
some_names ns e = by (length ns) e
  where
    by : (k : ℕ) → nat_eq k 0 ≡ false → 0 < k
    by k h = grind (arith, nat_tests)

any_name : (path : List (List ℕ)) → 0 < length path → (name : List ℕ) × (name ≡ get_or path 0 name)
any_name [] some = absurd (omega arith)
any_name (x ∷ xs) some = (x, refl)

-- from the first measure on
begun : (catalog : Catalog) (cube : ℕ) (path : List (List ℕ)) (names : List (List ℕ)) (has : HasMeasures catalog cube names) → 0 < length path → nat_eq (length names) 0 ≡ false
    → from_root_or_fault catalog cube Measures path ≡ or_fault (named_below catalog cube (drop 1 path) (measure_members catalog cube) (member.Measure 0))
begun catalog cube path names has some filled =
    let own = any_name path some in
    start catalog cube path own.0 some own.1
    ∙ ap (λ o. or_fault (and_then (named_below catalog cube (drop 1 path) (measure_members catalog cube)) (ok_or o own.0))) (measure_at catalog cube names has 0 (some_names names filled))

pub first_measure : (catalog : Catalog) (cube : ℕ) (path : List (List ℕ)) (names : List (List ℕ)) (has : HasMeasures catalog cube names) → 0 < length path → nat_eq (length names) 0 ≡ false → length path ≡ 1
    → from_root_or_fault catalog cube Measures path ≡ Ok (member.Measure 0)
first_measure catalog cube path names has some filled one =
    begun catalog cube path names has some filled ∙ ap (λ ns. or_fault (named_below catalog cube ns (measure_members catalog cube) (member.Measure 0))) (drop_past path 1 (omega arith))

-- what the second name gives
second : (catalog : Catalog) (cube : ℕ) (path : List (List ℕ)) (name : List ℕ) (names : List (List ℕ)) (has : HasMeasures catalog cube names) (found : Option ℕ) → nat_eq (length names) 0 ≡ false → 1 < length path → name ≡ get_or path 1 name → found ≡ match_of name names
    → from_root_or_fault catalog cube Measures path ≡ or_fault (and_then (λ next. named_below catalog cube (drop 2 path) (children catalog next) next) (ok_or (option_and_then (slice_get (measure_members catalog cube)) found) name))
second catalog cube path name names has found filled within at is =
    begun catalog cube path names has (omega arith) filled
    ∙ ap (λ ns. or_fault (named_below catalog cube ns (measure_members catalog cube) (member.Measure 0))) (drop_step path 1 name within at)
    ∙ ap (λ ns. or_fault (and_then (λ next. named_below catalog cube (drop 2 path) (children catalog next) next) (ok_or (option_and_then (slice_get (measure_members catalog cube)) (match_of name ns)) name))) (names_are catalog cube names has)
    ∙ ap (λ o. or_fault (and_then (λ next. named_below catalog cube (drop 2 path) (children catalog next) next) (ok_or (option_and_then (slice_get (measure_members catalog cube)) o) name))) (sym is)

pub no_such_measure : (catalog : Catalog) (cube : ℕ) (path : List (List ℕ)) (name : List ℕ) (fault : NameFault) (names : List (List ℕ)) (has : HasMeasures catalog cube names) (found : Option ℕ) → nat_eq (length names) 0 ≡ false → 1 < length path → name ≡ get_or path 1 name
    → found ≡ match_of name names → found ≡ None → (fault ≡ OutOfMemory) ⊎ (fault ≡ UnknownMember name) → (fault ≡ OutOfMemory) ⊎ (from_root_or_fault catalog cube Measures path ≡ Err fault)
no_such_measure catalog cube path name fault names has found filled within at is none (inl memory) = inl memory
no_such_measure catalog cube path name fault names has found filled within at is none (inr unknown) =
    inr (second catalog cube path name names has found filled within at is
    ∙ ap (λ o. or_fault (and_then (λ next. named_below catalog cube (drop 2 path) (children catalog next) next) (ok_or (option_and_then (slice_get (measure_members catalog cube)) o) name))) none ∙ ap (λ f. Err f) (sym unknown))

third : (catalog : Catalog) (cube : ℕ) (path : List (List ℕ)) (name : List ℕ) (names : List (List ℕ)) (has : HasMeasures catalog cube names) (found : Option ℕ) (i : ℕ) → nat_eq (length names) 0 ≡ false → 1 < length path → name ≡ get_or path 1 name → found ≡ match_of name names
    → found ≡ Some i → i < length names → from_root_or_fault catalog cube Measures path ≡ or_fault (named_below catalog cube (drop 2 path) [] (member.Measure i))
third catalog cube path name names has found i filled within at is there inside =
    second catalog cube path name names has found filled within at is
    ∙ ap (λ o. or_fault (and_then (λ next. named_below catalog cube (drop 2 path) (children catalog next) next) (ok_or (option_and_then (slice_get (measure_members catalog cube)) o) name))) there
    ∙ ap (λ o. or_fault (and_then (λ next. named_below catalog cube (drop 2 path) (children catalog next) next) (ok_or o name))) (measure_at catalog cube names has i inside)

pub this_measure : (catalog : Catalog) (cube : ℕ) (path : List (List ℕ)) (name : List ℕ) (names : List (List ℕ)) (has : HasMeasures catalog cube names) (found : Option ℕ) (i : ℕ) → nat_eq (length names) 0 ≡ false → 1 < length path → name ≡ get_or path 1 name
    → found ≡ match_of name names → found ≡ Some i → i < length names → length path ≤ 2 → from_root_or_fault catalog cube Measures path ≡ Ok (member.Measure i)
this_measure catalog cube path name names has found i filled within at is there inside short =
    third catalog cube path name names has found i filled within at is there inside ∙ ap (λ ns. or_fault (named_below catalog cube ns [] (member.Measure i))) (drop_past path 2 short)

pub below_measure : (catalog : Catalog) (cube : ℕ) (path : List (List ℕ)) (name last : List ℕ) (fault : NameFault) (names : List (List ℕ)) (has : HasMeasures catalog cube names) (found : Option ℕ) (i : ℕ) → nat_eq (length names) 0 ≡ false → name ≡ get_or path 1 name
    → found ≡ match_of name names → found ≡ Some i → i < length names → 2 < length path → last ≡ get_or path 2 last → (fault ≡ OutOfMemory) ⊎ (fault ≡ UnknownMember last) → (fault ≡ OutOfMemory) ⊎ (from_root_or_fault catalog cube Measures path ≡ Err fault)
below_measure catalog cube path name last fault names has found i filled at is there inside long last_at (inl memory) = inl memory
below_measure catalog cube path name last fault names has found i filled at is there inside long last_at (inr unknown) =
    inr (third catalog cube path name names has found i filled (omega arith) at is there inside ∙ ap (λ ns. or_fault (named_below catalog cube ns [] (member.Measure i))) (drop_step path 2 last long last_at) ∙ ap (λ f. Err f) (sym unknown))

-- the number of a measure is one of 16 bits
pub measure_fits : (catalog : Catalog) (cube : ℕ) (names : List (List ℕ)) (has : HasMeasures catalog cube names) (i : ℕ) → list_all has_few_measures catalog.cubes ≡ true → i < length names → i < 2 ^ 16
measure_fits catalog cube names has i few inside =
    let count : length names ≡ length has.own.measures = ap length has.named ∙ length-map has.own.measures (λ (m : Measure). m.name) in
    let most : length has.own.measures ≤ MEASURE_LIMIT = le (length has.own.measures) (passes_at has_few_measures catalog.cubes cube has.own few has.at) in
    omega arith
  where
    le : (n : ℕ) → nat_le n MEASURE_LIMIT ≡ true → n ≤ MEASURE_LIMIT
    le n e = grind (arith, nat_tests)

-- The values of a path, one by one.
use Rattle.std.proofs.Common.{◌≡◌, ◌∙◌, ◌+◌, ◌<◌, ◌≤◌, ◌++◌, ℕ, zero, suc, true, List, [], ◌∷◌, Some, sym, ap, take, take_all, slice_get, get_or, length, nat_lt, flat_map, codes, unwrap_or, arith, append_assoc}
use Rattle.std.proofs.lemmas.Bool.{and_parts}
use Rattle.std.specs.List.{zip}
use Rattle.std.specs.Option.{option_map_or}
use Rattle.std.proofs.lemmas.Bool.Decides.{nat_tests}
use Rattle.std.proofs.lemmas.List.{flat_map_more}
use Rattle.std.proofs.lemmas.Slice.Zip.{length-zip}
use Rattle.olap_meaning.specs.declared.tables.Hierarchy.{Hierarchy}
use Rattle.olap_meaning.specs.declared.tables.Catalog.{Catalog}
use Rattle.olap_meaning.specs.declared.cells.Member.TheVariants as member
use Rattle.olap_meaning.specs.Catalog.{values, box}
use Rattle.olap_meaning.specs.Texts.{name_text}
use Rattle.olap_meaning.specs.MemberOf.{is_path, level_columns}
use Rattle.query_meaning.specs.Titles.{value_part}

-- a path is one of its hierarchy's levels
pub path_own : (catalog : Catalog) (h : ℕ) (path levels : List ℕ) (hierarchy : Hierarchy) → is_path catalog (level_columns catalog h) path ≡ true → slice_get catalog.hierarchies h ≡ Some hierarchy → levels ≡ hierarchy.levels → is_path catalog levels path ≡ true
path_own catalog h path levels hierarchy own found at =
    let there : level_columns catalog h ≡ levels = ap (λ o. option_map_or (λ (x : Hierarchy). x.levels) o []) found ∙ sym at in
    ap (λ ls. is_path catalog ls path) (sym there) ∙ own

-- a path is no longer than the levels
pub path_deep : (catalog : Catalog) (levels path : List ℕ) (i : ℕ) → is_path catalog levels path ≡ true → i < length path → i < length levels
path_deep catalog levels [] i own within = absurd (omega arith)
path_deep catalog [] (v ∷ path) i own within = absurd (cc own)
path_deep catalog (c ∷ levels) (v ∷ path) zero own within = omega arith
path_deep catalog (c ∷ levels) (v ∷ path) (suc i) own within =
    let rest = and_parts (nat_lt v (length (values catalog c))) (is_path catalog levels path) own in
    let deep = path_deep catalog levels path i rest.1 (omega arith) in
    omega arith

below : (value v n m : ℕ) → nat_lt v n ≡ true → value ≡ v → m ≡ n → value < m
below value v n m less here at = grind (arith, nat_tests)

-- each of its values is one of its level's column
pub path_there : (catalog : Catalog) (levels path : List ℕ) (i column value : ℕ) → is_path catalog levels path ≡ true → i < length path → column ≡ get_or levels i column → value ≡ get_or path i value → value < length (values catalog column)
path_there catalog levels [] i column value own within at here = absurd (omega arith)
path_there catalog [] (v ∷ path) i column value own within at here = absurd (cc own)
path_there catalog (c ∷ levels) (v ∷ path) zero column value own within at here =
    let rest = and_parts (nat_lt v (length (values catalog c))) (is_path catalog levels path) own in
    below value v (length (values catalog c)) (length (values catalog column)) rest.0 here (ap (λ k. length (values catalog k)) at)
path_there catalog (c ∷ levels) (v ∷ path) (suc i) column value own within at here =
    let rest = and_parts (nat_lt v (length (values catalog c))) (is_path catalog levels path) own in
    path_there catalog levels path i column value rest.1 (omega arith) at here

-- one value more
pairs_more : (levels path : List ℕ) (i column value : ℕ) → i < length levels → i < length path → column ≡ get_or levels i column → value ≡ get_or path i value → take (suc i) (zip levels path) ≡ take i (zip levels path) ++ (column, value) ∷ []
pairs_more [] path i column value deep within at here = absurd (omega arith)
pairs_more (c ∷ levels) [] i column value deep within at here = absurd (omega arith)
pairs_more (c ∷ levels) (v ∷ path) zero column value deep within at here = cc
pairs_more (c ∷ levels) (v ∷ path) (suc i) column value deep within at here = ap (λ pairs. (c, v) ∷ pairs) (pairs_more levels path i column value (omega arith) (omega arith) at here)

-- and its part of the title
pub title_more : (catalog : Catalog) (front before dotted after name text levels path : List ℕ) (i column value : ℕ) → i < length levels → i < length path → column ≡ get_or levels i column → value ≡ get_or path i value
    → before ≡ front ++ flat_map (value_part catalog) (take i (zip levels path)) → dotted ≡ before ++ codes "." → Some text ≡ slice_get (values catalog column) value → name ≡ name_text text → after ≡ dotted ++ name
    → after ≡ front ++ flat_map (value_part catalog) (take (i + 1) (zip levels path))
title_more catalog front before dotted after name text levels path i column value deep within at here so_far dot found named more =
    let pairs = take i (zip levels path) in
    let part : codes "." ++ name ≡ value_part catalog (column, value) = ap (λ n. codes "." ++ n) (named ∙ ap (λ o. name_text (unwrap_or o [])) found) in
    let next : i + 1 ≡ suc i = omega arith in
    more ∙ ap (λ t. t ++ name) dot ∙ append_assoc before (codes ".") name ∙ ap (λ t. before ++ t) part ∙ ap (λ t. t ++ value_part catalog (column, value)) so_far
    ∙ flat_map_more (value_part catalog) front pairs (column, value)
    ∙ ap (λ ps. front ++ flat_map (value_part catalog) ps) (sym (pairs_more levels path i column value deep within at here) ∙ ap (λ n. take n (zip levels path)) (sym next))

-- all values of a path
pub title_whole : (catalog : Catalog) (h : ℕ) (path levels front text : List ℕ) (i : ℕ) (hierarchy : Hierarchy) → slice_get catalog.hierarchies h ≡ Some hierarchy → levels ≡ hierarchy.levels → length path ≤ i
    → text ≡ front ++ flat_map (value_part catalog) (take i (zip levels path)) → text ≡ front ++ flat_map (value_part catalog) (box catalog (member.At h path))
title_whole catalog h path levels front text i hierarchy found at past is =
    let pairs = length-zip levels path in
    is ∙ ap (λ ps. front ++ flat_map (value_part catalog) ps)
    (take_all i (zip levels path) (omega (arith, pairs, past)) ∙ ap (λ ls. zip ls path) at ∙ sym (ap (λ o. option_map_or (λ (x : Hierarchy). zip x.levels path) o []) found))

-- Texts of names, put together.
use Rattle.std.proofs.Common.{◌≡◌, ◌≢◌, ◌∙◌, ◌++◌, ◌+◌, ◌<◌, ◌≤◌, ℕ, zero, suc, Some, length, map, take, get_or, arith, true, false, List, [], ◌∷◌, All, sym, ap, refl, flat_map, codes, append_assoc}
use Rattle.std.specs.Str.{is_utf8, IsUtf8}
use Rattle.std.proofs.lemmas.Str.{is_utf8-from_IsUtf8}
use Rattle.std.proofs.lemmas.Grind.{flat_map-append}
use Rattle.std.proofs.lemmas.List.{append-nil, length-map, length-take, map-append, take_more}
use Rattle.std.proofs.lemmas.List.Elements.{All-nil, All-cons, All-head, All-tail, All-append}
use Rattle.std.specs.Prelude.{option_and_then, slice_get}
use Rattle.std.specs.Option.{option_map_or}
use Rattle.std.proofs.lemmas.Option.{slice_get-get_or}
use Rattle.grid_reader.proofs.TitleSteps.{empty_title}
use Rattle.olap_meaning.specs.MemberOf.{measure_count}
use Rattle.olap_meaning.specs.declared.tables.Catalog.{Catalog}
use Rattle.olap_meaning.specs.declared.tables.Cube.{Cube}
use Rattle.olap_meaning.specs.declared.tables.Measure.{Measure}
use Rattle.olap_meaning.specs.declared.cells.Member.{Member}
use Rattle.olap_meaning.specs.declared.cells.Member.TheVariants as member
use Rattle.olap_meaning.specs.Catalog.{member_name}
use Rattle.olap_meaning.specs.Texts.{name_text}
use Rattle.query_meaning.specs.Titles.{IsTitle, IsTitleName, TitleName, joined_by, marked_name, names_text}
use Rattle.result_layout.specs.Named.{IsNamed}

-- a name text
pub named_one : (name text : List ℕ) → name ≢ [] → IsUtf8 name → text ≡ name_text name → IsNamed text
named_one name text some utf8 is = record {
  first = record { begins = true; name = name };
  others = [];
  named = All-cons IsTitleName _ [] (some, is_utf8-from_IsUtf8 name utf8) (All-nil IsTitleName);
  is = is ∙ sym (append-nil (name_text name));
}

-- names, and a name after a dot
pub named_below : (front name text : List ℕ) → IsNamed front → name ≢ [] → IsUtf8 name → text ≡ front ++ codes "." ++ name_text name → IsNamed text
named_below front name text own some utf8 is =
    let next : TitleName = record { begins = false; name = name } in
    record {
      first = own.first;
      others = own.others ++ next ∷ [];
      named = All-append IsTitleName (own.first ∷ own.others) (next ∷ []) own.named (All-cons IsTitleName next [] (some, is_utf8-from_IsUtf8 name utf8) (All-nil IsTitleName));
      is = is ∙ append_assoc front (codes ".") (name_text name) ∙ ap (λ t. t ++ (codes "." ++ name_text name)) own.is
          ∙ append_assoc (name_text own.first.name) (flat_map marked_name own.others) (codes "." ++ name_text name)
          ∙ ap (λ t. name_text own.first.name ++ (flat_map marked_name own.others ++ t)) (sym (append-nil (codes "." ++ name_text name)))
          ∙ ap (λ t. name_text own.first.name ++ t) (sym (flat_map-append marked_name own.others (next ∷ [])));
    }

-- names, and others after a comma and a space
pub named_beside : (front back text : List ℕ) → IsNamed front → IsNamed back → text ≡ front ++ codes ", " ++ back → IsNamed text
named_beside front back text own more is =
    let next : TitleName = record { begins = true; name = more.first.name } in
    let fronts = flat_map marked_name own.others in
    let backs = flat_map marked_name more.others in
    record {
      first = own.first;
      others = own.others ++ next ∷ more.others;
      named = All-append IsTitleName (own.first ∷ own.others) (next ∷ more.others) own.named (All-cons IsTitleName next more.others (All-head IsTitleName more.first more.others more.named) (All-tail IsTitleName more.first more.others more.named));
      is = is ∙ append_assoc front (codes ", ") back ∙ ap (λ t. t ++ (codes ", " ++ back)) own.is ∙ ap (λ t. (name_text own.first.name ++ fronts) ++ (codes ", " ++ t)) more.is
          ∙ append_assoc (name_text own.first.name) fronts (codes ", " ++ (name_text more.first.name ++ backs))
          ∙ ap (λ t. name_text own.first.name ++ (fronts ++ t)) (sym (append_assoc (codes ", ") (name_text more.first.name) backs))
          ∙ ap (λ t. name_text own.first.name ++ t) (sym (flat_map-append marked_name own.others (next ∷ more.others)));
    }

-- names are a title
pub named_title : (text : List ℕ) → IsNamed text → IsTitle text
named_title text own = record { names = own.first ∷ own.others; named = own.named; is = own.is }

-- texts in a row, and one more
pub joined_more : (between : List ℕ) (xs : List (List ℕ)) (x : List ℕ) → 0 < length xs → joined_by between (xs ++ x ∷ []) ≡ joined_by between xs ++ between ++ x
joined_more between [] x some = absurd (omega (arith, some))
joined_more between (first ∷ others) x some =
    ap (λ t. first ++ t) (flat_map-append (λ other. between ++ other) others (x ∷ []) ∙ ap (λ t. flat_map (λ other. between ++ other) others ++ t) (append-nil (between ++ x)))
    ∙ sym (append_assoc first (flat_map (λ other. between ++ other) others) (between ++ x))
    ∙ sym (append_assoc (first ++ flat_map (λ other. between ++ other) others) between x)

-- the title of a tuple's first member
pub tuple_first : (between : List ℕ) (f : Member → List ℕ) (tuple : List Member) (i : ℕ) (x : Member) (before after text : List ℕ) → i < length tuple → x ≡ get_or tuple i x → i ≤ 0
    → before ≡ joined_by between (map f (take i tuple)) → text ≡ f x → after ≡ before ++ text → after ≡ joined_by between (map f (take (i + 1) tuple))
tuple_first between f [] i x before after text within at first is own more = absurd (omega (arith, within))
tuple_first between f (y ∷ ys) i x before after text within at first is own more =
    let none : i ≡ 0 = omega (arith, first) in
    let here : x ≡ y = at ∙ ap (λ n. get_or (y ∷ ys) n x) none in
    let next : i + 1 ≡ suc 0 = omega (arith, none) in
    more ∙ ap (λ t. t ++ text) (is ∙ ap (λ n. joined_by between (map f (take n (y ∷ ys)))) none) ∙ own ∙ ap f here ∙ sym (append-nil (f y)) ∙ ap (λ n. joined_by between (map f (take n (y ∷ ys)))) (sym next)

-- and of one more
pub tuple_more : (between : List ℕ) (f : Member → List ℕ) (tuple : List Member) (i : ℕ) (x : Member) (before after text : List ℕ) → i < length tuple → x ≡ get_or tuple i x → 0 < i
    → before ≡ joined_by between (map f (take i tuple)) → text ≡ f x → after ≡ (before ++ between) ++ text → after ≡ joined_by between (map f (take (i + 1) tuple))
tuple_more between f tuple i x before after text within at some is own more =
    let count = length-map (take i tuple) f in
    let taken = length-take i tuple in
    more ∙ ap (λ t. (t ++ between) ++ text) is ∙ ap (λ t. (joined_by between (map f (take i tuple)) ++ between) ++ t) (own ∙ ap f at)
    ∙ sym (joined_more between (map f (take i tuple)) (f (get_or tuple i x)) (omega (arith, count, taken, some, within)))
    ∙ ap (joined_by between) (sym (map-append f (take i tuple) (get_or tuple i x ∷ [])) ∙ ap (map f) (sym (take_more tuple i x within)))

-- the title of the first is that of the tuple so far
pub tuple_alone : (between : List ℕ) (f : Member → List ℕ) (tuple : List Member) (i : ℕ) (before after text : List ℕ) → i ≤ 0 → before ≡ joined_by between (map f (take i tuple)) → after ≡ before ++ text → after ≡ text
tuple_alone between f tuple i before after text first is more =
    let none : i ≡ 0 = omega (arith, first) in
    more ∙ ap (λ t. t ++ text) (is ∙ ap (λ n. joined_by between (map f (take n tuple))) none)

-- the title of a tuple is that of names, or empty
pub tuple_form : (between : List ℕ) (f : Member → List ℕ) (tuple : List Member) (i : ℕ) (text : List ℕ) → text ≡ joined_by between (map f (take i tuple)) → (0 < i → IsNamed text) → IsTitle text
tuple_form between f tuple zero text is own = empty_title text is
tuple_form between f tuple (suc i) text is own = named_title text (own (omega arith))

-- the measures' name is a text
pub measures_utf8 : IsUtf8 (codes "Measures")
unfolding lib.Utf8.encode
measures_utf8 = (codes "Measures", (refl, refl))

-- the name of a measure is that of the cube's measure
pub measure_name : (catalog : Catalog) (cube m : ℕ) (own : Cube) (measures : List Measure) (measure : Measure) → slice_get catalog.cubes cube ≡ Some own → measures ≡ own.measures → m < measure_count catalog cube → measure ≡ get_or measures m measure → member_name catalog cube (member.Measure m) ≡ measure.name
measure_name catalog cube m own measures measure found same within at =
    let count : measure_count catalog cube ≡ length own.measures = ap (λ o. option_map_or (λ (c : Cube). length c.measures) o 0) found in
    let here : slice_get own.measures m ≡ Some measure = slice_get-get_or own.measures m measure (omega (arith, count, within)) ∙ ap Some (ap (λ ms. get_or ms m measure) (sym same) ∙ sym at) in
    ap (λ o. option_map_or (λ (one : Measure). one.name) (option_and_then (λ (c : Cube). slice_get c.measures m) o) []) found
    ∙ ap (λ o. option_map_or (λ (one : Measure). one.name) o []) here

-- What texts of the form of a title are made of: no break, and UTF-8.
use Rattle.std.proofs.Common.{◌≡◌, ◌∙◌, ◌++◌, ℕ, Bool, true, false, List, [], ◌∷◌, sym, ap, refl, subst, flat_map, arith, All}
use Rattle.std.specs.Str.{IsUtf8}
use Rattle.std.proofs.lemmas.List.Elements.{All-head, All-tail, filter-append}
use Rattle.std.proofs.lemmas.Str.{IsUtf8-append, IsUtf8-from_ascii, IsUtf8-nil}
use Rattle.std.proofs.lemmas.Str.Ascii.{IsAscii-cons, IsAscii-nil}
use Rattle.olap_meaning.specs.Texts.{name_text}
use Rattle.query_meaning.specs.Shown.{is_break, breaks}
use Rattle.query_meaning.specs.Titles.{TitleName, IsTitleName, IsTitle, mark, marked_name, names_text}
use Rattle.grid_reader.proofs.NameTexts.{name_text_no_break, name_text_utf8}

no_breaks : (xs ys : List ℕ) → breaks xs ≡ [] → breaks ys ≡ [] → breaks (xs ++ ys) ≡ []
no_breaks xs ys e f = filter-append is_break xs ys ∙ ap (λ x. x ++ breaks ys) e ∙ f

mark_no_break : (begins : Bool) → breaks (mark begins) ≡ []
mark_no_break true = refl
mark_no_break false = refl

marked_no_break : (names : List TitleName) → All IsTitleName names → breaks (flat_map marked_name names) ≡ []
marked_no_break [] all = refl
marked_no_break (one ∷ names) all =
    no_breaks (marked_name one) (flat_map marked_name names)
    (no_breaks (mark one.begins) (name_text one.name) (mark_no_break one.begins) (name_text_no_break one.name (All-head IsTitleName one names all).1))
    (marked_no_break names (All-tail IsTitleName one names all))

names_no_break : (names : List TitleName) → All IsTitleName names → breaks (names_text names) ≡ []
names_no_break [] all = refl
names_no_break (one ∷ names) all =
    no_breaks (name_text one.name) (flat_map marked_name names) (name_text_no_break one.name (All-head IsTitleName one names all).1) (marked_no_break names (All-tail IsTitleName one names all))

pub title_has_no_break : (text : List ℕ) → IsTitle text → breaks text ≡ []
title_has_no_break text t = ap breaks t.is ∙ names_no_break t.names t.named

mark_utf8 : (begins : Bool) → IsUtf8 (mark begins)
mark_utf8 true = IsUtf8-from_ascii (44 ∷ 32 ∷ []) (IsAscii-cons 44 (32 ∷ []) (omega arith) (IsAscii-cons 32 [] (omega arith) IsAscii-nil))
mark_utf8 false = IsUtf8-from_ascii (46 ∷ []) (IsAscii-cons 46 [] (omega arith) IsAscii-nil)

marked_utf8 : (names : List TitleName) → All IsTitleName names → IsUtf8 (flat_map marked_name names)
marked_utf8 [] all = IsUtf8-nil
marked_utf8 (one ∷ names) all =
    IsUtf8-append (marked_name one) (flat_map marked_name names)
    (IsUtf8-append (mark one.begins) (name_text one.name) (mark_utf8 one.begins) (name_text_utf8 one.name (All-head IsTitleName one names all).1))
    (marked_utf8 names (All-tail IsTitleName one names all))

names_utf8 : (names : List TitleName) → All IsTitleName names → IsUtf8 (names_text names)
names_utf8 [] all = IsUtf8-nil
names_utf8 (one ∷ names) all =
    IsUtf8-append (name_text one.name) (flat_map marked_name names) (name_text_utf8 one.name (All-head IsTitleName one names all).1) (marked_utf8 names (All-tail IsTitleName one names all))

pub title_is_utf8 : (text : List ℕ) → IsTitle text → IsUtf8 text
title_is_utf8 text t = subst IsUtf8 (sym t.is) (names_utf8 t.names t.named)

-- How a title is read name by name.
use Rattle.std.proofs.Common.{◌≡◌, ◌≢◌, ◌∙◌, ◌<◌, ◌++◌, ℕ, Bool, true, false, List, [], ◌∷◌, sym, ap, subst, length, flat_map, arith, append_assoc, append-nil, length-append, All, Option, Some, None, Result, Ok, Err, IfOk, IfSome, IsSomeAnd, Bor}
use Rattle.std.proofs.lemmas.List.{flat_map_more}
use Rattle.std.proofs.lemmas.List.Elements.{All-nil, All-cons, All-head, All-tail, All-push}
use Rattle.olap_meaning.specs.Texts.{name_text}
use Rattle.query_meaning.specs.Titles.{TitleName, IsTitleName, IsTitle, mark, marked_name, names_text}
use Rattle.grid_reader.specs.NameBytes.{NoBracket}

-- a text is name texts after their marks
pub record MarkedNames (text : List ℕ) : Type 0 where
  pub names : List TitleName
  pub named : All IsTitleName names
  pub is : text ≡ flat_map marked_name names

-- a text is a title that is not empty, and this rest
pub record TitleTo (text rest : List ℕ) : Type 0 where
  pub first : TitleName
  pub others : List TitleName
  pub named : All IsTitleName (first ∷ others)
  pub is : text ≡ names_text (first ∷ others) ++ rest

pub title_begins : (text rest : List ℕ) (one : TitleName) → IsTitleName one → text ≡ name_text one.name ++ rest → TitleTo text rest
title_begins text rest one h e = record {
  first = one;
  others = [];
  named = All-cons IsTitleName one [] h (All-nil IsTitleName);
  is = e ∙ ap (λ x. x ++ rest) (sym (append-nil (name_text one.name)));
}

-- one name more
pub title_goes_on : (text rest behind : List ℕ) (one : TitleName) → TitleTo text rest → IsTitleName one → rest ≡ marked_name one ++ behind → TitleTo text behind
title_goes_on text rest behind one t h e = record {
  first = t.first;
  others = t.others ++ one ∷ [];
  named = All-push IsTitleName (t.first ∷ t.others) one t.named h;
  is = t.is ∙ ap (λ x. names_text (t.first ∷ t.others) ++ x) e ∙ sym (append_assoc (names_text (t.first ∷ t.others)) (marked_name one) behind) ∙ ap (λ x. x ++ behind) (flat_map_more marked_name (name_text t.first.name) t.others one);
}

pub title_ends : (text rest : List ℕ) → TitleTo text rest → rest ≡ [] → IsTitle text
title_ends text rest t e = record {
  names = t.first ∷ t.others;
  named = t.named;
  is = t.is ∙ ap (λ x. names_text (t.first ∷ t.others) ++ x) e ∙ append-nil (names_text (t.first ∷ t.others));
}

pub empty_title : (text : List ℕ) → text ≡ [] → IsTitle text
empty_title text e = record { names = []; named = All-nil IsTitleName; is = e }

heads_differ : (a b : ℕ) (x y : List ℕ) → a ≢ b → a ∷ x ≡ b ∷ y → ⊥
heads_differ a b x y n e = n cc

-- a mark begins with no bracket
mark_no_bracket : (begins : Bool) (x others : List ℕ) → mark begins ++ x ≢ 93 ∷ others
mark_no_bracket true x others e = heads_differ 44 93 (32 ∷ x) others (omega arith) e
mark_no_bracket false x others e = heads_differ 46 93 x others (omega arith) e

no_bracket : (names : List TitleName) → NoBracket (flat_map marked_name names)
no_bracket [] others e = cc
no_bracket (one ∷ names) others e = mark_no_bracket one.begins (name_text one.name ++ flat_map marked_name names) others (sym (append_assoc (mark one.begins) (name_text one.name) (flat_map marked_name names)) ∙ e)

-- a text begins with a name, and names after their marks follow
pub record NamesFrom (f : TitleName → List ℕ) (text : List ℕ) : Type 0 where
  pub one : TitleName
  pub others : List TitleName
  pub named : All IsTitleName (one ∷ others)
  pub is : text ≡ f one ++ flat_map marked_name others

pub title_names : (text : List ℕ) → length text ≢ 0 → IsTitle text → NamesFrom (λ one. name_text one.name) text
title_names text some t = parts t.names t.named t.is
  where
    parts : (names : List TitleName) → All IsTitleName names → text ≡ names_text names → NamesFrom (λ one. name_text one.name) text
    parts [] named is = absurd (some (ap length is))
    parts (one ∷ others) named is = record { one = one; others = others; named = named; is = is }

pub marked_names : (text : List ℕ) → length text ≢ 0 → MarkedNames text → NamesFrom marked_name text
marked_names text some t = parts t.names t.named t.is
  where
    parts : (names : List TitleName) → All IsTitleName names → text ≡ flat_map marked_name names → NamesFrom marked_name text
    parts [] named is = absurd (some (ap length is))
    parts (one ∷ others) named is = record { one = one; others = others; named = named; is = is }

-- what stands after a name, where one begins a text
module _ (f : TitleName → List ℕ) (text : List ℕ) (r : Option (Bor (List ℕ))) (wherever : (one : TitleName) (rest : List ℕ) → IsTitleName one → NoBracket rest → text ≡ f one ++ rest → IsSomeAnd r (λ behind. behind.now ≡ rest)) where
  found : (n : NamesFrom f text) → IsSomeAnd r (λ behind. behind.now ≡ flat_map marked_name n.others)
  found n = wherever n.one (flat_map marked_name n.others) (All-head IsTitleName n.one n.others n.named) (no_bracket n.others) n.is

  pub not_none : r ≡ None → ¬ NamesFrom f text
  not_none e n = subst (λ o. IsSomeAnd o (λ behind. behind.now ≡ flat_map marked_name n.others)) e (found n)

  pub names_behind : (behind : Bor (List ℕ)) → r ≡ Some behind → NamesFrom f text → MarkedNames behind.now
  names_behind behind e n = record {
    names = n.others;
    named = All-tail IsTitleName n.one n.others n.named;
    is = subst (λ o. IsSomeAnd o (λ behind. behind.now ≡ flat_map marked_name n.others)) e (found n);
  }

-- what was found at a name
pub found_at : (P : Bor (List ℕ) → Type 0) (r : Option (Bor (List ℕ))) (behind : Bor (List ℕ)) → IfSome r P → r ≡ Some behind → P behind
found_at P r behind h e = subst (λ o. IfSome o P) e h

-- a name after a mark
pub marked_found : {E : Type 0} (text rest : List ℕ) (begins : Bool) (r : Result (Option (Bor (List ℕ))) E) → text ≡ mark begins ++ rest → IfOk r (λ found. IfSome found (λ behind. (one : TitleName) × IsTitleName one × (rest ≡ name_text one.name ++ behind.now))) → IfOk r (λ found. IfSome found (λ behind. (one : TitleName) × IsTitleName one × (text ≡ marked_name one ++ behind.now)))
marked_found text rest begins (Err x) e m = tt
marked_found text rest begins (Ok None) e m = tt
marked_found text rest begins (Ok (Some x)) e m =
    (record { begins = begins; name = m.0.name }, m.1, e ∙ ap (λ t. mark begins ++ t) m.2 ∙ sym (append_assoc (mark begins) (name_text m.0.name) x.now))

-- what stands after a name is shorter
pub shorter : (text behind : List ℕ) (one : TitleName) → text ≡ marked_name one ++ behind → length behind < length text
shorter text behind one e = omega (arith, ap length e, length-append (marked_name one) behind, length-append (mark one.begins) (name_text one.name))

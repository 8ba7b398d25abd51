-- Sets as lists of data, by which a proof tells them apart.
use Rattle.std.specs.Prelude.{ℕ, zero, suc, List, [], ◌∷◌, ◌++◌, ◌≡◌, ◌⊎◌, Bool, true, false}
use Rattle.std.specs.Coded.{Coded, code_by, coded×, coded_ℕ, coded_bool, coded_list, coded⊎}
use Rattle.std.proofs.Common.{inl, inr, refl, sym, ap, ◌∙◌, append_assoc}
use Rattle.std.proofs.lemmas.List.{append-nil}
use Rattle.query_meaning.specs.declared.set_text.Picks.{Picks}
use Rattle.query_meaning.specs.declared.set_text.Picks.TheVariants as picks
use Rattle.query_meaning.specs.Tree.{Set, Sets, Braces, Cross, Tuple, Picked, none, more, before, pushed}

-- a path, a tuple, the front of some sets, or what closes them and where it begins
abbrev pub Item : Type 0
Item = ((ℕ × (List (List ℕ) × ℕ)) ⊎ (ℕ × List (List (List ℕ)))) ⊎ (Bool ⊎ (Bool × ℕ))

abbrev pub item_code : Coded Item
item_code = coded⊎ (coded⊎ (coded× coded_ℕ (coded× (coded_list (coded_list coded_ℕ)) coded_ℕ)) (coded× coded_ℕ (coded_list (coded_list (coded_list coded_ℕ))))) (coded⊎ coded_bool (coded× coded_bool coded_ℕ))

abbrev pub number_of : Picks → ℕ
number_of picks.Itself = 0
number_of picks.Members = 1
number_of picks.Children = 2

abbrev pub picks_of : ℕ → Picks
picks_of zero = picks.Itself
picks_of (suc zero) = picks.Members
picks_of (suc (suc n)) = picks.Children

abbrev mutual
  pub items_of : Set → List Item
  items_of (Braces at sets) = inr (inl true) ∷ (all_items sets ++ inr (inr (true, at)) ∷ [])
  items_of (Cross at first second) = inr (inl true) ∷ (items_of first ++ (items_of second ++ inr (inr (false, at)) ∷ []))
  items_of (Tuple at paths) = inl (inr (at, paths)) ∷ []
  items_of (Picked at path picks) = inl (inl (at, (path, number_of picks))) ∷ []

  pub all_items : Sets → List Item
  all_items none = []
  all_items (more set sets) = items_of set ++ all_items sets

-- a set after those of the innermost open one
abbrev pub added : Set → List Sets → List Sets
added set [] = []
added set (sets ∷ around) = pushed sets set ∷ around

-- the set that is closed
abbrev pub made : Bool → ℕ → Sets → Set
made true at sets = Braces at sets
made false at (more first (more second none)) = Cross at first second
made false at sets = Braces at sets

abbrev pub closed : Bool → ℕ → List Sets → List Sets
closed braces at [] = []
closed braces at (sets ∷ around) = added (made braces at sets) around

abbrev pub read_items : List Item → List Sets → List Sets
read_items [] around = around
read_items (inl (inl (at, (path, picks))) ∷ items) around = read_items items (added (Picked at path (picks_of picks)) around)
read_items (inl (inr (at, paths)) ∷ items) around = read_items items (added (Tuple at paths) around)
read_items (inr (inl opens) ∷ items) around = read_items items (none ∷ around)
read_items (inr (inr (braces, at)) ∷ items) around = read_items items (closed braces at around)

pub before_none : (sets : Sets) → before sets none ≡ sets
before_none none = refl
before_none (more set sets) = ap (more set) (before_none sets)

pub before_assoc : (a b c : Sets) → before (before a b) c ≡ before a (before b c)
before_assoc none b c = refl
before_assoc (more set a) b c = ap (more set) (before_assoc a b c)

same_picks : (p : Picks) → picks_of (number_of p) ≡ p
same_picks picks.Itself = refl
same_picks picks.Members = refl
same_picks picks.Children = refl

mutual
  pub reads_one : (set : Set) (front : Sets) (around : List Sets) (items : List Item) → read_items (items_of set ++ items) (front ∷ around) ≡ read_items items (pushed front set ∷ around)
  reads_one (Picked at path picks) front around items = ap (λ p. read_items items (pushed front (Picked at path p) ∷ around)) (same_picks picks)
  reads_one (Tuple at paths) front around items = refl
  reads_one (Braces at sets) front around items =
      ap (λ x. read_items x (none ∷ front ∷ around)) (append_assoc (all_items sets) (inr (inr (true, at)) ∷ []) items)
      ∙ reads_all sets none (front ∷ around) (inr (inr (true, at)) ∷ items)
  reads_one (Cross at first second) front around items =
      ap (λ x. read_items x (none ∷ front ∷ around)) (append_assoc (items_of first) (items_of second ++ inr (inr (false, at)) ∷ []) items)
      ∙ reads_one first none (front ∷ around) ((items_of second ++ inr (inr (false, at)) ∷ []) ++ items)
      ∙ ap (λ x. read_items x (more first none ∷ front ∷ around)) (append_assoc (items_of second) (inr (inr (false, at)) ∷ []) items)
      ∙ reads_one second (more first none) (front ∷ around) (inr (inr (false, at)) ∷ items)

  pub reads_all : (sets : Sets) (front : Sets) (around : List Sets) (items : List Item) → read_items (all_items sets ++ items) (front ∷ around) ≡ read_items items (before front sets ∷ around)
  reads_all none front around items = ap (λ x. read_items items (x ∷ around)) (sym (before_none front))
  reads_all (more set sets) front around items =
      ap (λ x. read_items x (front ∷ around)) (append_assoc (items_of set) (all_items sets) items)
      ∙ reads_one set front around (all_items sets ++ items)
      ∙ reads_all sets (pushed front set) around items
      ∙ ap (λ x. read_items items (x ∷ around)) (before_assoc front (more set none) sets)

abbrev pub all_of : List Sets → Sets
all_of [] = none
all_of (sets ∷ around) = sets

abbrev pub first_set : Sets → Set
first_set none = Braces 0 none
first_set (more set sets) = set

pub set_again : (set : Set) → first_set (all_of (read_items (items_of set) (none ∷ []))) ≡ set
set_again set = ap (λ x. first_set (all_of (read_items x (none ∷ [])))) (sym (append-nil (items_of set))) ∙ ap (λ x. first_set (all_of x)) (reads_one set none [] [])

pub sets_again : (sets : Sets) → all_of (read_items (all_items sets) (none ∷ [])) ≡ sets
sets_again sets = ap (λ x. all_of (read_items x (none ∷ []))) (sym (append-nil (all_items sets))) ∙ ap all_of (reads_all sets none [] [])

abbrev pub set_code : Coded Set
set_code = code_by (List Item) (coded_list item_code) items_of (λ items. first_set (all_of (read_items items (none ∷ [])))) set_again

abbrev pub sets_code : Coded Sets
sets_code = code_by (List Item) (coded_list item_code) all_items (λ items. all_of (read_items items (none ∷ []))) sets_again

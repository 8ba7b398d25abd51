-- Groups of cells, with one cell more.
use Rattle.std.proofs.Common.{◌≡◌, ◌≤◌, ◌<◌, ◌+◌, ◌∙◌, ℕ, zero, suc, List, [], ◌∷◌, ◌++◌, length, map, filter, drop, take, get_or, refl, sym, ap, arith, inl, inr, Bool, true, false, not, cond, ◌&&◌, ◌||◌, append_assoc, All, slice_set}
use Rattle.std.specs.Borrow.{Bor}
use Rattle.std.specs.List.{list_all, list_any, position_or_len, AllByRecursion}
use Rattle.std.proofs.lemmas.Bool.{and_from, and_parts, cases_Bool, not-true, or_left, or_parts, or_right}
use Rattle.std.proofs.lemmas.List.{append-nil, length-map, map_push}
use Rattle.std.proofs.lemmas.List.Elements.{All-from_recursion, filter-append}
use Rattle.std.proofs.lemmas.List.Folds.{list_any-append}
use Rattle.olap_meaning.specs.declared.cells.Cell.{Cell}
use Rattle.olap_meaning.specs.declared.tables.Catalog.{Catalog}
use Rattle.olap_meaning.specs.Legal.{is_cell}
use Rattle.olap_meaning.proofs.Lists.{all_push, take_step, take_whole}
use Rattle.history_core.specs.Groups.{alike, firsts}
use Rattle.indexmap.specs.IndexSet.{insert_key}
use Rattle.cell_groups.specs.declared.groups.Group.{Group}
use Rattle.cell_groups.specs.Gathered.{seen, with_cell}
use Rattle.cell_groups.specs.Keys.{key_of}
use Rattle.cell_groups.specs.Lent.{lent}
use Rattle.cell_groups.proofs.Alike.{alike_self, alike_turned, any_same}
use Rattle.cell_groups.proofs.KeyFacts.{key_eq, key_tells}

-- ---- cells that are lent

pub length-lent : (xs : List (Bor Cell)) → length (lent xs) ≡ length xs
length-lent [] = refl
length-lent (x ∷ xs) = ap suc (length-lent xs)

pub lent_within : (xs : List (Bor Cell)) (i : ℕ) → i < length xs → i < length (lent xs)
lent_within xs i l = let same = length-lent xs in omega (arith, l, same)

pub lent_at : (xs : List (Bor Cell)) (i : ℕ) (x : Bor Cell) → i < length xs → x ≡ get_or xs i x → x.now ≡ get_or (lent xs) i x.now
lent_at [] i x l is = absurd (omega (arith, l))
lent_at (y ∷ ys) zero x l is = ap (λ (b : Bor Cell). b.now) is
lent_at (y ∷ ys) (suc i) x l is = lent_at ys i x (omega (arith, l)) is

drop_at : {A : Type 0} (xs : List A) (i : ℕ) (x : A) → i < length xs → x ≡ get_or xs i x → drop i xs ≡ x ∷ drop (suc i) xs
drop_at [] i x l is = absurd (omega arith)
drop_at (y ∷ ys) zero x l is = ap (λ z. z ∷ ys) (sym is)
drop_at (y ∷ ys) (suc i) x l is = drop_at ys i x (omega (arith, l)) is

pub item_passes : {A : Type 0} (p : A → Bool) (xs : List A) (i : ℕ) (x : A) → list_all p xs ≡ true → i < length xs → x ≡ get_or xs i x → p x ≡ true
item_passes p [] i x all l is = absurd (omega (arith, l))
item_passes p (y ∷ ys) zero x all l is = ap p is ∙ (and_parts _ _ all).0
item_passes p (y ∷ ys) (suc i) x all l is = item_passes p ys i x (and_parts _ _ all).1 (omega (arith, l)) is

-- ---- one cell more, by what cells are alike

abbrev pub Groups : Type 0
Groups = List (Cell × List Cell)

-- the first cells of groups
abbrev pub heads : Groups → List Cell
heads groups = map (λ group. group.0) groups

-- groups, with one cell more: in the first group that it is alike to, else in one of its own
abbrev put_alike : Cell → Groups → Groups
put_alike cell [] = (cell, cell ∷ []) ∷ []
put_alike cell (group ∷ groups) = cond (alike cell group.0) ((group.0, group.1 ++ cell ∷ []) ∷ groups) (group ∷ put_alike cell groups)

-- the first cells are alike to none after them
abbrev are_apart : List Cell → Bool
are_apart [] = true
are_apart (cell ∷ cells) = not (list_any (alike cell) cells) && are_apart cells

-- a group has the cells that are alike to its first
abbrev HasJust : List Cell → Cell × List Cell → Type 0
HasJust cells group = group.1 ≡ filter (alike group.0) cells

-- groups are those of some cells of a catalog
pub record IsGrouped (catalog : Catalog) (cells : List Cell) (groups : Groups) : Type 0 where
  pub each : AllByRecursion (HasJust cells) groups
  pub apart : are_apart (heads groups) ≡ true
  pub met : list_all (λ cell. list_any (alike cell) (heads groups)) cells ≡ true
  pub known : list_all (is_cell catalog) (heads groups) ≡ true

-- the first cells, with one cell more
heads_put : (cell : Cell) (groups : Groups) → heads (put_alike cell groups) ≡ insert_key alike (heads groups) cell
heads_put cell [] = refl
heads_put cell (group ∷ groups) =
    elim (cases_Bool (alike cell group.0)) [
      | inl same ↦ rw same refl
      | inr other ↦ rw other (ap (λ (cs : List Cell). group.0 ∷ cs) (heads_put cell groups) ∙ inside (list_any (alike cell) (heads groups)))
    ]
  where
    inside : (b : Bool) → group.0 ∷ cond b (heads groups) (heads groups ++ cell ∷ []) ≡ cond b (group.0 ∷ heads groups) (group.0 ∷ heads groups ++ cell ∷ [])
    inside true = refl
    inside false = refl

filter_more : (first : Cell) (cells : List Cell) (cell : Cell) → filter (alike first) (cells ++ cell ∷ []) ≡ cond (alike first cell) (filter (alike first) cells ++ cell ∷ []) (filter (alike first) cells)
filter_more first cells cell = filter-append (alike first) cells (cell ∷ []) ∙ by (alike first cell) refl
  where
    nothing_more : (cs : List Cell) → cs ++ [] ≡ cs
    nothing_more [] = refl
    nothing_more (c ∷ cs) = ap (λ (ds : List Cell). c ∷ ds) (nothing_more cs)

    by : (b : Bool) → alike first cell ≡ b → filter (alike first) cells ++ filter (alike first) (cell ∷ []) ≡ cond b (filter (alike first) cells ++ cell ∷ []) (filter (alike first) cells)
    by true e = rw e refl
    by false e = rw e (nothing_more (filter (alike first) cells))

has_more : (cells : List Cell) (cell : Cell) (group : Cell × List Cell) → alike cell group.0 ≡ true → HasJust cells group → HasJust (cells ++ cell ∷ []) (group.0, group.1 ++ cell ∷ [])
has_more cells cell group same has =
    let turned : alike group.0 cell ≡ true = alike_turned group.0 cell ∙ same in
    ap (λ (cs : List Cell). cs ++ cell ∷ []) has ∙ sym (filter_more group.0 cells cell ∙ ap (λ (b : Bool). cond b (filter (alike group.0) cells ++ cell ∷ []) (filter (alike group.0) cells)) turned)

has_same : (cells : List Cell) (cell : Cell) (group : Cell × List Cell) → alike cell group.0 ≡ false → HasJust cells group → HasJust (cells ++ cell ∷ []) group
has_same cells cell group other has =
    let turned : alike group.0 cell ≡ false = alike_turned group.0 cell ∙ other in
    has ∙ sym (filter_more group.0 cells cell ∙ ap (λ (b : Bool). cond b (filter (alike group.0) cells ++ cell ∷ []) (filter (alike group.0) cells)) turned)

each_other : (cells : List Cell) (cell : Cell) (groups : Groups) → list_any (alike cell) (heads groups) ≡ false → AllByRecursion (HasJust cells) groups → AllByRecursion (HasJust (cells ++ cell ∷ [])) groups
each_other cells cell [] none each = tt
each_other cells cell (group ∷ groups) none each =
    let parts = or_parts (alike cell group.0) (list_any (alike cell) (heads groups)) none in
    (has_same cells cell group parts.0 each.0, each_other cells cell groups parts.1 each.1)

each_put :
    (cells : List Cell) (cell : Cell) (groups : Groups) → are_apart (heads groups) ≡ true → AllByRecursion (HasJust cells) groups → (list_any (alike cell) (heads groups) ≡ false → HasJust (cells ++ cell ∷ []) (cell, cell ∷ []))
    → AllByRecursion (HasJust (cells ++ cell ∷ [])) (put_alike cell groups)
each_put cells cell [] apart each new = (new refl, tt)
each_put cells cell (group ∷ groups) apart each new =
    let parts = and_parts (not (list_any (alike group.0) (heads groups))) (are_apart (heads groups)) apart in
    elim (cases_Bool (alike cell group.0)) [
      | inl same ↦
          let none : list_any (alike cell) (heads groups) ≡ false = any_same cell group.0 (heads groups) same ∙ not-true _ parts.0 in
          rw same (has_more cells cell group same each.0, each_other cells cell groups none each.1)
      | inr other ↦
          let later = each_put cells cell groups parts.1 each.1 (λ none. new (rw other none)) in
          rw other (has_same cells cell group other each.0, later)
    ]

-- a cell that is alike to no first cell is alike to no cell before it
none_alike : (cell : Cell) (firsts cells : List Cell) → list_all (λ c. list_any (alike c) firsts) cells ≡ true → list_any (alike cell) firsts ≡ false → filter (alike cell) cells ≡ []
none_alike cell firsts [] met none = refl
none_alike cell firsts (c ∷ cells) met none =
    let parts = and_parts (list_any (alike c) firsts) (list_all (λ c. list_any (alike c) firsts) cells) met in
    elim (cases_Bool (alike cell c)) [
      | inl same ↦ let found : list_any (alike cell) firsts ≡ true = any_same cell c firsts same ∙ parts.0 in absurd (cc)
      | inr other ↦ rw other (none_alike cell firsts cells parts.1 none)
    ]

new_group : (cells : List Cell) (cell : Cell) (groups : Groups) → list_all (λ c. list_any (alike c) (heads groups)) cells ≡ true → list_any (alike cell) (heads groups) ≡ false → HasJust (cells ++ cell ∷ []) (cell, cell ∷ [])
new_group cells cell groups met none =
    sym
    (filter_more cell cells cell ∙ ap (λ (b : Bool). cond b (filter (alike cell) cells ++ cell ∷ []) (filter (alike cell) cells)) (alike_self cell)
    ∙ ap (λ (cs : List Cell). cs ++ cell ∷ []) (none_alike cell (heads groups) cells met none))

apart_push : (cells : List Cell) (cell : Cell) → are_apart cells ≡ true → list_any (alike cell) cells ≡ false → are_apart (cells ++ cell ∷ []) ≡ true
apart_push [] cell apart none = refl
apart_push (c ∷ cells) cell apart none =
    let parts = and_parts (not (list_any (alike c) cells)) (are_apart cells) apart in
    let others = or_parts (alike cell c) (list_any (alike cell) cells) none in
    let here : list_any (alike c) cells ≡ false = not-true _ parts.0 in
    let turned : alike c cell ≡ false = alike_turned c cell ∙ others.0 in
    let both : list_any (alike c) (cells ++ cell ∷ []) ≡ false = list_any-append (alike c) cells (cell ∷ []) ∙ rw (here, turned) refl in
    rw both (apart_push cells cell parts.1 others.1)

met_push : (firsts cells : List Cell) (cell : Cell) → list_all (λ c. list_any (alike c) firsts) cells ≡ true → list_all (λ c. list_any (alike c) (firsts ++ cell ∷ [])) cells ≡ true
met_push firsts [] cell met = refl
met_push firsts (c ∷ cells) cell met =
    let parts = and_parts (list_any (alike c) firsts) (list_all (λ c. list_any (alike c) firsts) cells) met in
    and_from _ _ (list_any-append (alike c) firsts (cell ∷ []) ∙ or_left _ _ parts.0) (met_push firsts cells cell parts.1)

self_met : (firsts : List Cell) (cell : Cell) → list_any (alike cell) (firsts ++ cell ∷ []) ≡ true
self_met firsts cell = list_any-append (alike cell) firsts (cell ∷ []) ∙ or_right _ _ (or_left _ _ (alike_self cell))

-- groups of some cells stay groups with one cell more
grouped_put : (catalog : Catalog) (cells : List Cell) (cell : Cell) (groups : Groups) → is_cell catalog cell ≡ true → IsGrouped catalog cells groups → IsGrouped catalog (cells ++ cell ∷ []) (put_alike cell groups)
grouped_put catalog cells cell groups known is =
    elim (cases_Bool (list_any (alike cell) (heads groups))) [
      | inl found ↦
          let same : heads (put_alike cell groups) ≡ heads groups = heads_put cell groups ∙ rw found refl in
          record {
            each = each;
            apart = rw same is.apart;
            met = rw same (all_push (λ c. list_any (alike c) (heads groups)) cells cell is.met found);
            known = rw same is.known;
          }
      | inr none ↦
          let more : heads (put_alike cell groups) ≡ heads groups ++ cell ∷ [] = heads_put cell groups ∙ rw none refl in
          record {
            each = each;
            apart = rw more (apart_push (heads groups) cell is.apart none);
            met = rw more (all_push (λ c. list_any (alike c) (heads groups ++ cell ∷ [])) cells cell (met_push (heads groups) cells cell is.met) (self_met (heads groups) cell));
            known = rw more (all_push (is_cell catalog) (heads groups) cell is.known known);
          }
    ]
  where
    each : AllByRecursion (HasJust (cells ++ cell ∷ [])) (put_alike cell groups)
    each = each_put cells cell groups is.apart is.each (new_group cells cell groups is.met)

-- ---- one cell more, by its key

one_more : (n : ℕ) → 1 + n ≡ suc n
one_more n = omega arith

module _ (catalog : Catalog) (few : length catalog.columns ≤ 64) (cell : Cell) (is : is_cell catalog cell ≡ true) where
  -- the place of a key is that of the group
  put_at_key : (groups : Groups) → list_all (is_cell catalog) (heads groups) ≡ true → with_cell (position_or_len (key_eq (key_of cell)) (map key_of (heads groups))) cell groups ≡ put_alike cell groups
  put_at_key [] known = refl
  put_at_key (group ∷ groups) known =
      let parts = and_parts (is_cell catalog group.0) (list_all (is_cell catalog) (heads groups)) known in
      let tells : key_eq (key_of cell) (key_of group.0) ≡ alike cell group.0 = key_tells catalog cell group.0 few is parts.0 in
      elim (cases_Bool (alike cell group.0)) [
        | inl same ↦ let at : key_eq (key_of cell) (key_of group.0) ≡ true = tells ∙ same in rw (at, same) refl
        | inr other ↦ let at : key_eq (key_of cell) (key_of group.0) ≡ false = tells ∙ other in rw (at, other, one_more _) (ap (λ (gs : Groups). group ∷ gs) (put_at_key groups parts.1))
      ]

  key_seen : (cells : List Cell) → list_all (is_cell catalog) cells ≡ true → list_any (key_eq (key_of cell)) (map key_of cells) ≡ list_any (alike cell) cells
  key_seen [] known = refl
  key_seen (c ∷ cells) known =
      let parts = and_parts (is_cell catalog c) (list_all (is_cell catalog) cells) known in
      let tells : key_eq (key_of cell) (key_of c) ≡ alike cell c = key_tells catalog cell c few is parts.0 in
      ap (λ (b : Bool). b || list_any (key_eq (key_of cell)) (map key_of cells)) tells ∙ ap (λ (b : Bool). alike cell c || b) (key_seen cells parts.1)

  keys_more : (cells : List Cell) → list_all (is_cell catalog) cells ≡ true → insert_key key_eq (map key_of cells) (key_of cell) ≡ map key_of (insert_key alike cells cell)
  keys_more cells known =
      ap (λ (b : Bool). cond b (map key_of cells) (map key_of cells ++ key_of cell ∷ [])) (key_seen cells known) ∙ by (list_any (alike cell) cells)
    where
      pushed : (cs : List Cell) → map key_of cs ++ key_of cell ∷ [] ≡ map key_of (cs ++ cell ∷ [])
      pushed [] = refl
      pushed (c ∷ cs) = ap (λ ks. key_of c ∷ ks) (pushed cs)

      by : (b : Bool) → cond b (map key_of cells) (map key_of cells ++ key_of cell ∷ []) ≡ map key_of (cond b cells (cells ++ cell ∷ []))
      by true = refl
      by false = pushed cells

-- what holds after some of the cells: keys stand beside the groups, whose first cells begin those of all cells
pub record SoFar (catalog : Catalog) (cells : List Cell) (done : ℕ) (keys : List (ℕ × ℕ × ℕ)) (groups : Groups) : Type 0 where
  pub keyed : keys ≡ map key_of (heads groups)
  pub begun : heads groups ++ firsts (heads groups) (drop done cells) ≡ firsts [] cells
  pub grouped : IsGrouped catalog (take done cells) groups

pub so_far_none : (catalog : Catalog) (cells : List Cell) → SoFar catalog cells 0 [] []
so_far_none catalog cells = record { keyed = refl; begun = refl; grouped = record { each = tt; apart = refl; met = refl; known = refl } }

-- the first cells, with one cell more
firsts_next :
    (cells : List Cell) (i : ℕ) (cell : Cell) (before : List Cell) → i < length cells → cell ≡ get_or cells i cell
    → insert_key alike before cell ++ firsts (insert_key alike before cell) (drop (suc i) cells) ≡ before ++ firsts before (drop i cells)
firsts_next cells i cell before l is =
    rw (drop_at cells i cell l is) (by (list_any (alike cell) before) refl)
  where
    rest : List Cell
    rest = drop (suc i) cells

    by : (b : Bool) → list_any (alike cell) before ≡ b → cond b before (before ++ cell ∷ []) ++ firsts (cond b before (before ++ cell ∷ [])) rest ≡ before ++ cond b (firsts before rest) (cell ∷ firsts (before ++ cell ∷ []) rest)
    by true e = refl
    by false e = append_assoc before (cell ∷ []) (firsts (before ++ cell ∷ []) rest)

pub so_far_next :
    (catalog : Catalog) (cells : List Cell) (i : ℕ) (cell : Cell) (keys after : List (ℕ × ℕ × ℕ)) (groups made : Groups) → length catalog.columns ≤ 64 → list_all (is_cell catalog) cells ≡ true
    → i < length cells → cell ≡ get_or cells i cell → after ≡ insert_key key_eq keys (key_of cell) → made ≡ with_cell (position_or_len (key_eq (key_of cell)) keys) cell groups
    → SoFar catalog cells i keys groups → SoFar catalog cells (i + 1) after made
so_far_next catalog cells i cell keys after groups made few all l is added put so_far =
    let known : is_cell catalog cell ≡ true = item_passes (is_cell catalog) cells i cell all l is in
    let placed : made ≡ put_alike cell groups = put ∙ ap (λ (ks : List (ℕ × ℕ × ℕ)). with_cell (position_or_len (key_eq (key_of cell)) ks) cell groups) so_far.keyed ∙ put_at_key catalog few cell known groups so_far.grouped.known in
    let firsts_are : heads made ≡ insert_key alike (heads groups) cell = ap heads placed ∙ heads_put cell groups in
    let next : i + 1 ≡ suc i = omega arith in
    record {
      keyed = added ∙ ap (λ (ks : List (ℕ × ℕ × ℕ)). insert_key key_eq ks (key_of cell)) so_far.keyed ∙ keys_more catalog few cell known (heads groups) so_far.grouped.known ∙ ap (map key_of) (sym firsts_are);
      begun = rw (firsts_are, next) (firsts_next cells i cell (heads groups) l is ∙ so_far.begun);
      grouped = rw (placed, take_step cells i cell l is) (grouped_put catalog (take i cells) cell groups known so_far.grouped);
    }

-- ---- the code's groups

-- a cell more in the group at a place
pub put_there : (groups : List Group) (place : ℕ) (cell : Cell) (old new : Group) → place < length groups → old ≡ get_or groups place old → seen new ≡ (old.first.now, lent old.cells.items ++ cell ∷ []) → map seen (slice_set groups place new) ≡ with_cell place cell (map seen groups)
put_there [] place cell old new l was is = absurd (omega (arith, l))
put_there (group ∷ groups) zero cell old new l was is =
    ap (λ (g : Cell × List Cell). g ∷ map seen groups) (is ∙ ap (λ (g : Group). (g.first.now, lent g.cells.items ++ cell ∷ [])) was)
put_there (group ∷ groups) (suc place) cell old new l was is = ap (λ (gs : Groups). seen group ∷ gs) (put_there groups place cell old new (omega (arith, l)) was is)

-- past the last group it begins one
pub put_new : (groups : List Group) (place : ℕ) (cell : Cell) (new : Group) → length groups ≤ place → seen new ≡ (cell, cell ∷ []) → map seen (groups ++ new ∷ []) ≡ with_cell place cell (map seen groups)
put_new [] place cell new l is = ap (λ (g : Cell × List Cell). g ∷ []) is
put_new (group ∷ groups) zero cell new l is = absurd (omega (arith, l))
put_new (group ∷ groups) (suc place) cell new l is = ap (λ (gs : Groups). seen group ∷ gs) (put_new groups place cell new (omega (arith, l)) is)

pub seen_more : (group : Group) (cell : Cell) (xs : List (Bor Cell)) (x : Bor Cell) → xs ≡ group.cells.items ++ x ∷ [] → x.now ≡ cell → lent xs ≡ lent group.cells.items ++ cell ∷ []
seen_more group cell xs x more is = ap lent more ∙ map_push (λ (b : Bor Cell). b.now) group.cells.items x ∙ ap (λ (c : Cell). lent group.cells.items ++ c ∷ []) is

-- the place of a group is among the groups, or next
pub place_within : {A : Type 0} (p : A → Bool) (xs : List A) → position_or_len p xs ≤ length xs
place_within p [] = omega arith
place_within p (x ∷ xs) = by (p x) refl (place_within p xs)
  where
    by : (b : Bool) → p x ≡ b → position_or_len p xs ≤ length xs → position_or_len p (x ∷ xs) ≤ length (x ∷ xs)
    by true e le = rw e (omega arith)
    by false e le = rw e (omega (arith, le))

pub place_below : (p : ℕ × ℕ × ℕ → Bool) (keys : List (ℕ × ℕ × ℕ)) (groups : List Group) → keys ≡ map key_of (heads (map seen groups)) → position_or_len p keys ≤ length groups
place_below p keys groups keyed =
    let within = place_within p keys in
    let same = ap length keyed ∙ length-map (heads (map seen groups)) key_of ∙ length-map (map seen groups) (λ (group : Cell × List Cell). group.0) ∙ length-map groups seen in
    omega (arith, within, same)

-- ---- all cells

drop_all : {A : Type 0} (xs : List A) → drop (length xs) xs ≡ []
drop_all [] = refl
drop_all (x ∷ xs) = drop_all xs

heads_seen : (groups : List Group) → map (λ group. group.first.now) groups ≡ heads (map seen groups)
heads_seen [] = refl
heads_seen (group ∷ groups) = ap (λ (cs : List Cell). group.first.now ∷ cs) (heads_seen groups)

pub all_firsts : (catalog : Catalog) (cells : List Cell) (done : ℕ) (keys : List (ℕ × ℕ × ℕ)) (groups : List Group) → done ≡ length cells → SoFar catalog cells done keys (map seen groups) → map (λ group. group.first.now) groups ≡ firsts [] cells
all_firsts catalog cells done keys groups all so_far =
    let rest : drop done cells ≡ [] = rw all (drop_all cells) in
    heads_seen groups ∙ sym (append-nil (heads (map seen groups))) ∙ rw rest at so_far.begun

each_seen : (cells : List Cell) (groups : List Group) → AllByRecursion (HasJust cells) (map seen groups) → AllByRecursion (λ group. lent group.cells.items ≡ filter (alike group.first.now) cells) groups
each_seen cells [] each = tt
each_seen cells (group ∷ groups) each = (each.0, each_seen cells groups each.1)

pub all_cells : (catalog : Catalog) (cells : List Cell) (done : ℕ) (keys : List (ℕ × ℕ × ℕ)) (groups : List Group) → done ≡ length cells → SoFar catalog cells done keys (map seen groups) → All (λ group. lent group.cells.items ≡ filter (alike group.first.now) cells) groups
all_cells catalog cells done keys groups all so_far =
    let whole : take done cells ≡ cells = rw all (take_whole cells) in
    All-from_recursion _ groups (each_seen cells groups (rw whole at so_far.grouped.each))

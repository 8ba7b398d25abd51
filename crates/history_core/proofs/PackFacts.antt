-- Cells that are kept in few bytes.
use Rattle.std.proofs.Common.{suc, zero, ◌≡◌, ◌∙◌, ◌+◌, ◌≤◌, ◌<◌, ℕ, List, [], ◌∷◌, ◌++◌, Option, None, Some, option_copied, Bor, Result, Ok, Err, IfOk, OnOk, OnErr, refl, subst, sym, ap, map, option_map, arith, take, drop, length, get_or, slice_get, length-append}
use Rattle.std.proofs.lemmas.List.{get_or_push, take_more, take_all, get_or_append_left, append-nil, drop-append-le, length-drop, length-map, drop_more}
use Rattle.std.proofs.lemmas.Option.{slice_get-get_or, slice_get_read, slice_get_past, get_or_from_slice_get, slice_get_within, none-some, same_Some}
use Rattle.std.proofs.lemmas.Slice.Zip.{get_or-zip, length-zip}
use Rattle.std.specs.List.{AllByRecursion, zip}
use Rattle.std.specs.Option.{IsSome}
use Rattle.olap_meaning.specs.declared.cells.Cell.{Cell}
use Rattle.history_core.specs.declared.kinds.Kind.{Kind}
use Rattle.history_core.specs.declared.numbers.Numbers.{Numbers}
use Rattle.history_core.specs.CellSources.{AreNumbersOf, IsPacked, cell_of, kind_at, kind_of, unpacked, value_total}

-- pairs of two lists

pub zip_next : {A B : Type 0} (ks : List A) (vs : List B) (i : ℕ) (k : A) (v : B) → i < length ks → i < length vs → k ≡ get_or ks i k → v ≡ get_or vs i v
    → take (i + 1) (zip ks vs) ≡ take i (zip ks vs) ++ (k, v) ∷ []
zip_next ks vs i k v inside within here there =
    let long : i < length (zip ks vs) = rw length-zip (omega arith) in
    let at : get_or (zip ks vs) i (k, v) ≡ (k, v) = get_or-zip ks vs i (k, v) inside within ∙ (λ j. (sym here j, sym there j)) in
    take_more (zip ks vs) i (k, v) long ∙ ap (λ p. take i (zip ks vs) ++ p ∷ []) at

pub zip_whole : {A B : Type 0} (ks : List A) (vs : List B) (i : ℕ) → length ks ≤ i → take i (zip ks vs) ≡ zip ks vs
zip_whole ks vs i past = take_all i (zip ks vs) (rw length-zip (omega arith))

zip_front : {A B : Type 0} (ks : List A) (vs ws : List B) → length ks ≤ length vs → zip ks (vs ++ ws) ≡ zip ks vs
zip_front [] vs ws long = refl
zip_front (k ∷ ks) [] ws long = absurd (omega arith)
zip_front (k ∷ ks) (v ∷ vs) ws long = ap (λ ps. (k, v) ∷ ps) (zip_front ks vs ws (omega arith))

zip_again : {A B : Type 0} (ps : List (A × B)) → zip (map (λ p. p.0) ps) (map (λ p. p.1) ps) ≡ ps
zip_again [] = refl
zip_again (p ∷ ps) = ap (λ qs. p ∷ qs) (zip_again ps)

-- what is read of cells

pub length-unpacked : (kinds : List Kind) (lists : List (List ℕ)) (cells : List Numbers) (values : List ℕ) → length (unpacked kinds lists cells values) ≡ length cells
length-unpacked kinds lists [] values = refl
length-unpacked kinds lists (cell ∷ cells) values = ap suc (length-unpacked kinds lists cells _)

pub loads-unpacked : (kinds : List Kind) (lists : List (List ℕ)) (cells : List Numbers) (values : List ℕ) (i : ℕ)
    → option_map (λ source. source.loads) (slice_get (unpacked kinds lists cells values) i) ≡ option_map (λ cell. get_or lists cell.loads []) (slice_get cells i)
loads-unpacked kinds lists [] values i = refl
loads-unpacked kinds lists (cell ∷ cells) values zero = refl
loads-unpacked kinds lists (cell ∷ cells) values (suc i) = loads-unpacked kinds lists cells _ i

-- what stays the same where more kinds and more lists are known

kind_more : (kinds more : List Kind) (n : ℕ) → n < length kinds → kind_at (kinds ++ more) n ≡ kind_at kinds n
kind_more kinds more n known = get_or_append_left kinds more _ n known

pub known_more : (kinds more : List Kind) (lists others : List (List ℕ)) (cells : List Numbers) → AllByRecursion (AreNumbersOf kinds lists) cells
    → AllByRecursion (AreNumbersOf (kinds ++ more) (lists ++ others)) cells
known_more kinds more lists others [] known = tt
known_more kinds more lists others (cell ∷ cells) known =
    let kind : cell.kind < length (kinds ++ more) = rw length-append (omega arith) in
    let loads : cell.loads < length (lists ++ others) = rw length-append (omega arith) in
    ((kind, loads), known_more kinds more lists others cells known.1)

pub total_more : (kinds more : List Kind) (lists : List (List ℕ)) (cells : List Numbers) → AllByRecursion (AreNumbersOf kinds lists) cells
    → value_total (kinds ++ more) cells ≡ value_total kinds cells
total_more kinds more lists [] known = refl
total_more kinds more lists (cell ∷ cells) known = rw (kind_more kinds more cell.kind known.0.0, total_more kinds more lists cells known.1) refl

pub unpacked_more : (kinds more : List Kind) (lists others : List (List ℕ)) (cells : List Numbers) (values : List ℕ) → AllByRecursion (AreNumbersOf kinds lists) cells
    → unpacked (kinds ++ more) (lists ++ others) cells values ≡ unpacked kinds lists cells values
unpacked_more kinds more lists others [] values known = refl
unpacked_more kinds more lists others (cell ∷ cells) values known =
    rw (kind_more kinds more cell.kind known.0.0, get_or_append_left lists others [] cell.loads known.0.1, unpacked_more kinds more lists others cells _ known.1) refl

pub packed_more : (kinds more : List Kind) (lists others : List (List ℕ)) (cells : List Numbers) (values : List ℕ) → IsPacked kinds lists cells values
    → IsPacked (kinds ++ more) (lists ++ others) cells values
packed_more kinds more lists others cells values packed =
    record {
      known = known_more kinds more lists others cells packed.known;
      whole = total_more kinds more lists cells packed.known ∙ packed.whole;
    }

-- one cell more

module _ (kinds : List Kind) (lists : List (List ℕ)) (last : Numbers) (cell : Cell) (loads : List ℕ)
    (of_kind : slice_get kinds last.kind ≡ Some (kind_of cell)) (of_loads : slice_get lists last.loads ≡ Some loads) where
  last_kind : kind_at kinds last.kind ≡ kind_of cell
  last_kind = get_or_from_slice_get kinds last.kind (kind_of cell) _ of_kind

  last_source : unpacked kinds lists (last ∷ []) (map (λ pair. pair.1) cell.at) ≡ (record { cell = cell; loads = loads }) ∷ []
  last_source = rw (last_kind, get_or_from_slice_get lists last.loads loads [] of_loads, zip_again cell.at) refl

  pub known_push : (cells : List Numbers) → AllByRecursion (AreNumbersOf kinds lists) cells → AllByRecursion (AreNumbersOf kinds lists) (cells ++ last ∷ [])
  known_push [] known = ((slice_get_within kinds last.kind (kind_of cell) of_kind, slice_get_within lists last.loads loads of_loads), tt)
  known_push (one ∷ cells) known = (known.0, known_push cells known.1)

  pub total_push : (cells : List Numbers) → value_total kinds (cells ++ last ∷ []) ≡ value_total kinds cells + length cell.at
  total_push [] = rw (last_kind, length-map) (omega arith)
  total_push (one ∷ cells) = rw (total_push cells) (omega arith)

  pub unpacked_push : (cells : List Numbers) (values : List ℕ) → value_total kinds cells ≡ length values
      → unpacked kinds lists (cells ++ last ∷ []) (values ++ map (λ pair. pair.1) cell.at) ≡ unpacked kinds lists cells values ++ (record { cell = cell; loads = loads }) ∷ []
  unpacked_push [] [] whole = last_source
  unpacked_push [] (v ∷ values) whole = absurd (omega arith)
  unpacked_push (one ∷ cells) values whole =
      let long : length (kind_at kinds one.kind).columns ≤ length values = omega arith in
      let rest : value_total kinds cells ≡ length (drop (length (kind_at kinds one.kind).columns) values) = rw length-drop (omega arith) in
      rw (zip_front (kind_at kinds one.kind).columns values (map (λ pair. pair.1) cell.at) long, drop-append-le (length (kind_at kinds one.kind).columns) values (map (λ pair. pair.1) cell.at) long, unpacked_push cells _ rest) refl

  pub packed_push : (cells : List Numbers) (values : List ℕ) → IsPacked kinds lists cells values → IsPacked kinds lists (cells ++ last ∷ []) (values ++ map (λ pair. pair.1) cell.at)
  packed_push cells values packed =
      record {
        known = known_push cells packed.known;
        whole = total_push cells ∙ rw (packed.whole, length-append, length-map) refl;
      }

-- a cell at a place

pub known_at : (kinds : List Kind) (lists : List (List ℕ)) (cells : List Numbers) (i : ℕ) (cell : Numbers) → AllByRecursion (AreNumbersOf kinds lists) cells
    → slice_get cells i ≡ Some cell → AreNumbersOf kinds lists cell
known_at kinds lists [] i cell known at = absurd (none-some cell at)
known_at kinds lists (one ∷ cells) zero cell known at = subst (AreNumbersOf kinds lists) (same_Some one cell at) known.0
known_at kinds lists (one ∷ cells) (suc i) cell known at = known_at kinds lists cells i cell known.1 at

pub loads_past : (kinds : List Kind) (lists : List (List ℕ)) (cells : List Numbers) (values : List ℕ) (i : ℕ) → length cells ≤ i
    → option_map (λ source. source.loads) (slice_get (unpacked kinds lists cells values) i) ≡ None
loads_past kinds lists cells values i past = loads-unpacked kinds lists cells values i ∙ ap (option_map (λ cell. get_or lists cell.loads [])) (slice_get_past cells i past)

module _ (kinds : List Kind) (lists : List (List ℕ)) (cells : List Numbers) (values : List ℕ) (i : ℕ) (cell : Numbers) (inside : i < length cells) (there : cell ≡ get_or cells i cell) where
  here : slice_get cells i ≡ Some cell
  here = slice_get_read cells (length cells) i cell refl inside there

  pub loads_there : (loads : List ℕ) → slice_get lists cell.loads ≡ Some loads → option_map (λ source. source.loads) (slice_get (unpacked kinds lists cells values) i) ≡ Some loads
  loads_there loads at =
      loads-unpacked kinds lists cells values i ∙ ap (option_map (λ cell. get_or lists cell.loads [])) here ∙ ap Some (get_or_from_slice_get lists cell.loads loads [] at)

  pub list_known : IsPacked kinds lists cells values → cell.loads < length lists
  list_known packed = (known_at kinds lists cells i cell packed.known here).1

-- where some more kinds and lists may be known

pub packed_grown : (kinds others : List Kind) (lists lasts : List (List ℕ)) (cells : List Numbers) (values : List ℕ) → (more : List Kind) × (others ≡ kinds ++ more) → (more : List (List ℕ)) × (lasts ≡ lists ++ more)
    → IsPacked kinds lists cells values → IsPacked others lasts cells values
packed_grown kinds others lists lasts cells values of_kinds of_lists packed =
    rw (of_kinds.1, of_lists.1) (packed_more kinds of_kinds.0 lists of_lists.0 cells values packed)

pub unpacked_grown : (kinds others : List Kind) (lists lasts : List (List ℕ)) (cells : List Numbers) (values : List ℕ) → (more : List Kind) × (others ≡ kinds ++ more) → (more : List (List ℕ)) × (lasts ≡ lists ++ more)
    → IsPacked kinds lists cells values → unpacked others lasts cells values ≡ unpacked kinds lists cells values
unpacked_grown kinds others lists lasts cells values of_kinds of_lists packed =
    rw (of_kinds.1, of_lists.1) (unpacked_more kinds of_kinds.0 lists of_lists.0 cells values packed.known)

pub same_lists : (lists : List (List ℕ)) → (more : List (List ℕ)) × (lists ≡ lists ++ more)
same_lists lists = ([], sym (append-nil lists))

-- what is there after a cell was added, or was not

module _ {A E : Type 0} (r : Result A E) (kinds : List Kind) (lists : List (List ℕ)) (last : Numbers) (cell : Cell) (loads : List ℕ) (cells after : List Numbers) (values rest : List ℕ)
    (packed : IsPacked kinds lists cells values) where
  pub packed_after : slice_get kinds last.kind ≡ Some (kind_of cell) → slice_get lists last.loads ≡ Some loads
      → OnOk r (after ≡ cells ++ last ∷ []) → OnOk r (rest ≡ values ++ map (λ pair. pair.1) cell.at) → OnErr r (after ≡ cells) → OnErr r (rest ≡ values) → IsPacked kinds lists after rest
  packed_after of_kind of_loads added more kept same =
      elim r as (λ s. OnOk s (after ≡ cells ++ last ∷ []) → OnOk s (rest ≡ values ++ map (λ pair. pair.1) cell.at) → OnErr s (after ≡ cells) → OnErr s (rest ≡ values) → IsPacked kinds lists after rest) [
        | Ok x ↦ λ a m k s. rw (a, m) (packed_push kinds lists last cell loads of_kind of_loads cells values packed)
        | Err e ↦ λ a m k s. rw (k, s) packed
      ] added more kept same

  pub unpacked_after : slice_get kinds last.kind ≡ Some (kind_of cell) → slice_get lists last.loads ≡ Some loads
      → OnOk r (after ≡ cells ++ last ∷ []) → OnOk r (rest ≡ values ++ map (λ pair. pair.1) cell.at)
      → OnOk r (unpacked kinds lists after rest ≡ unpacked kinds lists cells values ++ (record { cell = cell; loads = loads }) ∷ [])
  unpacked_after of_kind of_loads added more =
      elim r as (λ s. OnOk s (after ≡ cells ++ last ∷ []) → OnOk s (rest ≡ values ++ map (λ pair. pair.1) cell.at) → OnOk s (unpacked kinds lists after rest ≡ unpacked kinds lists cells values ++ (record { cell = cell; loads = loads }) ∷ [])) [
        | Ok x ↦ λ a m. rw (a, m) (unpacked_push kinds lists last cell loads of_kind of_loads cells values packed.whole)
        | Err e ↦ λ a m. tt
      ] added more

  pub unpacked_err : OnErr r (after ≡ cells) → OnErr r (rest ≡ values) → OnErr r (unpacked kinds lists after rest ≡ unpacked kinds lists cells values)
  unpacked_err kept same =
      elim r as (λ s. OnErr s (after ≡ cells) → OnErr s (rest ≡ values) → OnErr s (unpacked kinds lists after rest ≡ unpacked kinds lists cells values)) [
        | Ok x ↦ λ k s. tt
        | Err e ↦ λ k s. rw (k, s) refl
      ] kept same

-- an item that a list lends

pub lent_is_some : {A : Type 0} (items : List A) (i : ℕ) (d : A) (found : Option (Bor A)) → option_copied found ≡ slice_get items i → i < length items → IsSome found
lent_is_some items i d None is inside = absurd (none-some (get_or items i d) (is ∙ slice_get-get_or items i d inside))
lent_is_some items i d (Some item) is inside = refl

pub lent_at : {A : Type 0} (items : List A) (i : ℕ) (d : A) (found : Option (Bor A)) (item : Bor A) → option_copied found ≡ slice_get items i → found ≡ Some item → item.now ≡ get_or items i d
lent_at items i d found item is some = sym (get_or_from_slice_get items i item.now d (sym is ∙ ap option_copied some))

-- the cells that are left from a place on

module _ (kinds : List Kind) (lists : List (List ℕ)) (cells : List Numbers) (i : ℕ) (d : Numbers) (values : List ℕ) (inside : i < length cells) where
  left_packed : IsPacked kinds lists (drop i cells) values → IsPacked kinds lists (get_or cells i d ∷ drop (i + 1) cells) values
  left_packed packed = subst (λ (left : List Numbers). IsPacked kinds lists left values) (drop_more cells i d inside) packed

  pub known_here : IsPacked kinds lists (drop i cells) values → AreNumbersOf kinds lists (get_or cells i d)
  known_here packed = (left_packed packed).known.0

  pub values_here : IsPacked kinds lists (drop i cells) values → length (kind_at kinds (get_or cells i d).kind).columns ≤ length values
  values_here packed = let whole = (left_packed packed).whole in omega (arith, whole)

  pub packed_on : IsPacked kinds lists (drop i cells) values → IsPacked kinds lists (drop (i + 1) cells) (drop (length (kind_at kinds (get_or cells i d).kind).columns) values)
  packed_on packed =
      let whole = (left_packed packed).whole in
      record {
        known = (left_packed packed).known.1;
        whole = rw length-drop (omega (arith, whole));
      }

  pub unpacked_on : unpacked kinds lists (drop i cells) values
      ≡ (record { cell = cell_of (kind_at kinds (get_or cells i d).kind) values; loads = get_or lists (get_or cells i d).loads [] })
      ∷ unpacked kinds lists (drop (i + 1) cells) (drop (length (kind_at kinds (get_or cells i d).kind).columns) values)
  unpacked_on = ap (λ (left : List Numbers). unpacked kinds lists left values) (drop_more cells i d inside)

-- one thing more at the end, or none where there is no memory

pub added_kept : {A E : Type 0} (r : Result ℕ E) (before after : List A) (thing : A) → OnOk r (after ≡ before ++ thing ∷ []) → OnErr r (after ≡ before) → (more : List A) × (after ≡ before ++ more)
added_kept (Ok number) before after thing ok err = (thing ∷ [], ok)
added_kept (Err e) before after thing ok err = ([], err ∙ sym (append-nil before))

pub added_number : {A E : Type 0} (r : Result ℕ E) (before after : List A) (thing other : A) → thing ≡ other → IfOk r (λ number. number ≡ length before) → OnOk r (after ≡ before ++ thing ∷ []) → IfOk r (λ number. slice_get after number ≡ Some other)
added_number (Ok number) before after thing other same at ok =
    let inside : number < length (before ++ thing ∷ []) = rw length-append (omega arith) in
    let found : slice_get (before ++ thing ∷ []) number ≡ Some thing = slice_get_read (before ++ thing ∷ []) _ number thing refl inside (sym (get_or_push before thing thing number (sym at))) in
    ap (λ things. slice_get things number) ok ∙ found ∙ ap Some same
added_number (Err e) before after thing other same at ok = tt

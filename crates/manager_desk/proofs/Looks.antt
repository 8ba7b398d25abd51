-- Loads that are started and ended in one go are those of one look.
use Rattle.std.proofs.Common.{◌≡◌, refl, sym, ◌∙◌, ap, subst, ℕ, zero, suc, ◌+◌, ◌-◌, ◌<◌, List, [], ◌∷◌, ◌++◌, length, map, filter, inl, inr, true, Some, None, slice_get, arith, All, Contains}
use Rattle.std.specs.List.{AllZip, list_all, zip}
use Rattle.std.proofs.Math.Seq.{take-append_seam}
use Rattle.std.proofs.lemmas.List.{append-nil}
use Rattle.std.proofs.lemmas.List.Elements.{All-append, All-contains, All-nil}
use Rattle.olap_meaning.specs.declared.cells.Cell.{Cell}
use Rattle.olap_meaning.specs.declared.cells.Header.{Header}
use Rattle.olap_meaning.specs.declared.cells.Who.{Who}
use Rattle.olap_meaning.specs.History.{Entry, Load, Start, entry_at, load_at, started}
use Rattle.olap_meaning.proofs.Loads.{load_start, start_load}
use Rattle.olap_meaning.proofs.Members.{in_first, in_rest}
use Rattle.olap_meaning.proofs.Lists.{holds_at}
use Rattle.history_core.specs.Cache.{CacheOf}
use Rattle.history_core.specs.Groups.{IsHeaderFor, alike, firsts, load_with, loads_with, wanted_of}
use Rattle.segment_header.specs.Widening.{Allowing}
use Rattle.history_core.specs.Seats.{actor, entries_of}
use Rattle.line_session.specs.Desks.{AreEnds, AreHeadersOf, AreLoadsFor, IsLoadOfLook, IsOfLook, MayBeStarted, drops_are_last, is_of_load, load_numbers, with_more}
use Rattle.manager_desk.proofs.Lists.{get_before, get_behind}
use Rattle.olap_meaning.proofs.Pushes.{load_within}
use Rattle.manager_desk.proofs.Own.{IsPartOf, ends_parts, ends_start_none, loads_own, own_entries, parts_all, parts_seat, starts_parts}

start_back : (loads : List Load) (ends : List Entry) (i : ℕ) (load : Load) → All (λ e. started e ≡ None) ends → slice_get (map Start loads ++ ends) i ≡ Some (Start load) → slice_get loads i ≡ Some load
start_back [] ends i load none at = let no : started (Start load) ≡ None = holds_at (λ e. started e ≡ None) ends i (Start load) none at in absurd (cc)
start_back (l ∷ ls) ends zero load none at = cc
start_back (l ∷ ls) ends (suc i) load none at = start_back ls ends i load none at

start_on : (loads : List Load) (ends : List Entry) (k : ℕ) (load : Load) → slice_get loads k ≡ Some load → slice_get (map Start loads ++ ends) k ≡ Some (Start load)
start_on [] ends k load at = absurd (cc)
start_on (l ∷ ls) ends zero load at = cc
start_on (l ∷ ls) ends (suc k) load at = start_on ls ends k load at

-- Starts stand before all that is given up
pub starts_first : (loads : List Load) (ends : List Entry) → drops_are_last ends ≡ true → drops_are_last (map Start loads ++ ends) ≡ true
starts_first [] ends last = last
starts_first (load ∷ loads) ends last = starts_first loads ends last

-- each load of a look is one that the look may start
may_be_started :
    (allowing : Allowing) (before : CacheOf) (who : Who) (cells : List Cell) (headers : List Header) → AreHeadersOf allowing before cells headers → (i : ℕ) (load : Load) → slice_get (loads_with before who cells headers) i ≡ Some load
    → MayBeStarted allowing before who cells load
may_be_started allowing before who cells headers allowed i load at = by (firsts [] (wanted_of before cells)) headers i allowed at (λ first held. held)
  where
    by :
        (cs : List Cell) (hs : List Header) (k : ℕ) → AllZip (λ first header. IsHeaderFor allowing before.setting.catalog first (filter (alike first) (wanted_of before cells)) header) cs hs
        → slice_get (map (λ pair. load_with before who pair.0 pair.1) (zip cs hs)) k ≡ Some load → ((first : Cell) → Contains cs first → Contains (firsts [] (wanted_of before cells)) first) → MayBeStarted allowing before who cells load
    by [] hs k all here into = absurd (cc)
    by (c ∷ cs) [] k all here into = absurd all
    by (c ∷ cs) (h ∷ hs) zero all here into =
        let same : load_with before who c h ≡ load = cc in
        record {
          first = c;
          own = into c (in_first c cs);
          allowed = subst (λ (l : Load). IsHeaderFor allowing before.setting.catalog c (filter (alike c) (wanted_of before cells)) l.header) same all.0;
          load_is = sym same ∙ ap (λ (l : Load). load_with before who c l.header) same;
        }
    by (c ∷ cs) (h ∷ hs) (suc k) all here into = by cs hs k all.1 here (λ first held. into first (in_rest c cs first held))

module _ (allowing : Allowing) (before : CacheOf) (who : Who) (cells : List Cell) (headers : List Header) (allowed : AreHeadersOf allowing before cells headers) (ends : List Entry) where
  -- which load of the look stands at a position
  here : (b i : ℕ) (load : Load) → All (λ e. started e ≡ None) ends → b ≡ length before.entries + i → load_at (before.entries ++ (map Start (loads_with before who cells headers) ++ ends)) (suc b) ≡ Some load → slice_get (loads_with before who cells headers) i ≡ Some load
  here b i load none pos at =
      start_back (loads_with before who cells headers) ends i load none
      (sym (get_behind before.entries (map Start (loads_with before who cells headers) ++ ends) b i pos) ∙ load_start (before.entries ++ (map Start (loads_with before who cells headers) ++ ends)) (suc b) load at)

  -- the entries between are Starts of the call
  together : (i : ℕ) (load : Load) (q : ℕ) → slice_get (loads_with before who cells headers) i ≡ Some load → length before.entries < q → q < suc (length before.entries + i)
      → (other : Load) × (load_at (before.entries ++ (map Start (loads_with before who cells headers) ++ ends)) q ≡ Some other) × (other.who ≡ who)
  together i load zero found late early = absurd (omega (arith, late))
  together i load (suc c) found late early =
      let pos : c ≡ length before.entries + (c - length before.entries) = omega (arith, late) in
      let other = get_before (loads_with before who cells headers) i load (c - length before.entries) found (omega (arith, late, early)) in
      let entry : entry_at (before.entries ++ (map Start (loads_with before who cells headers) ++ ends)) (suc c) ≡ Some (Start other.0) =
      get_behind before.entries (map Start (loads_with before who cells headers) ++ ends) c (c - length before.entries) pos ∙ start_on (loads_with before who cells headers) ends (c - length before.entries) other.0 other.1 in (
        other.0,
        start_load (before.entries ++ (map Start (loads_with before who cells headers) ++ ends)) (suc c) other.0 entry,
        holds_at (λ (l : Load). l.who ≡ who) (loads_with before who cells headers) (c - length before.entries) other.0 (loads_own before who cells headers) other.1,
      )

  -- each Start is one of the look after what there was
  is_of_look : (p : ℕ) (load : Load) → All (λ e. started e ≡ None) ends → length before.entries < p → load_at (before.entries ++ (map Start (loads_with before who cells headers) ++ ends)) p ≡ Some load
      → IsOfLook allowing (with_more before (map Start (loads_with before who cells headers) ++ ends)) (length before.entries) who cells p load
  is_of_look zero load none late at = absurd (omega (arith, late))
  is_of_look (suc b) load none late at =
      let pos : b ≡ length before.entries + (b - length before.entries) = omega (arith, late) in
      let found = here b (b - length before.entries) load none pos at in
      record {
        front = length before.entries;
        late = omega arith;
        earlier = late;
        together = λ q behind early. together (b - length before.entries) load q found behind (omega (arith, pos, early));
        given =
            subst (λ (es : List Entry). IsLoadOfLook allowing before es who cells load) (sym (take-append_seam before.entries (map Start (loads_with before who cells headers) ++ ends)))
            (may_be_started allowing before who cells headers allowed (b - length before.entries) load found);
      }

-- the parts of the loads of a look
pub look_parts : (before : CacheOf) (who : Who) (cells : List Cell) (headers : List Header) (ends : List Entry) → AreEnds who (load_numbers before cells) ends → All (IsPartOf who) (map Start (loads_with before who cells headers) ++ ends)
look_parts before who cells headers ends are =
    All-append (IsPartOf who) (map Start (loads_with before who cells headers)) ends (starts_parts who (loads_with before who cells headers) (loads_own before who cells headers)) (ends_parts who (load_numbers before cells) ends are)

-- loads that were started and ended are loads for the cells of their look
pub are_loads_for : (allowing : Allowing) (before : CacheOf) (who : Who) (cells : List Cell) (headers : List Header) → AreHeadersOf allowing before cells headers → (ends : List Entry) → AreEnds who (load_numbers before cells) ends → AreLoadsFor allowing before who cells (map Start (loads_with before who cells headers) ++ ends)
are_loads_for allowing before who cells headers allowed ends are =
    let parts : All (IsPartOf who) (map Start (loads_with before who cells headers) ++ ends) = look_parts before who cells headers ends are in
    let own : entries_of (map Start (loads_with before who cells headers) ++ ends) who.seat ≡ map Start (loads_with before who cells headers) ++ ends =
    own_entries who.seat (map Start (loads_with before who cells headers) ++ ends) (parts_seat who who.seat (map Start (loads_with before who cells headers) ++ ends) refl parts) in
    record {
      parts = ap (list_all is_of_load) own ∙ parts_all who (map Start (loads_with before who cells headers) ++ ends) parts;
      call = λ entry has.
          (All-contains (IsPartOf who) (map Start (loads_with before who cells headers) ++ ends) entry parts (subst (λ (es : List Entry). Contains es entry) own has)).own;
      starts = λ p load late at _. is_of_look allowing before who cells headers allowed ends p load (ends_start_none who (load_numbers before cells) ends are) late at;
    }

-- where nothing was added, there are no loads
pub no_loads_for : (allowing : Allowing) (before : CacheOf) (who : Who) (cells : List Cell) → AreLoadsFor allowing before who cells []
no_loads_for allowing before who cells = record {
  parts = refl;
  call = λ entry has. All-contains (λ e. actor e ≡ Some who) [] entry (All-nil (λ e. actor e ≡ Some who)) has;
  starts = λ p load late at _.
      let within = load_within before.entries p load (ap (λ (es : List Entry). load_at es p) (sym (append-nil before.entries)) ∙ at) in
      absurd (omega (arith, late, within.1));
}

-- Cells that are taken from sources may be answered, and the answer is fresh.
use Rattle.std.proofs.Common.{◌≡◌, refl, sym, ◌∙◌, ap, ℕ, suc, ◌≤◌, List, [], ◌∷◌, ◌++◌, length, map, take, take_all, true, Option, Some, None, slice_get, option_map, option_and_then, arith, nat_le, All}
use Rattle.std.specs.List.{list_all, zip, AllByRecursion as Each}
use Rattle.std.proofs.lemmas.Bool.{and_from, and_parts, le-leb}
use Rattle.std.proofs.lemmas.List.{length_push}
use Rattle.std.proofs.lemmas.List.Elements.{All-head, All-tail}
use Rattle.olap_meaning.specs.declared.cells.CellSource.{CellSource}
use Rattle.olap_meaning.specs.declared.cells.Who.{Who}
use Rattle.olap_meaning.specs.declared.tables.Setting.{Setting}
use Rattle.olap_meaning.specs.History.{Entry, Answer, Load, floor, load_at, load_version}
use Rattle.olap_meaning.specs.Legal.{IsAnswered, IsSource, Legal, LegalStep, is_next_call, is_cell}
use Rattle.olap_meaning.specs.Worth.{answered_version}
use Rattle.olap_meaning.proofs.Fresh.{answers_are_fresh}
use Rattle.olap_meaning.proofs.Growing.{floor_grows, legal_grows}
use Rattle.olap_meaning.proofs.Positions.{get_last}
use Rattle.history_core.specs.declared.answers.Answered.{Answered}
use Rattle.olap_meaning.proofs.Pushes.{load_on}

-- a cell that is taken from a source
abbrev pub IsSourced : Setting → List Entry → CellSource → Type 0
IsSourced setting entries source = IsSource setting.catalog entries source.cell source.loads

pub each_answered : (setting : Setting) (entries : List Entry) (sources : List CellSource) → list_all (is_cell setting.catalog) (map (λ source. source.cell) sources) ≡ true → All (IsSourced setting entries) sources → Each (IsAnswered setting entries) sources
each_answered setting entries [] known sourced = tt
each_answered setting entries (source ∷ sources) known sourced =
    (record { known = (and_parts _ _ known).0; source = All-head (IsSourced setting entries) source sources sourced }, each_answered setting entries sources (and_parts _ _ known).1 (All-tail (IsSourced setting entries) source sources sourced))

some_version : (o : Option Load) (v : ℕ) → option_map (λ (load : Load). load.version) o ≡ Some v → (load : Load) × (o ≡ Some load) × (load.version ≡ v)
some_version None v h = absurd (cc)
some_version (Some load) v h = (load, refl, cc)

-- no cell is answered in a version below its floor
fresh_one : (setting : Setting) (entries : List Entry) (who : Who) (source : CellSource) (v : ℕ) → Legal setting entries → is_next_call entries who ≡ true → is_cell setting.catalog source.cell ≡ true → IsSourced setting entries source → answered_version entries source ≡ Some v → floor entries source.cell ≤ v
fresh_one setting entries who source v legal call known sourced at = by (slice_get source.loads 0) refl at
  where
    after : List Entry
    after = entries ++ Answer who (source ∷ []) ∷ []

    by : (o : Option ℕ) → slice_get source.loads 0 ≡ o → option_and_then (load_version entries) o ≡ Some v → floor entries source.cell ≤ v
    by None e h = absurd (cc)
    by (Some j) e h =
        let step : LegalStep setting entries (Answer who (source ∷ [])) = (call, (record { known = known; source = sourced }, tt)) in
        let lawful : Legal setting after = legal_grows setting entries (Answer who (source ∷ [])) legal step in
        let fresh = answers_are_fresh setting after lawful (suc (length entries)) who (source ∷ []) (get_last entries (Answer who (source ∷ []))) source (0, omega arith, refl) in
        let whole : take (suc (length entries)) after ≡ after = take_all (suc (length entries)) after (let l = length_push entries (Answer who (source ∷ [])) in omega (arith, l)) in
        let load = some_version (load_at entries j) v h in
        let later : answered_version after source ≡ Some v =
        ap (λ (o : Option ℕ). option_and_then (load_version after) o) e ∙ ap (option_map (λ (l : Load). l.version)) (load_on entries (Answer who (source ∷ [])) j load.0 load.1) ∙ ap Some load.2 in
        let both : Some fresh.0 ≡ Some v = sym (ap (λ (xs : List Entry). answered_version xs source) (sym whole) ∙ fresh.1) ∙ later in
        let same : fresh.0 ≡ v = cc in
        let floors : floor (take (suc (length entries)) after) source.cell ≡ floor entries source.cell = ap (λ (xs : List Entry). floor xs source.cell) whole ∙ floor_grows entries (Answer who (source ∷ [])) source.cell in
        omega (arith, floors, fresh.2, same)

pub all_fresh :
    (setting : Setting) (entries : List Entry) (who : Who) (sources : List CellSource) (answered : List Answered) → Legal setting entries → is_next_call entries who ≡ true → list_all (is_cell setting.catalog) (map (λ source. source.cell) sources) ≡ true → All (IsSourced setting entries) sources
    → map (answered_version entries) sources ≡ map (λ one. Some one.version) answered → list_all (λ pair. nat_le (floor entries pair.0) pair.1.version) (zip (map (λ source. source.cell) sources) answered) ≡ true
all_fresh setting entries who [] answered legal call known sourced same = refl
all_fresh setting entries who (source ∷ sources) [] legal call known sourced same = refl
all_fresh setting entries who (source ∷ sources) (one ∷ others) legal call known sourced same =
    let here : answered_version entries source ≡ Some one.version = cc in
    let rest : map (answered_version entries) sources ≡ map (λ o. Some o.version) others = cc in
    and_from _ _ (le-leb _ _ (fresh_one setting entries who source one.version legal call (and_parts _ _ known).0 (All-head (IsSourced setting entries) source sources sourced) here))
    (all_fresh setting entries who sources others legal call (and_parts _ _ known).1 (All-tail (IsSourced setting entries) source sources sourced) rest)

-- What is shown of the kept loads.
use Rattle.std.proofs.Common.{◌≡◌, refl, sym, ◌∙◌, ap, ℕ, zero, suc, ◌<◌, ◌≤◌, List, [], ◌∷◌, length, map, filter, get_or, Bool, true, false, cond, ◌==◌, inl, inr, Option, Some, None, option_map, filter_map, arith, All}
use Rattle.std.specs.Prelude.{option_copied}
use Rattle.std.specs.Borrow.{Bor}
use Rattle.std.specs.List.{cons_option, find}
use Rattle.std.proofs.lemmas.Bool.{both_ways, eq-eqb, eqb-true, or_cases, or_left, or_right}
use Rattle.std.proofs.lemmas.List.Elements.{All-head, All-tail}
use Rattle.cell_groups.proofs.HeaderFacts.{passing_there, rise_passing, there_passes}
use Rattle.olap_meaning.specs.declared.cells.Header.{Header}
use Rattle.olap_meaning.specs.declared.regions.Region.{Region}
use Rattle.olap_meaning.specs.declared.tables.Catalog.{Catalog}
use Rattle.olap_meaning.specs.Covering.{among, touching}
use Rattle.olap_meaning.specs.Legal.{rise}
use Rattle.olap_meaning.specs.History.{Entry, flush_count, kept, load_at, shutting}
use Rattle.olap_meaning.proofs.Shutting.{touching_are_counted}
use Rattle.history_core.specs.declared.answers.CacheLine.{CacheLine}
use Rattle.history_core.specs.Groups.{numbers_from}
use Rattle.cache_flush.specs.declared.kept.Kept.{Kept}
use Rattle.cache_flush.specs.Loads.{KeptOf, kept_in}
use Rattle.cache_manager.specs.Kept.{IsKept}
use Rattle.history_core.specs.Shown.{cache_lines, kept_line, line_of}
use Rattle.cache_manager.proofs.Managing.{numbers_kept}
use Rattle.olap_meaning.proofs.Pushes.{load_within}
use Rattle.cache_manager.proofs.Rising.{same_rising}
use Rattle.cache_manager.proofs.Serving.{load_among}

-- a kept load is found by its number
pub kept_found : (P : KeptOf → Type 0) (loads : List KeptOf) (j : ℕ) → All P loads → among (map (λ k. k.load) loads) j ≡ true → (k : KeptOf) × (find (λ (o : KeptOf). o.load == j) loads ≡ Some k) × P k × (k.load ≡ j)
kept_found P [] j all h = absurd (cc)
kept_found P (k ∷ ks) j all h = by (k.load == j) refl (kept_found P ks j (All-tail P k ks all))
  where
    by : (b : Bool) → (k.load == j) ≡ b → (among (map (λ o. o.load) ks) j ≡ true → (o : KeptOf) × (find (λ (q : KeptOf). q.load == j) ks ≡ Some o) × P o × (o.load ≡ j))
        → (o : KeptOf) × (find (λ (q : KeptOf). q.load == j) (k ∷ ks) ≡ Some o) × P o × (o.load ≡ j)
    by true e more = (k, rw e refl, All-head P k ks all, eqb-true k.load j e)
    by false e more = pass e (more (elim (or_cases (k.load == j) (among (map (λ o. o.load) ks) j) h) [ inl same ↦ absurd (both_ways _ e same) | inr rest ↦ rest ]))
      where
        pass : (k.load == j) ≡ false → (o : KeptOf) × (find (λ (q : KeptOf). q.load == j) ks ≡ Some o) × P o × (o.load ≡ j) → (o : KeptOf) × (find (λ (q : KeptOf). q.load == j) (k ∷ ks) ≡ Some o) × P o × (o.load ≡ j)
        pass other rest = (rest.0, rw other rest.1, rest.2, rest.3)

-- and so is what the shelf answers
pub some_kept : (regions : List Region) (r : Option (Bor Kept)) (k : KeptOf) → option_map (kept_in regions) (option_copied r) ≡ Some k → (b : Bor Kept) × (r ≡ Some b) × (kept_in regions b.now ≡ k)
some_kept regions None k h = absurd (cc)
some_kept regions (Some b) k h = (b, refl, cc)

module _ (catalog : Catalog) (entries : List Entry) where
  -- the line of a kept load
  pub line_told : (k : KeptOf) (j : ℕ) → IsKept catalog entries k → k.load ≡ j → kept_line entries j ≡ Some (record { load = j; version = k.version; header = k.body.header; flushes = touching k.body.header k.shut })
  line_told k j is same =
      let keeps : kept entries j ≡ true = ap (kept entries) (sym same) ∙ is.delivered in
      let at : load_at entries j ≡ Some is.load = ap (load_at entries) (sym same) ∙ is.started in
      let counted : flush_count entries j ≡ touching k.body.header k.shut =
      touching_are_counted entries j is.load at ∙ ap (λ (h : Header). touching h (shutting entries j)) (sym is.holds.own_header) ∙ ap (touching k.body.header) (ap (shutting entries) (sym same) ∙ sym is.shut) in
      ap (λ (b : Bool). cond b (option_map (line_of entries j) (load_at entries j)) None) keeps
      ∙ ap (option_map (line_of entries j)) at
      ∙ ap Some
      (ap (λ (v : ℕ). line j v is.load.header (flush_count entries j)) (sym is.version)
      ∙ ap (λ (h : Header). line j k.version h (flush_count entries j)) (sym is.holds.own_header)
      ∙ ap (line j k.version k.body.header) counted)
    where
      line : ℕ → ℕ → Header → ℕ → CacheLine
      line n v h f = record { load = n; version = v; header = h; flushes = f }

  module _ (loads : List KeptOf) (all : All (IsKept catalog entries) loads) (every : (j : ℕ) → kept entries j ≡ true → among (map (λ k. k.load) loads) j ≡ true) where
    -- a load that the history keeps stands within it
    kept_within : (j : ℕ) → kept entries j ≡ true → (1 ≤ j) × (j ≤ length entries)
    kept_within j h =
        let found = load_among (IsKept catalog entries) loads j all (every j h) in
        let within = load_within entries found.0.load found.1.load found.1.started in
        (omega (arith, within.0, found.2), omega (arith, within.1, found.2))

    -- the numbers of the kept loads, rising
    pub numbers_are : (numbers : List ℕ) → rise numbers ≡ true → ((j : ℕ) → among numbers j ≡ among (map (λ k. k.load) loads) j) → numbers ≡ filter (kept entries) (numbers_from 1 (length entries))
    numbers_are numbers up just =
        same_rising numbers (filter (kept entries) (numbers_from 1 (length entries))) up (rise_passing (kept entries) 1 (length entries))
        (λ v h.
        let keeps = numbers_kept catalog entries loads v all (sym (just v) ∙ h) in
        let within = kept_within v keeps in
        passing_there (kept entries) 1 (length entries) v within.0 (omega (arith, within.1)) keeps)
        (λ v h. just v ∙ every v (there_passes (kept entries) 1 (length entries) v h))

-- what gives nothing may be left out
given_of : {A B : Type 0} (f : A → Option B) (p : A → Bool) → ((x : A) → p x ≡ false → f x ≡ None) → (xs : List A) → filter_map f (filter p xs) ≡ filter_map f xs
given_of f p none [] = refl
given_of {B = B} f p none (x ∷ xs) = by (p x) refl (given_of f p none xs)
  where
    by : (b : Bool) → p x ≡ b → filter_map f (filter p xs) ≡ filter_map f xs → filter_map f (filter p (x ∷ xs)) ≡ filter_map f (x ∷ xs)
    by true e rest = rw e (some (f x) refl rest)
      where
        some : (o : Option B) → f x ≡ o → filter_map f (filter p xs) ≡ filter_map f xs → filter_map f (x ∷ filter p xs) ≡ filter_map f (x ∷ xs)
        some None g more = rw g more
        some (Some l) g more = rw g (ap (λ (ls : List B). l ∷ ls) more)
    by false e rest = rw e (rest ∙ sym (ap (λ (o : Option B). cons_option o (filter_map f xs)) (none x e)))

-- those that are not kept have no line
lines_of_kept : (entries : List Entry) (numbers : List ℕ) → filter_map (kept_line entries) (filter (kept entries) numbers) ≡ filter_map (kept_line entries) numbers
lines_of_kept entries numbers = given_of (kept_line entries) (kept entries) (λ j e. ap (λ (b : Bool). cond b (option_map (line_of entries j) (load_at entries j)) None) e) numbers

-- where each has a line, these are the lines
lines_from : (f : ℕ → Option CacheLine) (numbers : List ℕ) (lines : List CacheLine) → map Some lines ≡ map f numbers → lines ≡ filter_map f numbers
lines_from f [] [] e = refl
lines_from f [] (l ∷ ls) e = absurd (cc)
lines_from f (n ∷ ns) [] e = absurd (cc)
lines_from f (n ∷ ns) (l ∷ ls) e =
    let here : f n ≡ Some l = cc in
    let rest : map Some ls ≡ map f ns = cc in
    rw here (ap (λ (xs : List CacheLine). l ∷ xs) (lines_from f ns ls rest))

-- the lines of the numbers of the kept loads are those of the history
pub lines_are :
    (entries : List Entry) (numbers : List ℕ) (lines : List CacheLine) → numbers ≡ filter (kept entries) (numbers_from 1 (length entries)) → map Some lines ≡ map (kept_line entries) numbers → lines ≡ cache_lines entries
lines_are entries numbers lines these told =
    lines_from (kept_line entries) numbers lines told ∙ ap (filter_map (kept_line entries)) these ∙ lines_of_kept entries (numbers_from 1 (length entries))

-- a number at a place is among the numbers
pub number_among : (numbers : List ℕ) (i : ℕ) → i < length numbers → among numbers (get_or numbers i 0) ≡ true
number_among [] i l = absurd (omega (arith, l))
number_among (n ∷ ns) zero l = or_left _ _ (eq-eqb n n refl)
number_among (n ∷ ns) (suc i) l = or_right (n == get_or ns i 0) (among ns (get_or ns i 0)) (number_among ns i (omega (arith, l)))

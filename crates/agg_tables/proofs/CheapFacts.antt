-- What a load reads is the cheapest: of several that cost as much the first, and the facts last.
use Rattle.std.proofs.Common.{◌≡◌, ◌≤◌, ◌<◌, ℕ, Bool, true, false, List, [], ◌∷◌, Option, None, Some, refl, ap, arith, All}
use Rattle.std.proofs.lemmas.Bool.{leb-false, leb-true}
use Rattle.std.specs.Prelude.{◌&&◌, nat_le, if◌then◌else◌}
use Rattle.std.proofs.lemmas.List.Elements.{All-append, All-cons, All-nil, All-weaker}
use Rattle.olap_meaning.specs.declared.cells.Header.{Header}
use Rattle.agg_tables.specs.Cheapest.{IfMayRead, IsCheapest}
use Rattle.agg_tables.specs.Costs.{cheapest, may_read, read_cost, table_cost}
use Rattle.agg_tables.specs.Tables.{TableOf}

module _ (header : Header) (version rows : ℕ) where
  abbrev dearer : ℕ → TableOf → Type 0
  dearer n = IfMayRead header version (λ table. n < table_cost rows table)

  abbrev no_less : ℕ → TableOf → Type 0
  no_less n = IfMayRead header version (λ table. n ≤ table_cost rows table)

  -- what costs no more than the cheapest costs no more than any that may be read
  none_less : (n : ℕ) (tables : List TableOf) (read : Option TableOf) → IsCheapest header version rows tables read → n ≤ read_cost rows read → All (no_less n) tables
  none_less n tables None is few = All-weaker (dearer rows) (no_less n) (λ table held may. omega (arith, held may, few)) tables is
  none_less n tables (Some own) (may, most, before, after, are, first, last) few =
      rw are
      (All-append (no_less n) before (own ∷ after)
      (All-weaker (dearer (table_cost rows own)) (no_less n) (λ table held may. omega (arith, held may, few)) before first)
      (All-cons (no_less n) own after (λ may. few)
      (All-weaker (no_less (table_cost rows own)) (no_less n) (λ table held may. omega (arith, held may, few)) after last)))

  pub is_cheapest : (tables : List TableOf) → IsCheapest header version rows tables (cheapest header version rows tables)
  is_cheapest [] = All-nil (dearer rows)
  is_cheapest (t ∷ ts) = by (may_read header version t) (nat_le (table_cost rows t) (read_cost rows (cheapest header version rows ts))) refl refl (is_cheapest ts)
    where
      facts_cost : (read : Option TableOf) → IsCheapest header version rows ts read → read_cost rows read ≤ rows
      facts_cost None is = omega arith
      facts_cost (Some own) is = is.1

      -- one before that may not be read, or costs more
      kept : (read : Option TableOf) → IsCheapest header version rows ts read → dearer (read_cost rows read) t → IsCheapest header version rows (t ∷ ts) read
      kept None is more = All-cons (dearer rows) t ts more is
      kept (Some own) (may, most, before, after, are, first, last) more =
          (may, most, t ∷ before, after, ap (λ (tables : List TableOf). t ∷ tables) are, All-cons (dearer (table_cost rows own)) t before more first, last)

      by : (may less : Bool) → may_read header version t ≡ may → nat_le (table_cost rows t) (read_cost rows (cheapest header version rows ts)) ≡ less → IsCheapest header version rows ts (cheapest header version rows ts)
          → IsCheapest header version rows (t ∷ ts) (if may && less then Some t else cheapest header version rows ts)
      by true true is few rest =
          (is, omega (arith, leb-true _ _ few, facts_cost (cheapest header version rows ts) rest), [], ts, refl, All-nil (dearer (table_cost rows t)), none_less (table_cost rows t) ts (cheapest header version rows ts) rest (leb-true _ _ few))
      by true false is many rest = kept (cheapest header version rows ts) rest (λ may. leb-false _ _ many)
      by false less is few rest = kept (cheapest header version rows ts) rest (λ may. absurd (let both = may in cc))

-- That `new` ensures what it says.
use Rattle.std.proofs.Common.{◌≡◌, ◌==◌, ℕ, zero, suc, length, not, refl, arith}
use Rattle.std.specs.Prelude.{nat_lt}
use Rattle.std.proofs.lemmas.Bool.Decides.{nat_tests}
use Rattle.fact_reader.proofs.BatchFacts.{length-rows_in}
use Rattle.agg_tables.proofs.table.AggTable.new.Goals as goal

some_left : (n : ℕ) → not (n == 0) ≡ nat_lt 0 n
some_left zero = refl
some_left (suc n) = grind (arith, nat_tests)

pub returns : goal.returns
returns c = rw (c.version.ensures, c.rows.ensures.rows, c.is_empty.ensures, ← length-rows_in c.args.snapshot.now, some_left (length c.args.declared.now.measures)) refl

-- That `values` ensures what it says, may call `value` and keeps what holds at each turn.
use Rattle.std.proofs.Common.{◌≡◌, ◌∙◌, ◌<◌, ◌≤◌, ◌++◌, ℕ, List, [], Option, None, Some, length, ap, refl, sym, arith}
use Rattle.std.specs.Prelude.{option_map}
use Rattle.olap_meaning.specs.Worth.{row_value}
use Rattle.fact_reader.specs.Reading.{ReaderOf, row_at}
use Rattle.olap_meaning.specs.Budget.{row_values}
use Rattle.segment_body.proofs.ValueFacts.{values_end, values_next, values_whole}
use Rattle.fact_reader.proofs.reader.RowReader.values.Goals as goal

pub returns-in-None : goal.returns-in-None
returns-in-None c =
    let same = ap (λ (r : ReaderOf). length r.header.columns) c.self.view_is in
    let within : c.loop-k.k < length c.args.self.now.header.columns = omega (arith, same, c.len-k-end.ensures, c.loop-k-test.true) in
    sym c.loop-k.invariant
    ∙ values_end (row_value c.args.self.now.catalog c.args.self.now.header.cube (row_at c.args.piece.now c.args.i)) c.args.self.now.header.columns c.loop-k.k c.loop-k.values.items within (sym c.in-None.ensures)

pub loop-k-preserved : goal.loop-k-preserved
loop-k-preserved c =
    let same = ap (λ (r : ReaderOf). length r.header.columns) c.self.view_is in
    let within : c.loop-k.k < length c.args.self.now.header.columns = omega (arith, same, c.len-k-end.ensures, c.loop-k-test.true) in
    rw c.in_ok-push-in-Some.ensures.items
    (values_next (row_value c.args.self.now.catalog c.args.self.now.header.cube (row_at c.args.piece.now c.args.i)) c.args.self.now.header.columns c.loop-k.k c.loop-k.values.items c.in-Some.value within (sym c.in-Some.ensures)
    ∙ c.loop-k.invariant)

pub returns : goal.returns
returns c =
    let same = ap (λ (r : ReaderOf). length r.header.columns) c.self.view_is in
    let past : length c.args.self.now.header.columns ≤ c.loop-k.k = omega (arith, same, c.len-k-end.ensures, c.loop-k-test.false) in
    sym c.loop-k.invariant
    ∙ values_whole (row_value c.args.self.now.catalog c.args.self.now.header.cube (row_at c.args.piece.now c.args.i)) c.args.self.now.header.columns c.loop-k.k c.loop-k.values.items past

-- nothing before the rest
from_none : (o : Option (List ℕ)) → option_map (λ rest. [] ++ rest) o ≡ o
from_none None = refl
from_none (Some rest) = refl

pub loop-k-init : goal.loop-k-init
loop-k-init c =
    let all : Option (List ℕ) = row_values c.args.self.now.catalog c.args.self.now.header (row_at c.args.piece.now c.args.i) in
    ap (λ (items : List ℕ). option_map (λ rest. items ++ rest) all) c.clear.ensures.items ∙ from_none all

pub value-requires-clause-column : goal.value-requires-clause-column
value-requires-clause-column c =
    let same = ap (λ (r : ReaderOf). length r.header.columns) c.self.view_is in
    omega (arith, same, c.len-k-end.ensures, c.loop-k-test.true)

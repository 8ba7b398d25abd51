-- That `sum_up` ensures `folded` and may call `add_to_each`.
use Rattle.std.proofs.Common.{◌≡◌, ◌∙◌, ◌≤◌, ◌+◌, List, [], All, drop, length, map, get_or, ap, sym, subst, arith}
use Rattle.std.specs.Prelude.{IsTrue}
use Rattle.std.proofs.lemmas.List.{length-map, take-append-le, take_all}
use Rattle.std.proofs.lemmas.List.Elements.{All-map}
use Rattle.olap_meaning.specs.declared.TheConstants.{ROW_LIMIT}
use Rattle.segment_body.specs.BodyOf.{BodyOf}
use Rattle.fact_reader.specs.BodyRows.{AreAlike, are_batches, is_loadable, rows_in, with_rows}
use Rattle.fact_reader.proofs.BatchFacts.{length-rows_in}
use Rattle.agg_tables.specs.Tables.{fold_over}
use Rattle.agg_tables.proofs.FoldFacts.{bodies_loadable, rows_over}
use Rattle.agg_tables.proofs.TableFacts.{alike_of}
use Rattle.agg_tables.proofs.folds.sum_up.Goals as goal

pub add_to_each-requires-clause-loadable : goal.add_to_each-requires-clause-loadable
add_to_each-requires-clause-loadable g c =
    subst (λ (bodies : List BodyOf). All (λ (body : BodyOf). IsTrue (is_loadable c.args.catalog.now body.header)) bodies) (sym (c.as_mut_slice.ensures.value ∙ c.in_ok-bodies.ensures))
    (bodies_loadable c.args.catalog.now c.args.declared.now c.args.folds.now c.requires.placed c.requires.known)

pub add_to_each-requires-clause-alike : goal.add_to_each-requires-clause-alike
add_to_each-requires-clause-alike g c =
    subst (λ (bodies : List BodyOf). All (AreAlike bodies) bodies) (sym (c.as_mut_slice.ensures.value ∙ c.in_ok-bodies.ensures))
    (All-map (AreAlike (map (fold_over c.args.catalog.now c.args.declared.now []) c.args.folds.now)) (fold_over c.args.catalog.now c.args.declared.now []) c.args.folds.now
    (λ k d within. alike_of c.args.catalog.now c.args.declared.now [] c.args.folds.now (get_or c.args.folds.now k d)))

pub add_to_each-requires-clause-fit : goal.add_to_each-requires-clause-fit
add_to_each-requires-clause-fit g c =
    subst (λ (bodies : List BodyOf). All (λ (body : BodyOf). IsTrue (are_batches c.args.catalog.now body.header.cube c.args.snapshot.now)) bodies) (sym (c.as_mut_slice.ensures.value ∙ c.in_ok-bodies.ensures))
    (All-map (λ (body : BodyOf). IsTrue (are_batches c.args.catalog.now body.header.cube c.args.snapshot.now)) (fold_over c.args.catalog.now c.args.declared.now []) c.args.folds.now (λ k d within. c.requires.fit))

pub add_to_each-requires-clause-room : goal.add_to_each-requires-clause-room
add_to_each-requires-clause-room g c =
    let few = length-rows_in c.args.snapshot.now in
    let room : 0 + length (rows_in c.args.snapshot.now) ≤ ROW_LIMIT = omega (arith, few, c.rows-rows.ensures.bound) in
    subst (λ (bodies : List BodyOf). All (λ (body : BodyOf). length body.rows + length (rows_in c.args.snapshot.now) ≤ ROW_LIMIT) bodies) (sym (c.as_mut_slice.ensures.value ∙ c.in_ok-bodies.ensures))
    (All-map (λ (body : BodyOf). length body.rows + length (rows_in c.args.snapshot.now) ≤ ROW_LIMIT) (fold_over c.args.catalog.now c.args.declared.now []) c.args.folds.now (λ k d within. room))

pub returns-clause-folded : goal.returns-clause-folded
returns-clause-folded g c =
    let more = with_rows c.args.catalog.now (rows_in c.args.snapshot.now) in
    let all : List BodyOf = c.add_to_each.new.bodies in
    let len : length c.as_mut_slice.result.now ≡ c.in_ok-bodies.bodies.len = c.as_mut_slice.ensures.len in
    let long : length all ≡ c.in_ok-bodies.bodies.len = ap (λ (bodies : List BodyOf). length bodies) c.in_ok-add_to_each.ensures.added ∙ length-map c.as_mut_slice.result.now more ∙ len in
    take-append-le c.in_ok-bodies.bodies.len all (drop (length all) c.in_ok-bodies.bodies.items) (omega (arith, long))
    ∙ take_all c.in_ok-bodies.bodies.len all (omega (arith, long))
    ∙ c.in_ok-add_to_each.ensures.added
    ∙ ap (map more) (c.as_mut_slice.ensures.value ∙ c.in_ok-bodies.ensures)
    ∙ rows_over c.args.catalog.now c.args.declared.now (rows_in c.args.snapshot.now) c.args.folds.now

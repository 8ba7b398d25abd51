-- That `add_sought` ensures what it says.
use Rattle.std.proofs.Common.{◌≡◌, ◌∙◌, ◌∷◌, ◌++◌, [], Ok, Err, false, inl, inr, length, sym, bytes_eq, List, Option, ℕ, ℤ}
use Rattle.std.specs.Prelude.{IfOk, OnOk, Result}
use Rattle.std.specs.List.{list_any}
use Rattle.olap_meaning.specs.declared.Aggregator.{Aggregator}
use Rattle.segment_body.specs.Groups.{Group, IsAdded, group, values_of}
use Rattle.segment_body.proofs.GroupFacts.{found, unfound}
use Rattle.segment_body.proofs.group.GroupTable.add_sought.Goals as goal

at_the_end : {E : Type 0} (result : Result ℕ E) (aggregator : Aggregator) (values : List ℕ) (number : Option ℤ) (old new : List Group) → list_any (bytes_eq values) (values_of old) ≡ false
    → IfOk result (λ place. place ≡ length old) → OnOk result (new ≡ old ++ group values (record { aggregator = aggregator; values = number ∷ [] }) ∷ []) → IfOk result (λ place. IsAdded aggregator values number old new place)
at_the_end (Ok place) aggregator values number old new none at is = inr (none, at, is)
at_the_end (Err e) aggregator values number old new none at is = tt

pub add_at-requires-clause-inside : goal.add_at-requires-clause-inside
add_at-requires-clause-inside c =
    (found c.args.values.now c.args.self.now c.in-Some.place (group [] (record { aggregator = c.args.aggregator; values = [] })) (sym c.sought.ensures ∙ c.in-Some.is)).0

pub returns-in_ok-add_at-in-Some-clause-ok : goal.returns-in_ok-add_at-in-Some-clause-ok
returns-in_ok-add_at-in-Some-clause-ok c =
    let there = found c.args.values.now c.args.self.now c.in-Some.place (group [] (record { aggregator = c.args.aggregator; values = [] })) (sym c.sought.ensures ∙ c.in-Some.is) in
    inl (there.1, c.in_ok-add_at-in-Some.ensures.ok)

pub begin-requires : goal.begin-requires
begin-requires c =
    unfound c.args.values.now c.args.self.now (sym c.sought.ensures ∙ c.in-None.is)

pub returns-in-None-clause-ok : goal.returns-in-None-clause-ok
returns-in-None-clause-ok c =
    let none = unfound c.args.values.now c.args.self.now (sym c.sought.ensures ∙ c.in-None.is) in
    at_the_end c.begin.result c.args.aggregator c.args.values.now c.args.number c.args.self.now c.begin.new.self none c.begin.ensures.place c.begin.ensures.ok

-- The place of the first table that is no earlier, or after all.
use Rattle.std.proofs.Common.{◌∙◌, sym, arith, not}
use Rattle.std.specs.Prelude.{nat_le}
use Rattle.std.proofs.lemmas.List.Sums.{prefix_len-le-length}
use Rattle.installed_tables.proofs.PutFacts.{found_place, no_place}
use Rattle.installed_tables.proofs.installed.place_for.Goals as goal

pub returns-in-Some-clause-value : goal.returns-in-Some-clause-value
returns-in-Some-clause-value c = found_place (λ own. nat_le c.args.table own.value.table) c.args.tables.now c.in-Some.place (sym c.first_behind.ensures ∙ c.in-Some.is)

pub returns-in-None-clause-value : goal.returns-in-None-clause-value
returns-in-None-clause-value c = no_place (λ own. nat_le c.args.table own.value.table) c.args.tables.now (sym c.first_behind.ensures ∙ c.in-None.is)

pub returns-in-Some-clause-within : goal.returns-in-Some-clause-within
returns-in-Some-clause-within c =
    let at = found_place (λ own. nat_le c.args.table own.value.table) c.args.tables.now c.in-Some.place (sym c.first_behind.ensures ∙ c.in-Some.is) in
    omega (arith, at, prefix_len-le-length (λ own. not (nat_le c.args.table own.value.table)) c.args.tables.now)

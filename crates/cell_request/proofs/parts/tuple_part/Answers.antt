-- That `tuple_part` ensures `own`.
use Rattle.std.proofs.Common.{◌∙◌, map, ap, refl}
use Rattle.std.proofs.lemmas.List.Elements.{All-same}
use Rattle.olap_meaning.specs.MemberOf.{IsLevelIn}
use Rattle.query_meaning.specs.Resolution.{root_of}
use Rattle.cell_request.proofs.RootFacts.{roots_own}
use Rattle.cell_request.proofs.parts.tuple_part.Goals as goal

pub returns-clause-own : goal.returns-clause-own
returns-clause-own c = record {
  roots = All-same (IsLevelIn c.args.catalog.now) _ _ (c.in_ok-roots.ensures ∙ ap (map root_of) c.as_slice.ensures) (roots_own c.args.catalog.now c.args.cube c.in_ok-members.members c.in_ok-members.ensures.own);
  plan = c.in_ok-members.ensures.own;
  count = refl;
}

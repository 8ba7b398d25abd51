-- That the roots of a tuple's members are the catalog's.
use Rattle.std.proofs.Common.{◌∙◌, map, ap}
use Rattle.std.proofs.lemmas.List.Elements.{All-same}
use Rattle.olap_meaning.specs.MemberOf.{IsLevelIn}
use Rattle.query_meaning.specs.Resolution.{root_of}
use Rattle.cell_request.proofs.RootFacts.{roots_own}
use Rattle.cell_request.proofs.names.tuple_at.Goals as goal

pub refuse_twice-requires : goal.refuse_twice-requires
refuse_twice-requires c = All-same (IsLevelIn c.args.catalog.now) _ _ (c.as_slice-2.ensures ∙ c.in_ok-roots.ensures ∙ ap (map root_of) c.as_slice.ensures) (roots_own c.args.catalog.now c.args.cube c.in_ok-tuple.tuple c.in_ok-tuple.ensures.own)

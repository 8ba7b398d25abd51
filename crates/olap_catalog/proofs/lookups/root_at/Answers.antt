-- That `root_at` ensures what it says.
use Rattle.std.proofs.Common.{◌∙◌, ◌∷◌, ap, sym, map, option_and_then, slice_get, arith}
use Rattle.olap_meaning.specs.declared.cells.LevelRef.TheVariants.{Measures, Whole}
use Rattle.olap_catalog.proofs.RootFacts.{whole_at}
use Rattle.olap_catalog.proofs.lookups.root_at.Goals as goal

pub returns-in-Some : goal.returns-in-Some
returns-in-Some c =
    whole_at c.args.hierarchies.now c.in-Some.i c.index-hierarchies-i.result c.in-Some.i-test.1 (omega (arith, c.in-Some.ensures.within, c.requires, c.in-Some.i-test.1)) c.index-hierarchies-i.is
    ∙ ap (option_and_then (slice_get (Measures ∷ map Whole c.args.hierarchies.now))) (sym c.in-Some.is ∙ c.match_of.ensures.matched)

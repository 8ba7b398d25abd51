-- That `plain_widener` ensures what it says.
use Rattle.std.proofs.Common.{Ok, IsTrue, subst, sym}
use Rattle.segment_header.specs.Widening.{WidensPlainly, are_wanted}
use Rattle.segment_header.proofs.WideFacts.{plain_serves}
use Rattle.segment_header.proofs.widener.plain_widener.Goals as goal

pub new-requires-clause-serves : goal.new-requires-clause-serves
new-requires-clause-serves g c wanted count answer asked given = plain_serves wanted.now count answer asked (c.requires.plain wanted count answer asked given)

pub returns-clause-plain : goal.returns-clause-plain
returns-clause-plain g c wanted count allowed asked given =
    let said = (c.new.ensures wanted count (Ok allowed)).0 given in
    subst (λ w. WidensPlainly w count allowed) said.shows
    (c.requires.plain said.shown count (Ok allowed) (subst (λ w. IsTrue (are_wanted w count)) (sym said.shows) asked) said.says)

-- That `add_piece` may call `add_blocks`.
use Rattle.std.proofs.Common.{◌≤◌, ◌+◌, List, suc, All, length, subst, arith}
use Rattle.olap_meaning.specs.declared.TheConstants.{ROW_LIMIT}
use Rattle.segment_body.specs.BodyOf.{BodyOf}
use Rattle.fact_reader.specs.BodyRows.{AreAlike}
use Rattle.fact_reader.proofs.BlockFacts.{others_alike}
use Rattle.fact_reader.proofs.each.add_piece.Goals as goal

pub add_blocks-requires-clause-alike : goal.add_blocks-requires-clause-alike
add_blocks-requires-clause-alike c =
    others_alike c.in-Some-split_first_mut.first.now c.in-Some-split_first_mut.others.now
    (subst (λ (bodies : List BodyOf). All (AreAlike bodies) bodies) c.in-Some-split_first_mut.ensures.cases.0 c.requires.alike)

pub add_blocks-requires-clause-rooms : goal.add_blocks-requires-clause-rooms
add_blocks-requires-clause-rooms c k d within =
    let room = subst (λ (bodies : List BodyOf). All (λ (body : BodyOf). length body.rows + length c.args.piece.now.rows ≤ ROW_LIMIT) bodies) c.in-Some-split_first_mut.ensures.cases.0 c.requires.room in
    room (suc k) d (omega (arith, within))

-- A flush that means a region is replied to as this is flushed, and one that means none with its first refusal.
use Rattle.std.proofs.Common.{◌∙◌, sym, ap, subst, [], None, Result}
use Rattle.olap_meaning.specs.declared.regions.Region.{Region}
use Rattle.olap_meaning.specs.declared.tables.Catalog.{Catalog}
use Rattle.olap_meaning.specs.Legal.{is_flushable}
use Rattle.query_meaning.specs.RegionMeaning.{RegionRefusal, flush_meant}
use Rattle.query_meaning.specs.RegionReplies.{cube_named}
use Rattle.line_session.specs.Replies.{AnswersFlush}
use Rattle.line_session.proofs.Flushing.{no_region}
use Rattle.line_session.proofs.Replying.{between}
use Rattle.line_session.proofs.flush.reply_to_flush.Goals as goal

pub reply_to_region-requires : goal.reply_to_region-requires
reply_to_region-requires g c = ap (λ (k : Catalog). is_flushable k c.in-Ok.region) (sym c.requires) ∙ c.in-Ok.ensures.flushable

pub returns-in-Ok : goal.returns-in-Ok
returns-in-Ok g c =
    let cube = cube_named c.args.catalog.now c.args.text.now in
    let answers = c.reply_to_region.ensures cube in
    let around = between (g.P.Desk.seen c.args.desk.now) (g.P.Desk.seen c.reply_to_region.new.desk) [] in
    (answers.0, subst (λ (m : Result Region RegionRefusal). AnswersFlush around cube m answers.0 c.reply_to_region.result) (sym c.in-Ok.ensures.ok) answers.1)

pub returns-in-Err : goal.returns-in-Err
returns-in-Err g c =
    (None, no_region (g.P.Desk.seen c.args.desk.now) c.args.catalog.now (cube_named c.args.catalog.now c.args.text.now) (flush_meant c.args.catalog.now c.args.text.now) c.in-Err.fault c.reply_to_fault.result c.requires c.in-Err.ensures.fault c.reply_to_fault.ensures)

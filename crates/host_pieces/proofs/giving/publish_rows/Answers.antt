use Rattle.std.proofs.Common.{Ok, subst}
use Rattle.geom_core.specs.declared.NoMemory.{NoMemory}
use Rattle.desk_core.specs.Commits.{PublishesRow}
use Rattle.desk_core.specs.declared.answers.Published.{Published}
use Rattle.host_pieces.proofs.GivenRows.{rows_break, rows_more}
use Rattle.host_pieces.proofs.giving.publish_rows.Goals as goal

pub returns-in_err-publish_row : goal.returns-in_err-publish_row
returns-in_err-publish_row c =
    rows_break c.args.desk.now c.publish_row.new.self c.args.slot c.args.composed.now c.args.part.now.keys c.from_residual.result c.from_residual.ensures.0
    (c.loop-i.desk, c.tile_at.result, record { count = c.loop-i.i; here = c.tile_at.ensures.value; given = c.loop-i.invariant }, c.in_err-publish_row.ensures.answer)

pub loop-i-preserved : goal.loop-i-preserved
loop-i-preserved c =
    rows_more c.args.slot c.args.composed.now c.args.part.now.keys c.loop-i.i c.tile_at.result c.args.desk.now c.loop-i.desk c.publish_row.new.self c.tile_at.ensures.value c.loop-i.invariant
    (subst (λ (p : Published). PublishesRow {E = NoMemory} c.loop-i.desk c.args.slot.place c.args.slot.serial c.args.composed.now c.tile_at.result (Ok p) c.publish_row.new.self) c.in-Stored.is c.in_ok-publish_row.ensures.answer)

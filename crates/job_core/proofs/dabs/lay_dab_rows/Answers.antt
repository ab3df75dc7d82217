use Rattle.std.proofs.Common.{◌≡◌, ◌+◌, arith, to_z, of_z, w16}
use borrow.Author.Differences.{ints}
use Rattle.tile_core.proofs.LaidRows.{next_fits}
use Rattle.job_core.specs.Dabs.{brushed_from}
use Rattle.job_core.proofs.RowChanges.{row_changed, all_changed}
use Rattle.job_core.proofs.DabRows.{dab_row}
use Rattle.job_core.proofs.dabs.lay_dab_rows.Goals as goal

pub loop-row-preserved : goal.loop-row-preserved
loop-row-preserved c =
    let dx = to_z w16 (of_z w16 c.args.dx) in
    let dy = to_z w16 (of_z w16 c.args.dy) in
    row_changed (brushed_from c.args.brush.now c.args.ink.now dx dy) _ _ _ _ _ _ _ _ _ c.loop-row.invariant c.requires.across
    (dab_row c.args.brush.now c.args.ink.now dx dy _ _ _ c.loop-row.row _ _ _ c.lay_dab_row.new.row (omega (arith, next_fits (c.args.part.top + c.loop-row.row) (c.args.part.top + c.args.part.h) c.args.width (omega arith))) (omega arith) (omega arith) (omega (arith, ints)) (omega (arith, ints)) c.lay_dab_row.ensures)

pub returns : goal.returns
returns c =
    let across : to_z w16 (of_z w16 c.args.dx) ≡ c.args.dx = omega (arith, ints) in
    let down : to_z w16 (of_z w16 c.args.dy) ≡ c.args.dy = omega (arith, ints) in
    all_changed _ _ _ _ _ _ _ _ _ _ _ c.loop-row.invariant (omega arith) (λ i. brushed_from c.args.brush.now c.args.ink.now (across i) (down i))

use Rattle.std.proofs.Common.{◌≡◌, Some, ap, sym, ◌∙◌, arith}
use Rattle.std.specs.Prelude.{slice_get}
use Rattle.geom_core.specs.Grid.{parts}
use Rattle.update_queue.proofs.Joining.{joined_none, joined_more, joined_all, no_room, fits_all}
use Rattle.update_queue.proofs.places.add_parts.Goals as goal

pub loop-i-init : goal.loop-i-init
loop-i-init c = joined_none c.args.walk c.args.rect.now c.args.patches.now.items c.requires.unlike c.requires.few

pub returns-in_default-clause-fits : goal.returns-in_default-clause-fits
returns-in_default-clause-fits c =
    let at : slice_get (parts c.args.rect.now) c.loop-i.i ≡ Some c.cell_at.result = ap (λ xs. slice_get xs c.loop-i.i) c.part_count-i-end.ensures.cells ∙ c.cell_at.ensures in
    let full = c.in_default.ensures.full in
    sym (no_room c.args.walk c.args.rect.now c.args.patches.now.items c.loop-i.patches.items c.loop-i.i c.cell_at.result c.loop-i.invariant at full.0 full.1)

pub loop-i-preserved : goal.loop-i-preserved
loop-i-preserved c =
    let at : slice_get (parts c.args.rect.now) c.loop-i.i ≡ Some c.cell_at.result = ap (λ xs. slice_get xs c.loop-i.i) c.part_count-i-end.ensures.cells ∙ c.cell_at.ensures in
    joined_more c.args.walk c.args.rect.now c.args.patches.now.items c.loop-i.patches.items c.add_part.new.patches.items c.loop-i.i c.cell_at.result c.loop-i.invariant at c.add_part.ensures.few c.add_part.ensures.merged c.in-Some.ensures.placed

pub returns-clause-fits : goal.returns-clause-fits
returns-clause-fits c = sym (fits_all c.args.walk c.args.rect.now c.args.patches.now.items c.loop-i.patches.items c.loop-i.i c.loop-i.invariant (omega (arith, c.part_count-i-end.ensures.value)))

pub returns-clause-added : goal.returns-clause-added
returns-clause-added c = joined_all c.args.walk c.args.rect.now c.args.patches.now.items c.loop-i.patches.items c.loop-i.i c.loop-i.invariant (omega (arith, c.part_count-i-end.ensures.value))

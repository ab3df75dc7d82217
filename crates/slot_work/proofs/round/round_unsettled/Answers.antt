use Rattle.std.proofs.Common.{map}
use Rattle.std.specs.List.{list_any}
use Rattle.geom_core.specs.Areas.{holds}
use Rattle.doc_model.specs.declared.canvas.Patch.{Patch}
use Rattle.desk_state.specs.Choices.{works_on}
use Rattle.desk_state.specs.Parts.{slot_of}
use Rattle.std.proofs.Common.{◌||◌, None}
use Rattle.slot_work.proofs.Rounding.{round_first, widens_then}
use Rattle.slot_work.proofs.round.round_unsettled.Goals as goal

pub returns : goal.returns
returns c =
    let a = c.args.bounds.now in
    round_first a (λ p. list_any (λ (q : Patch). holds q.rect p) c.args.updates.now.patches || list_any (works_on p) (map slot_of c.args.slots.now)) c.widen_by_slots.result
    (widens_then a (λ p. list_any (λ (q : Patch). holds q.rect p) c.args.updates.now.patches) (λ p. list_any (works_on p) (map slot_of c.args.slots.now)) None c.widen_by_patches-waiting.result c.widen_by_slots.result c.widen_by_patches-waiting.ensures c.widen_by_slots.ensures)

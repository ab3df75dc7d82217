use Rattle.std.proofs.Common.{◌||◌, sym, subst}
use Rattle.std.specs.List.{list_any}
use Rattle.geom_core.specs.Areas.{holds}
use Rattle.doc_model.specs.declared.canvas.Patch.{Patch}
use Rattle.machine_model.specs.State.{State}
use Rattle.machine_model.specs.Covers.{covered}
use Rattle.machine_model.proofs.RootPicture.{clean_is_picture}
use Rattle.desk_state.specs.Choices.{works_on}
use Rattle.desk_state.specs.Parts.{state_of}
use Rattle.desk_state.proofs.Looking.{covered_root}
use Rattle.slot_work.specs.Round.{IsRound}
use Rattle.slot_work.proofs.Rounding.{round_same}
use Rattle.desk_events.specs.Kept.{parts_of}
use Rattle.desk_events.specs.Shown.{ShowsWhereClean}
use Rattle.desk_events.proofs.machine.Machine.dirty_in.Goals as goal

pub round_unsettled-requires : goal.round_unsettled-requires
round_unsettled-requires c = c.self.invariant.slots

pub returns-clause-round : goal.returns-clause-round
returns-clause-round c =
    let s : State = state_of (parts_of c.self.inside) in
    subst (λ (s : State). IsRound c.args.rect.now (covered s 0) c.round_unsettled.result) c.self.view_is
    (round_same c.args.rect.now (λ p. list_any (λ (q : Patch). holds q.rect p) s.updates || list_any (works_on p) s.slots) (covered s 0) c.round_unsettled.result
    (λ p. sym (covered_root s p c.self.invariant.sound.orderly)) c.round_unsettled.ensures)

pub returns-clause-picture : goal.returns-clause-picture
returns-clause-picture c = subst ShowsWhereClean c.self.view_is (clean_is_picture (state_of (parts_of c.self.inside)) c.self.invariant.sound)

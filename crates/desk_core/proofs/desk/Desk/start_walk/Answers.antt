use Rattle.std.proofs.Common.{refl, ap, subst, ◌≡◌, ◌∙◌, true, sym}
use Rattle.std.specs.Prelude.{not, IfSome}
use Rattle.doc_model.specs.declared.canvas.Patch.{Patch}
use Rattle.geom_core.specs.Areas.{Point, holds}
use Rattle.frame_core.specs.Damage.{is_damaged}
use Rattle.walker_core.specs.Readings.{path_in}
use Rattle.desk_core.specs.declared.folds.Folds.{Folds}
use Rattle.desk_core.specs.Keeping.{AreOfFolds, Turns}
use Rattle.desk_core.specs.Shown.{ShowCaches}
use Rattle.desk_core.proofs.Ripe.{free_calm, where_none}
use Rattle.desk_core.proofs.Tracking.{calm_tracks}
use Rattle.desk_core.proofs.Telling.{ticket_known}
use Rattle.desk_core.proofs.desk.Desk.start_walk.Goals as goal
use Rattle.desk_core.proofs.desk.Desk.start_walk.Goals.{then-self, else-self}

-- folds of other walks are gone
turned : (before from after : Folds) (p q : Patch) → from ≡ before → p ≡ q → Turns from after p.walk → Turns before after q.walk
turned before from after p q same patch turns = subst (λ (f : Folds). Turns f after q.walk) same (subst (Turns from after) (ap (λ (x : Patch). x.walk) patch) turns)

pub invariant_of-self-2 : goal.invariant_of-self-2
invariant_of-self-2 c = calm_tracks c.self.inside.machine c.start_walk.new.self c.in_ok-ticket.ticket.slot.place c.in_ok-ticket.ticket.inputs.patch c.self.inside.damage.value c.self.inside.calm c.if-self.calm c.self.inside.folds.value c.begin_walk.new.self
    (elim c.if-self.branch [
      | then-self w ↦ λ h. c.self.invariant.calm w.if-self.true
      | else-self w ↦ λ h. free_calm c.self.inside.machine (where_none w.busy_place.result _ w.busy_place.ensures.none (w.is_none-calm.ensures ∙ ap not (sym w.calm-is ∙ h)))
    ]) (turned c.self.inside.folds.value c.deref_mut.result.now c.begin_walk.new.self c.patch.result c.in_ok-ticket.ticket.inputs.patch c.deref_mut.ensures.value c.patch.ensures c.begin_walk.ensures) c.in_ok-ticket.ensures.ok c.self.invariant

pub know-requires : goal.know-requires
know-requires c = ticket_known c.self.inside.machine c.start_walk.new.self c.in_ok-ticket.ticket.slot.place c.in_ok-ticket.ticket.inputs.patch c.self.inside.damage.value c.self.inside.calm c.self.inside.folds.value _ _ c.in_ok-ticket.ticket.inputs c.in-Ok.known
    c.in_ok-ticket.ensures.ok c.self.invariant (turned c.self.inside.folds.value c.deref_mut.result.now c.begin_walk.new.self c.patch.result c.in_ok-ticket.ticket.inputs.patch c.deref_mut.ensures.value c.patch.ensures c.begin_walk.ensures) c.in_ok-ticket.ensures.ticket.runs refl refl
    (subst (λ cs. (p : Point) → holds c.in_ok-ticket.ticket.inputs.patch.rect p ≡ true → ShowCaches cs (path_in c.in_ok-ticket.ticket.inputs) c.in-Ok.known.shots.items p) c.caches.ensures c.in-Ok.ensures.shots)
    (λ p h. c.in-Ok.ensures.damaged p h ∙ ap (λ ps. is_damaged ps p) c.deref.ensures)
    (subst (λ f. IfSome c.in-Ok.known.footing (AreOfFolds f)) c.deref-2.ensures c.in-Ok.ensures.footing)

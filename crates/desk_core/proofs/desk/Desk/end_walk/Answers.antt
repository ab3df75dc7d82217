use Rattle.std.proofs.Common.{subst, sym, ap, ◌∙◌, ◌≡◌, ◌⊎◌, false, true}
use Rattle.std.specs.Prelude.{IsSomeAnd}
use Rattle.geom_core.specs.Areas.{holds, Point}
use Rattle.desk_state.specs.Enabled.{Enabled}
use Rattle.doc_model.specs.Picture.{canvas_area}
use Rattle.machine_model.specs.Event.{WalkEnd}
use Rattle.frame_core.specs.Damage.{is_damaged}
use Rattle.desk_core.specs.UpToDate.{IsStill}
use Rattle.desk_core.proofs.Tracking.{end_canvas, forgetful_tracks, renewed_tracks}
use Rattle.desk_core.proofs.desk.Desk.end_walk.Goals as goal

pub end_walk-requires : goal.end_walk-requires
end_walk-requires c = subst (λ s. Enabled s (WalkEnd c.args.place)) (sym c.self.view_is) c.requires

pub invariant_of-self : goal.invariant_of-self
invariant_of-self c = forgetful_tracks c.end_walk.new.self c.forget_in.new.damage c.forget.new.damage c.self.inside.calm c.self.inside.folds.value
    (subst (λ ps. (p : Point) → is_damaged c.forget.new.damage p ≡ false → (is_damaged ps p ≡ false) ⊎ IsStill c.end_walk.new.self) c.deref_mut-2.ensures.value c.forget.ensures)
    (renewed_tracks c.self.inside.machine c.end_walk.new.self c.args.place c.self.inside.damage.value c.forget_in.new.damage c.self.inside.calm c.self.inside.folds.value c.renewed-renewed.result c.renewed-renewed.ensures c.end_walk.ensures
    (λ p inside on whole. subst (λ ps. (is_damaged ps p ≡ false) ⊎ (IsSomeAnd c.renewed-renewed.result (λ a. holds a p ≡ true))) c.deref_mut.ensures.value
    (c.forget_in.ensures p (ap (λ a. holds a p) (c.rect-canvas.ensures ∙ ap canvas_area (c.canvas.ensures ∙ sym (end_canvas c.self.inside.machine c.end_walk.new.self c.args.place c.end_walk.ensures))) ∙ inside) on whole)) c.self.invariant)

use Rattle.std.proofs.Common.{◌≤◌, ◌≡◌, sym, ap, ◌∙◌, subst}
use Rattle.std.specs.List.{All, AllByRecursion}
use Rattle.doc_model.specs.declared.canvas.Patch.{Patch}
use Rattle.walker_core.specs.Readings.{Readings}
use Rattle.desk_events.specs.AtWork.{WalksAs}
use Rattle.desk_events.specs.Commits.{MayPublishRow}
use Rattle.desk_core.specs.declared.folds.Folds.{Folds}
use Rattle.desk_core.specs.Keeping.{Lowers, Shows, ShowsWithin}
use Rattle.desk_core.proofs.MadeFolds.{kept_keeps}
use Rattle.desk_core.proofs.desk.Desk.keep_folds.Goals as goal

pub invariant_of-self : goal.invariant_of-self
invariant_of-self c =
    let patch : c.patch-patch.result ≡ c.args.composed.now.readings.patch = c.patch-patch.ensures ∙ ap (λ (r : Readings). r.patch) c.inputs.ensures in
    record {
      sound = c.self.invariant.sound;
      tracked = c.self.invariant.tracked;
      calm = c.self.invariant.calm;
      keeps = kept_keeps c.self.inside.machine c.args.slot.place c.args.slot.serial c.args.composed.now c.args.key c.self.inside.folds.value c.keep-kept.new.self c.folds-made.result.now c.self.invariant.sound
          (subst (λ n. 1 ≤ n) (c.w.ensures.value ∙ ap (λ (q : Patch). q.rect.w) patch) c.w.ensures.some)
          (subst (λ n. 1 ≤ n) (c.h.ensures.value ∙ ap (λ (q : Patch). q.rect.h) patch) c.h.ensures.some)
          (subst (λ s. MayPublishRow s c.args.slot.place c.args.slot.serial c.args.composed.now c.args.key) (sym c.self.view_is) c.requires)
          (subst (λ (q : Patch). AllByRecursion (WalksAs q.walk) c.self.inside.machine.slots) patch (c.all_walk.ensures.0 c.if-all_walk.true))
          (sym (ap (λ (f : Folds). f.walk) c.deref.ensures) ∙ c.are_read_by.ensures.walk c.if-are_read_by.true ∙ ap (λ (q : Patch). q.walk) patch)
          (subst (λ (f : Folds). f.since ≤ c.args.slot.serial) c.deref.ensures (c.are_read_by.ensures.since c.if-are_read_by.true))
          c.folds-made.ensures
          (c.keep-kept.ensures.layer ∙ ap (λ (f : Folds). f.layer) c.deref_mut.ensures.value)
          (c.keep-kept.ensures.walk ∙ ap (λ (f : Folds). f.walk) c.deref_mut.ensures.value)
          (c.keep-kept.ensures.since ∙ ap (λ (f : Folds). f.since) c.deref_mut.ensures.value)
          (subst (λ (f : Folds). (x : Lowers) → All (ShowsWithin x f.layer c.args.composed.now.readings.patch.rect) c.folds-made.result.now → All (Shows x) f.folds.items → All (Shows x) c.keep-kept.new.self.folds.items) c.deref_mut.ensures.value
          (subst (λ (q : Patch). (x : Lowers) → All (ShowsWithin x c.deref_mut.result.now.layer q.rect) c.folds-made.result.now → All (Shows x) c.deref_mut.result.now.folds.items → All (Shows x) c.keep-kept.new.self.folds.items) patch c.keep-kept.ensures.folds))
          c.self.invariant.keeps;
    }

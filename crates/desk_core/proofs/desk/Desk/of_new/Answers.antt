use Rattle.std.proofs.Common.{ap, ◌∙◌}
use Rattle.desk_core.specs.declared.folds.Folds.{Folds}
use Rattle.desk_core.proofs.Keeping.{new_keeps}
use Rattle.desk_core.proofs.Tracking.{anew_tracks}
use Rattle.machine_model.proofs.RunsSound.{new_sound}
use Rattle.desk_core.proofs.desk.Desk.of_new.Goals as goal

pub invariant_of-result : goal.invariant_of-result
invariant_of-result c = anew_tracks c.args.machine c.begin_anew.new.damage _ (new_sound c.args.machine c.requires)
    (new_keeps c.args.machine _ c.requires (ap (λ (f : Folds). f.folds.items) c.in_ok-folds.ensures.ok ∙ c.new-kept.ensures.folds) (ap (λ (f : Folds). f.since) c.in_ok-folds.ensures.ok ∙ c.new-kept.ensures.since)) c.begin_anew.ensures

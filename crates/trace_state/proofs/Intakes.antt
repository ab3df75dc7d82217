-- A command that is fed, and the queue.
use Rattle.std.proofs.Common.{◌≡◌, true, List, [], ◌∷◌, ◌++◌, refl, ◌∙◌}
use Rattle.std.proofs.lemmas.List.Folds.{list_all-append}
use Rattle.geom_core.proofs.Tests.{both_true}
use Rattle.doc_model.specs.declared.command.Command.{Command}
use Rattle.doc_model.specs.Lawful.{may_follow}
use Rattle.doc_model.specs.Strokes.{entries}
use Rattle.doc_model.proofs.Feeding.{lawful_last}
use Rattle.script_forms.specs.Ranges.{in_range}
use Rattle.entry_queue.specs.Pushed.{Pending, pushed, takes}
use Rattle.entry_queue.proofs.Standing.{stands_pushed}
use Rattle.entry_queue.proofs.Taking.{takes_lawful}
use Rattle.trace_state.specs.Taken.{IsTaken}

-- the queue takes it
pub queue_takes : (cs : List Command) (q : Pending) (c : Command) → IsTaken cs q → may_follow (entries cs) c ≡ true → takes q.left c ≡ true
queue_takes cs q c is may = takes_lawful cs c q (lawful_last cs c is.lawful may) is.stands

-- and all stays in order
pub feed_keeps : (cs : List Command) (q : Pending) (c : Command) → IsTaken cs q → may_follow (entries cs) c ≡ true → in_range c ≡ true → IsTaken (cs ++ c ∷ []) (record q { left = pushed q.left c })
feed_keeps cs q c is may range = record {
  lawful = lawful_last cs c is.lawful may;
  ranges = list_all-append in_range cs (c ∷ []) ∙ both_true _ _ is.ranges (both_true _ _ range refl);
  stands = stands_pushed cs c q (lawful_last cs c is.lawful may) is.stands;
}

use Rattle.std.proofs.Common.{rules, ap, ◌∙◌, take, drop, ◌++◌}
use Rattle.history_core.proofs.Steps.{past_before, future_before, none_behind}
use Rattle.history_core.proofs.UndoStack.step_on.Goals as goal

pub returns-then-place-len-clause-past : goal.returns-then-place-len-clause-past
returns-then-place-len-clause-past g c = past_before c.self.inside.done c.self.inside.entries.items (search rules) ∙ ap (λ s. take 1 s.future ++ s.past) c.self.view_is

pub returns-then-place-len-clause-future : goal.returns-then-place-len-clause-future
returns-then-place-len-clause-future g c = future_before c.self.inside.done c.self.inside.entries.items (search rules) ∙ ap (λ s. drop 1 s.future) c.self.view_is

pub returns-then-place-len-clause-none : goal.returns-then-place-len-clause-none
returns-then-place-len-clause-none g c = λ e. absurd (none_behind c.self.inside.done c.self.inside.entries.items (search rules) (ap (λ s. s.future) c.self.view_is ∙ e))

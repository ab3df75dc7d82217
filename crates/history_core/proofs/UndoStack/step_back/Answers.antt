use Rattle.std.proofs.Common.{rules, ap, ◌∙◌, take, drop, ◌++◌}
use Rattle.history_core.proofs.Steps.{past_behind, future_behind}
use Rattle.history_core.proofs.UndoStack.step_back.Goals as goal

pub returns-else-self-eq0-clause-past : goal.returns-else-self-eq0-clause-past
returns-else-self-eq0-clause-past g c = past_behind _ _ c.if-self-eq0.false (search rules) ∙ ap (λ s. drop 1 s.past) c.self.view_is

pub returns-else-self-eq0-clause-future : goal.returns-else-self-eq0-clause-future
returns-else-self-eq0-clause-future g c = future_behind _ _ c.if-self-eq0.false (search rules) ∙ ap (λ s. take 1 s.past ++ s.future) c.self.view_is

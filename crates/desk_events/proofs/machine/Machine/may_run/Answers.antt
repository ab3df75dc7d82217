use Rattle.std.proofs.Common.{sym, ap, ◌∙◌}
use Rattle.std.specs.List.{list_any}
use Rattle.std.specs.Option.{option_copied}
use Rattle.machine_model.specs.State.{State}
use Rattle.machine_model.specs.Guards.{blocks}
use Rattle.update_queue.proofs.Elements.{read_at}
use Rattle.desk_state.proofs.SlotTests.{run_then, run_else, run_none}
use Rattle.desk_events.proofs.machine.Machine.may_run.Goals as goal

pub returns-then-not-is_blocked-clause-value : goal.returns-then-not-is_blocked-clause-value
returns-then-not-is_blocked-clause-value c t at = run_then c.args.self.now c.head_jobs-jobs.result.now _ c.args.exclusive c.args.index c.in-Some.field-0.now c.is_clear.result (c.head_jobs-jobs.ensures.value t at) (sym (read_at c.get.result c.head_jobs-jobs.result.now c.args.index c.get.ensures.lookup.3) ∙ ap option_copied c.in-Some.is)
    (sym (ap (λ (s : State). list_any (blocks c.head_jobs-jobs.result.now c.in-Some.field-0.now.0) s.slots) c.self.view_is) ∙ sym c.is_blocked.ensures ∙ c.if-not-is_blocked.true) c.is_clear.ensures

pub returns-else-not-is_blocked-clause-value : goal.returns-else-not-is_blocked-clause-value
returns-else-not-is_blocked-clause-value c t at = run_else c.args.self.now c.head_jobs-jobs.result.now _ c.args.exclusive c.args.index c.in-Some.field-0.now c.is_blocked.result (c.head_jobs-jobs.ensures.value t at) (sym (read_at c.get.result c.head_jobs-jobs.result.now c.args.index c.get.ensures.lookup.3) ∙ ap option_copied c.in-Some.is)
    (sym (ap (λ (s : State). list_any (blocks c.head_jobs-jobs.result.now c.in-Some.field-0.now.0) s.slots) c.self.view_is) ∙ sym c.is_blocked.ensures ∙ c.if-not-is_blocked.false) c.if-not-is_blocked.false

pub returns-in-None-clause-value : goal.returns-in-None-clause-value
returns-in-None-clause-value c t at = run_none c.args.self.now c.head_jobs-jobs.result.now _ c.args.exclusive c.args.index (c.head_jobs-jobs.ensures.value t at) (sym (read_at c.get.result c.head_jobs-jobs.result.now c.args.index c.get.ensures.lookup.3) ∙ ap option_copied c.in-None.is)

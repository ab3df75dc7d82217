use Rattle.std.proofs.Common.{◌≡◌, ◌+◌, true, Some, is_some, take, sym, ap, ◌∙◌, subst, arith}
use Rattle.std.specs.Prelude.{All}
use Rattle.std.proofs.lemmas.List.Elements.{All-take}
use Rattle.doc_model.specs.declared.job.Job.{Job}
use Rattle.doc_model.specs.declared.job.Kind.{Kind}
use Rattle.doc_model.specs.Jobs.{checks}
use Rattle.doc_model.specs.Lawful.{within_limits}
use Rattle.doc_model.specs.Strokes.{Jobs, Stroke}
use Rattle.machine_model.specs.Effects.{updates_with_all, writes_of}
use Rattle.machine_model.specs.Groups.{parent_of}
use Rattle.machine_model.specs.State.{State, head_stroke}
use Rattle.update_queue.specs.Waiting.{waiting}
use Rattle.desk_state.specs.Parts.{state_of}
use Rattle.desk_state.proofs.Doing.{store_under_way}
use Rattle.desk_events.specs.Kept.{parts_of}
use Rattle.desk_events.specs.SmallJobs.{PaintsSmall, IsAlone, IsLeastRound}
use Rattle.desk_events.proofs.Barriers.{are_points, front_some}
use Rattle.desk_events.proofs.SmallJobs.{next_below, next_fit, laid_run, laid_there, paints_small, serials_fit}
use Rattle.desk_events.proofs.machine.Machine.paint_run.Goals as goal

pub next_jobs-jobs-requires : goal.next_jobs-jobs-requires
next_jobs-jobs-requires c = next_below (parts_of c.self.inside) c.started-started.result c.self.invariant (subst IsAlone (sym c.self.view_is) c.requires) (ap (λ (s : State). s.way) c.self.view_is ∙ c.started-started.ensures)

pub lay_run-requires-clause-limits : goal.lay_run-requires-clause-limits
lay_run-requires-clause-limits c = next_fit (parts_of c.self.inside) c.started-started.result c.next_jobs-jobs.result.now c.self.invariant (subst IsAlone (sym c.self.view_is) c.requires) (record { front = c.next_jobs-jobs.ensures.front; clear = c.next_jobs-jobs.ensures.clear })

pub lay_run-requires-clause-under_way : goal.lay_run-requires-clause-under_way
lay_run-requires-clause-under_way c = store_under_way (parts_of c.self.inside) c.self.invariant (ap is_some (ap (λ (s : State). s.way) c.self.view_is ∙ c.started-started.ensures))

pub split_at-requires : goal.split_at-requires
split_at-requires c = (laid_there c.next_jobs-jobs.result.now c.in-Some.laid _ c.self.inside.store c.lay_run.new.store c.in-Some.is c.in_ok-laid.ensures.some).few

pub widen_jobs-requires : goal.widen_jobs-requires
widen_jobs-requires c = subst (All (λ (j : Kind × Job). checks j.1 ≡ true)) (sym c.split_at.ensures.front) (All-take (λ (j : Kind × Job). checks j.1 ≡ true) c.in-Some.laid.count c.next_jobs-jobs.result.now c.next_jobs-jobs.ensures.checked)

pub bound_of-requires-clause-some : goal.bound_of-requires-clause-some
bound_of-requires-clause-some c = front_some c.next_jobs-jobs.result.now _ c.in-Some.laid c.self.inside.store c.lay_run.new.store c.split_at.ensures.front (laid_there c.next_jobs-jobs.result.now c.in-Some.laid _ c.self.inside.store c.lay_run.new.store c.in-Some.is c.in_ok-laid.ensures.some)

pub bound_of-requires-clause-checked : goal.bound_of-requires-clause-checked
bound_of-requires-clause-checked c = subst (All (λ (j : Kind × Job). checks j.1 ≡ true)) (sym c.split_at.ensures.front) (All-take (λ (j : Kind × Job). checks j.1 ≡ true) c.in-Some.laid.count c.next_jobs-jobs.result.now c.next_jobs-jobs.ensures.checked)

pub bound_of-requires-clause-limits : goal.bound_of-requires-clause-limits
bound_of-requires-clause-limits c = subst (All (λ (j : Kind × Job). within_limits j.1 ≡ true)) (sym c.split_at.ensures.front) (All-take (λ (j : Kind × Job). within_limits j.1 ≡ true) c.in-Some.laid.count c.next_jobs-jobs.result.now
    (next_fit (parts_of c.self.inside) c.started-started.result c.next_jobs-jobs.result.now c.self.invariant (subst IsAlone (sym c.self.view_is) c.requires) (record { front = c.next_jobs-jobs.ensures.front; clear = c.next_jobs-jobs.ensures.clear })))

pub bound_of-requires-clause-points : goal.bound_of-requires-clause-points
bound_of-requires-clause-points c = are_points c.next_jobs-jobs.result.now _ c.in-Some.laid c.self.inside.store c.lay_run.new.store c.split_at.ensures.front (laid_there c.next_jobs-jobs.result.now c.in-Some.laid _ c.self.inside.store c.lay_run.new.store c.in-Some.is c.in_ok-laid.ensures.some)

pub overflow_add-self : goal.overflow_add-self
overflow_add-self c =
    let few = (laid_there c.next_jobs-jobs.result.now c.in-Some.laid _ c.self.inside.store c.lay_run.new.store c.in-Some.is c.in_ok-laid.ensures.some).few in
    omega (arith, few, c.next_jobs-jobs.ensures.few)

pub overflow_add-self-in-Some : goal.overflow_add-self-in-Some
overflow_add-self-in-Some c =
    let few = (laid_there c.next_jobs-jobs.result.now c.in-Some.laid _ c.self.inside.store c.lay_run.new.store c.in-Some.is c.in_ok-laid.ensures.some).few in
    let fits = serials_fit (parts_of c.self.inside) c.self.invariant in
    omega (arith, few, fits, c.next_jobs-jobs.ensures.few)

pub invariant_of-self-in-Some : goal.invariant_of-self-in-Some
invariant_of-self-in-Some c = (laid_run (parts_of c.self.inside) c.started-started.result c.group_of-group.result c.next_jobs-jobs.result.now c.in-Some.laid c.lay_run.new.store c.widen_jobs.new.updates c.self.invariant (subst IsAlone (sym c.self.view_is) c.requires) (ap (λ (s : State). s.way) c.self.view_is ∙ c.started-started.ensures) (subst (λ (t : State). (s : Stroke) → head_stroke t ≡ Some s → c.group_of-group.result ≡ parent_of s.layer t.present) (sym c.self.view_is) (λ s h. c.group_of-group.ensures ∙ ap (λ l. parent_of l c.args.self.now.present) (c.head_layer.ensures s h))) (record { front = c.next_jobs-jobs.ensures.front; clear = c.next_jobs-jobs.ensures.clear })
    (laid_there c.next_jobs-jobs.result.now c.in-Some.laid _ c.self.inside.store c.lay_run.new.store c.in-Some.is c.in_ok-laid.ensures.some)
    (c.widen_jobs.ensures ∙ ap (λ js. waiting c.self.inside.updates.canvas (updates_with_all c.self.inside.updates.canvas c.group_of-group.result (writes_of js) c.self.inside.updates.patches)) c.split_at.ensures.front)).desk

pub returns-in-Some-clause-some : goal.returns-in-Some-clause-some
returns-in-Some-clause-some c =
    let alone = subst IsAlone (sym c.self.view_is) c.requires in
    subst (λ s. PaintsSmall s c.bound_of.result (state_of (record (parts_of c.self.inside) { store = c.lay_run.new.store; updates = c.widen_jobs.new.updates; way = Some (c.started-started.result + c.in-Some.laid.count); next = c.self.inside.next + c.in-Some.laid.count }))) c.self.view_is
    (paints_small (parts_of c.self.inside) (record (parts_of c.self.inside) { store = c.lay_run.new.store; updates = c.widen_jobs.new.updates; way = Some (c.started-started.result + c.in-Some.laid.count); next = c.self.inside.next + c.in-Some.laid.count }) (take c.in-Some.laid.count c.next_jobs-jobs.result.now) alone.place c.in-Some.laid.count c.in-Some.laid.key c.bound_of.result alone.idle (laid_there c.next_jobs-jobs.result.now c.in-Some.laid _ c.self.inside.store c.lay_run.new.store c.in-Some.is c.in_ok-laid.ensures.some).some
    (laid_run (parts_of c.self.inside) c.started-started.result c.group_of-group.result c.next_jobs-jobs.result.now c.in-Some.laid c.lay_run.new.store c.widen_jobs.new.updates c.self.invariant (subst IsAlone (sym c.self.view_is) c.requires) (ap (λ (s : State). s.way) c.self.view_is ∙ c.started-started.ensures) (subst (λ (t : State). (s : Stroke) → head_stroke t ≡ Some s → c.group_of-group.result ≡ parent_of s.layer t.present) (sym c.self.view_is) (λ s h. c.group_of-group.ensures ∙ ap (λ l. parent_of l c.args.self.now.present) (c.head_layer.ensures s h))) (record { front = c.next_jobs-jobs.ensures.front; clear = c.next_jobs-jobs.ensures.clear })
    (laid_there c.next_jobs-jobs.result.now c.in-Some.laid _ c.self.inside.store c.lay_run.new.store c.in-Some.is c.in_ok-laid.ensures.some)
    (c.widen_jobs.ensures ∙ ap (λ js. waiting c.self.inside.updates.canvas (updates_with_all c.self.inside.updates.canvas c.group_of-group.result (writes_of js) c.self.inside.updates.patches)) c.split_at.ensures.front))
    (subst (λ (js : Jobs). IsLeastRound js c.bound_of.result) c.split_at.ensures.front c.bound_of.ensures))

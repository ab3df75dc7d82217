use Rattle.std.proofs.Common.{◌≡◌, ◌≤◌, ◌+◌, suc, Some, refl, sym, ap, ◌∙◌, subst, arith, add-one}
use Rattle.tile_core.specs.Shots.{Sight}
use Rattle.doc_model.specs.Jobs.{reads}
use Rattle.doc_model.specs.Shots.{shot_of}
use Rattle.job_core.specs.Paints.{layer_of}
use Rattle.desk_steps.specs.Archives.{layer_under_way}
use Rattle.desk_steps.specs.Tiles.{ShowsTiles}
use Rattle.machine_model.specs.State.{State}
use Rattle.machine_model.specs.Event.{Start}
use Rattle.machine_model.specs.Step.{StartStep}
use Rattle.desk_state.specs.Enabled.{Enabled}
use Rattle.desk_state.specs.Parts.{Parts, state_of}
use Rattle.desk_state.proofs.JobDoing.{free_at, start_does, serial_fits}
use Rattle.desk_state.proofs.Doing.{Does}
use Rattle.desk_events.specs.Kept.{parts_of}
use Rattle.desk_events.specs.Sparing.{AreFrom}
use Rattle.desk_events.proofs.TicketsMatch.{paint_ticket}
use Rattle.desk_events.proofs.machine.Machine.start.Goals as goal

pub put-requires : goal.put-requires
put-requires c = free_at (parts_of c.self.inside) c.args.place (subst (λ s. Enabled s (Start c.args.place)) (sym c.self.view_is) c.requires)

pub overflow_add-self : goal.overflow_add-self
overflow_add-self c = let few = c.next_job-next.ensures.few in omega arith

pub overflow_add-self-2 : goal.overflow_add-self-2
overflow_add-self-2 c = let h = serial_fits (parts_of c.self.inside) c.self.invariant in omega (arith, h)

pub overflow_add-result : goal.overflow_add-result
overflow_add-result c = let few = c.next_job-next.ensures.few in omega arith

pub invariant_of-self : goal.invariant_of-self
invariant_of-self c = (start_does (parts_of c.self.inside) c.args.place c.next_job-next.result.index c.next_job-next.result.job c.in_ok-kept.kept (record { serial = c.self.inside.next; index = c.next_job-next.result.index; job = c.next_job-next.result.job; shot = c.in_ok-kept.kept; published = c.new.result }) c.put.new.self c.self.invariant (subst (λ s. Enabled s (Start c.args.place)) (sym c.self.view_is) c.requires)
    (subst (λ (t : State). (can : Enabled t (Start c.args.place)) → c.next_job-next.result.index ≡ can.1.next) (sym c.self.view_is) c.next_job-next.ensures.index (subst (λ s. Enabled s (Start c.args.place)) (sym c.self.view_is) c.requires))
    (subst (λ (t : State). (can : Enabled t (Start c.args.place)) → c.next_job-next.result.job ≡ can.1.job.1) (sym c.self.view_is) c.next_job-next.ensures.job (subst (λ s. Enabled s (Start c.args.place)) (sym c.self.view_is) c.requires))
    c.next_job-next.ensures.checked (c.in_ok-kept.ensures.rects ∙ c.as_slice.ensures.value ∙ c.reads-reads.ensures)
    (c.in_ok-kept.ensures.shot ∙ ap (λ rects. shot_of rects (layer_under_way c.self.inside.store.way c.self.inside.store.present)) (c.as_slice.ensures.value ∙ c.reads-reads.ensures))
    (λ i. record { serial = c.self.inside.next; index = c.next_job-next.result.index; job = c.next_job-next.result.job; shot = c.in_ok-kept.kept; published = c.new.ensures i }) c.put.ensures).desk

abbrev before : goal.After-result-1 → Parts
before c = parts_of c.self.inside

abbrev after : goal.After-result-1 → Parts
after c = record (before c) { slots = c.put.new.self; way = Some (c.next_job-next.result.index + 1); next = c.self.inside.next + 1 }

does : (c : goal.After-result-1) → Does (before c) (Start c.args.place) (after c)
does c = start_does (before c) c.args.place c.next_job-next.result.index c.next_job-next.result.job c.in_ok-kept.kept (record { serial = c.self.inside.next; index = c.next_job-next.result.index; job = c.next_job-next.result.job; shot = c.in_ok-kept.kept; published = c.new.result }) c.put.new.self c.self.invariant (subst (λ s. Enabled s (Start c.args.place)) (sym c.self.view_is) c.requires)
    (subst (λ (t : State). (can : Enabled t (Start c.args.place)) → c.next_job-next.result.index ≡ can.1.next) (sym c.self.view_is) c.next_job-next.ensures.index (subst (λ s. Enabled s (Start c.args.place)) (sym c.self.view_is) c.requires))
    (subst (λ (t : State). (can : Enabled t (Start c.args.place)) → c.next_job-next.result.job ≡ can.1.job.1) (sym c.self.view_is) c.next_job-next.ensures.job (subst (λ s. Enabled s (Start c.args.place)) (sym c.self.view_is) c.requires))
    c.next_job-next.ensures.checked (c.in_ok-kept.ensures.rects ∙ c.as_slice.ensures.value ∙ c.reads-reads.ensures)
    (c.in_ok-kept.ensures.shot ∙ ap (λ rects. shot_of rects (layer_under_way c.self.inside.store.way c.self.inside.store.present)) (c.as_slice.ensures.value ∙ c.reads-reads.ensures))
    (λ i. record { serial = c.self.inside.next; index = c.next_job-next.result.index; job = c.next_job-next.result.job; shot = c.in_ok-kept.kept; published = c.new.ensures i }) c.put.ensures

pub returns-clause-ok : goal.returns-clause-ok
returns-clause-ok c = subst (λ s. StartStep s c.args.place (state_of (after c))) c.self.view_is (does c).step

pub returns-clause-ticket : goal.returns-clause-ticket
returns-clause-ticket c = paint_ticket (before c) (state_of (after c))
    (record { slot = record { place = c.args.place; serial = c.self.inside.next }; stroke = c.next_job-next.result.no; job = c.next_job-next.result.index + 1; work = c.next_job-next.result.job; since = c.least_at_work-since.result; shot = c.in_ok-shot.shot })
    c.self.invariant (does c).step refl
    (subst (λ (t : State). (can : Enabled t (Start c.args.place)) → c.next_job-next.result.no ≡ can.1.stroke.no) (sym c.self.view_is) c.next_job-next.ensures.no (state_of (after c), (does c).step))
    (add-one c.next_job-next.result.index ∙ ap suc (subst (λ (t : State). (can : Enabled t (Start c.args.place)) → c.next_job-next.result.index ≡ can.1.next) (sym c.self.view_is) c.next_job-next.ensures.index (state_of (after c), (does c).step)))
    (subst (λ (t : State). (can : Enabled t (Start c.args.place)) → c.next_job-next.result.job ≡ can.1.job.1) (sym c.self.view_is) c.next_job-next.ensures.job (state_of (after c), (does c).step))
    c.next_job-next.ensures.checked (ap (λ (s : Sight). s.rects) c.in_ok-shot.ensures ∙ c.in_ok-kept.ensures.rects ∙ c.as_slice.ensures.value ∙ c.reads-reads.ensures)
    (ap layer_of c.in_ok-shot.ensures ∙ c.in_ok-kept.ensures.shot ∙ ap (λ rects. shot_of rects (layer_under_way c.self.inside.store.way c.self.inside.store.present)) (c.as_slice.ensures.value ∙ c.reads-reads.ensures))
    (subst (λ n. c.least_at_work-since.result ≤ n) (subst (λ (t : State). (can : Enabled t (Start c.args.place)) → c.next_job-next.result.index ≡ can.1.next) (sym c.self.view_is) c.next_job-next.ensures.index (state_of (after c), (does c).step)) c.least_at_work-since.ensures.low)
    (subst (λ (t : State). AreFrom c.least_at_work-since.result t.slots) (sym c.self.view_is) c.least_at_work-since.ensures.all)
    (subst (ShowsTiles (reads c.next_job-next.result.job) (layer_under_way c.self.inside.store.way c.self.inside.store.present)) (sym c.in_ok-shot.ensures)
    (subst (λ rects. ShowsTiles rects (layer_under_way c.self.inside.store.way c.self.inside.store.present) c.in_ok-kept.kept) (c.as_slice.ensures.value ∙ c.reads-reads.ensures) c.in_ok-kept.ensures.tiles))

-- What the calls that start a walk leave is the event of the machine.
use Rattle.std.proofs.Common.{◌≡◌, ℕ, suc, Option, Some, None, List, [], sym, ◌∙◌, subst}
use Rattle.std.specs.Prelude.{slice_set, remove}
use Rattle.std.specs.List.{find, position_or_len}
use Rattle.std.proofs.lemmas.List.Folds.{find_at}
use Rattle.doc_model.specs.declared.canvas.Patch.{Patch}
use Rattle.machine_model.specs.Event.{WalkStart}
use Rattle.machine_model.specs.Walking.{IsGroupOf}
use Rattle.machine_model.specs.Walks.{walk_shot}
use Rattle.machine_model.proofs.Lists.{all_get}
use Rattle.slot_core.specs.declared.Busy.{Busy}
use Rattle.slot_core.specs.Busy.{walkers}
use Rattle.update_queue.specs.Waiting.{Waiting, waiting, avoids}
use Rattle.desk_state.specs.declared.work.Walker.{Walker}
use Rattle.desk_state.specs.declared.work.Work.{Work}
use Rattle.desk_state.specs.Choices.{CanWalk}
use Rattle.desk_state.specs.Parts.{Parts, state_of}
use Rattle.desk_state.specs.Tied.{IsDesk}
use Rattle.desk_state.specs.After.{busy_walker}
use Rattle.desk_state.proofs.Places.{free_as}
use Rattle.desk_state.proofs.Doing.{Does}
use Rattle.desk_state.proofs.Walkable.{walkers_meet, first_same, found_fits}
use Rattle.desk_state.proofs.Walking.{MayWalk, walk_start_step, walk_start_keeps}
use Rattle.geom_core.proofs.Tests.{not_true}

-- a walk may start of the patch that was found
pub may_walk : (d : Parts) (place : ℕ) (w : Walker) → IsDesk d → CanWalk (state_of d) place → find (avoids (walkers d.slots)) d.updates.patches ≡ Some w.inputs.patch → w.serial ≡ d.next → w.inputs.groups ≡ walk_shot (state_of d) w.inputs.patch → w.published ≡ []
    → MayWalk d place (position_or_len (avoids (walkers d.slots)) d.updates.patches) w
may_walk d place w desk can found serial inputs fresh = record {
  waits = sym (find_at (avoids (walkers d.slots)) d.updates.patches) ∙ found;
  free = free_as d.slots place can.enabled.1.free;
  not_exclusive = can.enabled.1.not_exclusive;
  avoids = sym (walkers_meet w.inputs.patch.rect d.slots desk.slots) ∙ not_true _ (found_fits (avoids (walkers d.slots)) d.updates.patches w.inputs.patch found);
  serial = serial;
  inputs = inputs;
  fresh = fresh;
}

pub walk_start_does : (d : Parts) (place : ℕ) (w : Walker) (updates : Waiting) (slots : List (Option (Busy Work))) → IsDesk d → CanWalk (state_of d) place → find (avoids (walkers d.slots)) d.updates.patches ≡ Some w.inputs.patch → w.serial ≡ d.next
    → w.inputs.groups ≡ walk_shot (state_of d) w.inputs.patch → w.published ≡ [] → updates ≡ waiting d.updates.canvas (remove d.updates.patches (position_or_len (avoids (walkers d.slots)) d.updates.patches)) → slots ≡ slice_set d.slots place (Some (busy_walker w))
    → Does d (WalkStart place w.inputs.patch) (record d { updates = updates; slots = slots; next = suc d.next })
walk_start_does d place w updates slots desk can found serial inputs fresh waits put =
    let may = may_walk d place w desk can found serial inputs fresh in
    subst (Does d (WalkStart place w.inputs.patch)) (λ i. record d { updates = sym waits i; slots = sym put i; next = suc d.next })
    (record { desk = walk_start_keeps d place (position_or_len (avoids (walkers d.slots)) d.updates.patches) w desk may; step = walk_start_step d place (position_or_len (avoids (walkers d.slots)) d.updates.patches) w may })

-- the walk of the patch that was found recomposes a group of the document
pub group_found : (d : Parts) (p : Patch) → IsDesk d → find (avoids (walkers d.slots)) d.updates.patches ≡ Some p → IsGroupOf d.store.present p.walk
group_found d p desk found = all_get (λ (q : Patch). IsGroupOf d.store.present q.walk) d.updates.patches (position_or_len (avoids (walkers d.slots)) d.updates.patches) p desk.sound.orderly.walking.groups (sym (find_at (avoids (walkers d.slots)) d.updates.patches) ∙ found)

-- where a patch may be walked, one is found
pub not_lost : (d : Parts) (place : ℕ) → IsDesk d → CanWalk (state_of d) place → find (avoids (walkers d.slots)) d.updates.patches ≡ None → ⊥
not_lost d place desk can lost = let e : None ≡ Some can.patch = sym lost ∙ first_same d.slots d.updates.patches desk.slots ∙ can.first in cc

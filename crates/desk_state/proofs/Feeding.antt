-- A command that is fed: what the desk does is the event of the machine.
use Rattle.std.proofs.Common.{◌≡◌, ℕ, suc, ◌≤◌, ◌<◌, true, Option, Some, None, [], ◌∷◌, ◌++◌, length, refl, sym, ap, ◌∙◌, arith, subst}
use Rattle.std.specs.Prelude.{◌^◌, ◌-◌, slice_get}
use Rattle.doc_model.specs.declared.command.Command.{Command}
use Rattle.doc_model.specs.Lawful.{may_follow}
use Rattle.doc_model.specs.Feeding.{lawful}
use Rattle.doc_model.specs.Strokes.{Stroke, entries}
use Rattle.doc_model.proofs.Feeding.{lawful_last}
use Rattle.entry_queue.specs.Pushed.{takes}
use Rattle.entry_queue.proofs.Standing.{stands_pushed}
use Rattle.entry_queue.proofs.Taking.{takes_lawful}
use Rattle.machine_model.specs.State.{head_stroke}
use Rattle.machine_model.specs.Event.{Feed}
use Rattle.machine_model.specs.Step.{Step}
use Rattle.machine_model.specs.Guards.{kept_jobs}
use Rattle.machine_model.proofs.FeedKeeps.{Grows, head_after}
use Rattle.machine_model.proofs.GrownStroke.{get_front}
use Rattle.machine_model.proofs.RunsSound.{step_keeps_sound}
use Rattle.desk_state.specs.Parts.{Parts, state_of}
use Rattle.desk_state.specs.Tied.{IsDesk, IsWay, IsBegun}
use Rattle.desk_state.specs.After.{after_feed}
use Rattle.desk_state.proofs.Keeping.{IsGoing, going}
use Rattle.desk_state.proofs.Noting.{noted_grown}
use Rattle.geom_core.proofs.Tests.{length_more}

lawful_more : (d : Parts) (c : Command) → IsDesk d → may_follow (entries d.fed) c ≡ true → lawful (d.fed ++ c ∷ []) ≡ true
lawful_more d c desk may = lawful_last d.fed c desk.sound.orderly.told.lawful may

-- the queue takes it
pub queue_takes : (d : Parts) (c : Command) → IsDesk d → may_follow (entries d.fed) c ≡ true → takes d.queue.left c ≡ true
queue_takes d c desk may = takes_lawful d.fed c d.queue (lawful_more d c desk may) desk.queue

pub feed_step : (d : Parts) (c : Command) → may_follow (entries d.fed) c ≡ true → Step (state_of d) (Feed c) (state_of (after_feed d c))
feed_step d c may = (may, refl)

way_fed : (d : Parts) (c : Command) → IsDesk d → (o : Option ℕ) → d.way ≡ o → IsWay (state_of (after_feed d c)) d.store o
way_fed d c desk None e = subst (IsWay (state_of d) d.store) e desk.way
way_fed d c desk (Some n) e = record {
  stroke = grown.0;
  at_head = grown.1;
  keys = b.keys;
  way = b.way ∙ ap (λ l. Some (l, b.keys)) (sym grown.2.layer);
  notes = λ k. b.notes k ∙ sym (noted_grown (kept_jobs b.stroke) (kept_jobs grown.0) (state_of d).slots n k (λ j h. ap (λ js. slice_get js j) grown.2.jobs.1 ∙ get_front (kept_jobs b.stroke) grown.2.jobs.0 j (below j h)));
  room = b.room;
}
  where
    b : IsBegun (state_of d) d.store n
    b = subst (IsWay (state_of d) d.store) e desk.way

    g : IsGoing d
    g = going d n desk e

    grown : (new : Stroke) × (head_stroke (state_of (after_feed d c)) ≡ Some new) × Grows b.stroke new
    grown = head_after (state_of d) c b.stroke b.at_head

    some_stroke : (x y : Stroke) → Some x ≡ Some y → x ≡ y
    some_stroke x y e = cc

    few : g.n ≤ length (kept_jobs b.stroke)
    few = subst (λ (s : Stroke). g.n ≤ length (kept_jobs s)) (some_stroke _ _ (sym g.under.at_head ∙ b.at_head)) g.under.few

    some_number : (x y : ℕ) → Some x ≡ Some y → x ≡ y
    some_number x y e = cc

    below : (j : ℕ) → j < n → j < length (kept_jobs b.stroke)
    below j h = let same : g.n ≡ n = some_number _ _ (sym g.way ∙ e) in omega (arith, few)

pub feed_keeps : (d : Parts) (c : Command) → IsDesk d → may_follow (entries d.fed) c ≡ true → length d.fed < 2 ^ 32 - 1 → IsDesk (after_feed d c)
feed_keeps d c desk may few = record {
  sound = step_keeps_sound (state_of d) (state_of (after_feed d c)) (Feed c) desk.sound (feed_step d c may);
  queue = stands_pushed d.fed c d.queue (lawful_more d c desk may) desk.queue;
  way = way_fed d c desk d.way refl;
  slots = desk.slots;
  area = desk.area;
  few = let e : length (d.fed ++ c ∷ []) ≡ suc (length d.fed) = length_more d.fed c in omega arith;
  sides = desk.sides;
}

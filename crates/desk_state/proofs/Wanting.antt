-- Acts that may happen, and when memory may be wanting.
use Rattle.std.proofs.Common.{◌≡◌, ℕ, ◌<◌, true, false, ◌||◌, Option, Some, None, List, [], length, refl, sym, ap, ◌∙◌, subst, arith}
use Rattle.std.specs.Prelude.{slice_get, option_map, ◌==◌}
use Rattle.doc_model.specs.declared.canvas.Patch.{Patch}
use Rattle.doc_model.specs.declared.command.Command.{Command}
use Rattle.doc_model.specs.declared.command.Command.TheVariants as command
use Rattle.doc_model.specs.Strokes.{Stroke, Fate, Open, Ended, Cancelled, Entry, Strokes, Changes, Undoes, Redoes, Purges, Exports}
use Rattle.entry_queue.specs.declared.entry.Entry as kept
use Rattle.entry_queue.specs.declared.entry.Entry.TheVariants.{Other}
use Rattle.entry_queue.specs.Pushed.{queued}
use Rattle.machine_model.specs.State.{State, head, head_stroke, stroke_of}
use Rattle.machine_model.specs.Event.{Event, Init, Start, Publish, End, Finish, Cancel, Act, Feed, WalkStart, WalkPublish, WalkEnd}
use Rattle.machine_model.specs.Slots.{no_walker}
use Rattle.machine_model.specs.Guards.{kept_jobs, is_cancelled, overlaps, is_paint}
use Rattle.machine_model.specs.UnderWay.{UnderWay, IsOnWay}
use Rattle.desk_state.specs.Enabled.{Enabled}
use Rattle.desk_state.specs.Choices.{HeadWaits, MayWant, of_head, is_clean, acts_now, takes_memory, takes_none, act_takes, act_is_free}
use Rattle.desk_state.specs.Parts.{Parts, state_of}
use Rattle.desk_state.specs.Tied.{IsDesk}
use Rattle.desk_state.proofs.Heads.{head_queued, head_of, other_head, IsHead}
use Rattle.desk_state.proofs.Choosing.{clash, no_none, under_paint, same_way, all_kept, get_below, head_waits, empty_is}
use Rattle.geom_core.proofs.Tests.{both_true, and_left, and_right, never, some_same}

no_walks : (s : State) (c : Command) → acts_now s c ≡ true → no_walker s ≡ true
no_walks s (command.Change x) e = e
no_walks s (command.Stroke n l x) e = e
no_walks s (command.Add n k j) e = e
no_walks s (command.End n) e = e
no_walks s (command.Cancel n) e = e
no_walks s command.Undo e = e
no_walks s command.Redo e = e
no_walks s (command.Purge n) e = e
no_walks s command.Export e = and_right (is_clean s) (no_walker s) e

no_updates : (s : State) → acts_now s command.Export ≡ true → s.updates ≡ []
no_updates s e = empty_is s.updates (and_left (is_clean s) (no_walker s) e)

acts : (s : State) (c : Command) → no_walker s ≡ true → (c ≡ command.Export → s.updates ≡ []) → acts_now s c ≡ true
acts s (command.Change x) e f = e
acts s (command.Stroke n l x) e f = e
acts s (command.Add n k j) e f = e
acts s (command.End n) e f = e
acts s (command.Cancel n) e f = e
acts s command.Undo e f = e
acts s command.Redo e f = e
acts s (command.Purge n) e f = e
acts s command.Export e f = both_true (is_clean s) (no_walker s) (ap (λ (xs : List Patch). length xs == 0) (f refl)) e

other_same : (a b : Command) → Other a ≡ Other b → a ≡ b
other_same a b e = cc

pub act_now : (d : Parts) (c : Command) → IsDesk d → slice_get d.queue.left 0 ≡ Some (Other c) → acts_now (state_of d) c ≡ true → Enabled (state_of d) Act
act_now d c desk first now = (
  _,
  record {
    entry = x.entry;
    at_head = x.at_head;
    no_stroke = other_head d c x;
    no_walks = no_walks (state_of d) c now;
    clean = λ e. no_updates (state_of d) (ap (acts_now (state_of d)) (other_same _ _ (ap queued (sym e) ∙ x.is)) ∙ now);
    new_is = refl;
  },
)
  where
    x : IsHead d (Other c)
    x = head_of d (Other c) desk first

-- an entry that is no stroke has no event but its act
no_stroke_waits : (s : State) → head_stroke s ≡ None → (Enabled s Act → ⊥) → HeadWaits s
no_stroke_waits s none act = head_waits s (λ can. no_none can.1.stroke _ none can.1.at_head) (λ place can. no_none can.1.stroke _ none can.1.at_head) (λ can. no_none can.1.stroke _ none can.1.at_head) (λ can. no_none can.1.stroke _ none can.1.at_head) act

-- an export is no other entry
export_entry : (e : Entry) → queued e ≡ Other command.Export → e ≡ Exports
export_entry Exports q = refl
export_entry Undoes q = cc
export_entry Redoes q = cc
export_entry (Purges n) q = cc
export_entry (Changes c) q = cc
export_entry (Strokes s) q = go s.fate q
  where
    go : (f : Fate) → queued (Strokes (record s { fate = f })) ≡ Other command.Export → Strokes s ≡ Exports
    go Open q = cc
    go Ended q = cc
    go Cancelled q = cc

pub act_waits : (d : Parts) (c : Command) → IsDesk d → slice_get d.queue.left 0 ≡ Some (Other c) → acts_now (state_of d) c ≡ false → HeadWaits (state_of d)
act_waits d c desk first waits = no_stroke_waits (state_of d) (other_head d c x) act
  where
    x : IsHead d (Other c)
    x = head_of d (Other c) desk first

    act : Enabled (state_of d) Act → ⊥
    act can = clash _ (acts (state_of d) c can.1.no_walks (λ e. can.1.clean (some_same _ _ (sym can.1.at_head ∙ x.at_head) ∙ export_entry x.entry (x.is ∙ ap Other e)))) waits

pub none_waits : (d : Parts) → IsDesk d → d.queue.left ≡ [] → HeadWaits (state_of d)
none_waits d desk none = no_stroke_waits (state_of d) (ap stroke_of at_none) (λ can. no_none can.1.entry _ at_none can.1.at_head)
  where
    go : (o : Option Entry) → None ≡ option_map queued o → o ≡ None
    go None e = refl
    go (Some x) e = cc

    at_none : head (state_of d) ≡ None
    at_none = go (head (state_of d)) (ap (λ (es : List kept.Entry). slice_get es 0) (sym none) ∙ head_queued d desk)

-- where a stroke may begin, no event may happen that takes no memory
pub init_wants : (s : State) → Enabled s Init → MayWant s
init_wants s can = record { event = Init; enabled = can; takes = refl; others = others }
  where
    same : (t : Stroke) → head_stroke s ≡ Some t → can.1.stroke ≡ t
    same t at = some_same _ _ (sym can.1.at_head ∙ at)

    others : (e : Event) → takes_none (head s) e ≡ true → Enabled s e → ⊥
    others Finish h c = no_none _ s.way can.1.not_begun (c.1.all_ended (ap (λ (t : Stroke). is_paint t.layer s.base) (sym (same c.1.stroke c.1.at_head)) ∙ can.1.on_paint)).0
    others Cancel h c = never (sym (sym ((λ i. is_cancelled (same c.1.stroke c.1.at_head i) || overlaps (same c.1.stroke c.1.at_head i)) ∙ c.1.refused) ∙ (λ i. can.1.not_cancelled i || can.1.no_overlap i)))
    others Act h c = no_none can.1.stroke _ c.1.no_stroke can.1.at_head
    others Init h c = never h
    others (Start p) h c = never h
    others (Feed k) h c = never h
    others (Publish p k) h c = never h
    others (End p) h c = never h
    others (WalkStart p q) h c = never h
    others (WalkPublish p g k) h c = never h
    others (WalkEnd p) h c = never h

pub start_wants : (s : State) (place : ℕ) → IsOnWay s s.way → Enabled s (Start place) → MayWant s
start_wants s place way can = record { event = Start place; enabled = can; takes = refl; others = others }
  where
    same : (t : Stroke) → head_stroke s ≡ Some t → can.1.stroke ≡ t
    same t at = some_same _ _ (sym can.1.at_head ∙ at)

    u : UnderWay s can.1.next
    u = subst (IsOnWay s) can.1.begun way

    others : (e : Event) → takes_none (head s) e ≡ true → Enabled s e → ⊥
    others Finish h c =
        let n : can.1.next ≡ length c.1.stroke.jobs = same_way s _ _ can.1.begun (c.1.all_ended (under_paint s can.1.next c.1.stroke u c.1.at_head)).0 in
        let below : can.1.next < length (kept_jobs can.1.stroke) = get_below (kept_jobs can.1.stroke) can.1.next can.1.job can.1.is_next in
        let kept : length (kept_jobs can.1.stroke) ≡ length can.1.stroke.jobs = all_kept can.1.stroke can.1.no_overlap in
        let jobs : length can.1.stroke.jobs ≡ length c.1.stroke.jobs = ap (λ (t : Stroke). length t.jobs) (same c.1.stroke c.1.at_head) in
        absurd (omega arith)
    others Cancel h c = never (sym (sym ((λ i. is_cancelled (same c.1.stroke c.1.at_head i) || overlaps (same c.1.stroke c.1.at_head i)) ∙ c.1.refused) ∙ (λ i. can.1.not_cancelled i || can.1.no_overlap i)))
    others Act h c = no_none can.1.stroke _ c.1.no_stroke can.1.at_head
    others Init h c = never h
    others (Start p) h c = never h
    others (Feed k) h c = never h
    others (Publish p k) h c = never h
    others (End p) h c = never h
    others (WalkStart p q) h c = never h
    others (WalkPublish p g k) h c = never h
    others (WalkEnd p) h c = never h

not_both : (o : Option Entry) → act_takes o ≡ true → act_is_free o ≡ true → ⊥
not_both None a b = never a
not_both (Some (Changes c)) a b = never b
not_both (Some Exports) a b = never b
not_both (Some Undoes) a b = never a
not_both (Some Redoes) a b = never a
not_both (Some (Purges n)) a b = never a
not_both (Some (Strokes t)) a b = never a

pub act_wants : (s : State) → Enabled s Act → takes_memory (head s) Act ≡ true → MayWant s
act_wants s can takes = record { event = Act; enabled = can; takes = takes; others = others }
  where
    others : (e : Event) → takes_none (head s) e ≡ true → Enabled s e → ⊥
    others Finish h c = no_none c.1.stroke _ can.1.no_stroke c.1.at_head
    others Cancel h c = no_none c.1.stroke _ can.1.no_stroke c.1.at_head
    others Act h c = not_both (head s) takes h
    others Init h c = never h
    others (Start p) h c = never h
    others (Feed k) h c = never h
    others (Publish p k) h c = never h
    others (End p) h c = never h
    others (WalkStart p q) h c = never h
    others (WalkPublish p g k) h c = never h
    others (WalkEnd p) h c = never h

is_of_head : (o : Option Entry) (e : Event) → takes_none o e ≡ true → of_head e ≡ true
is_of_head o Finish h = refl
is_of_head o Cancel h = refl
is_of_head o Act h = refl
is_of_head o Init h = refl
is_of_head o (Start p) h = refl
is_of_head o (Feed k) h = absurd (never h)
is_of_head o (Publish p k) h = absurd (never h)
is_of_head o (End p) h = absurd (never h)
is_of_head o (WalkStart p q) h = absurd (never h)
is_of_head o (WalkPublish p g k) h = absurd (never h)
is_of_head o (WalkEnd p) h = absurd (never h)

pub walk_wants : (s : State) (place : ℕ) (patch : Patch) → HeadWaits s → Enabled s (WalkStart place patch) → MayWant s
walk_wants s place patch waits can = record { event = WalkStart place patch; enabled = can; takes = refl; others = λ e h c. waits e (is_of_head (head s) e h) c }

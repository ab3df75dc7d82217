-- What the acts of entries that are no strokes leave is the event of the machine.
use Rattle.std.proofs.Common.{◌≡◌, ℕ, Option, Some, None, Err, List, [], ◌∷◌, ◌++◌, take, refl, sym, ap, ◌∙◌, subst}
use Rattle.std.specs.Prelude.{All, option_map}
use Rattle.std.specs.Ordering.{nat_cmp}
use Rattle.std.specs.FinMap.{FinMap}
use Rattle.std.proofs.lemmas.List.Elements.{All-append, All-cons, All-nil}
use Rattle.geom_core.specs.Areas.{Area}
use Rattle.std.specs.FinSet as set
use Rattle.doc_model.specs.declared.command.Command.{Command}
use Rattle.doc_model.specs.declared.command.Command.TheVariants as command
use Rattle.doc_model.specs.declared.command.Outcome.{Outcome}
use Rattle.doc_model.specs.declared.command.Outcome.TheVariants as outcome
use Rattle.doc_model.specs.declared.tree.Change.{Change}
use Rattle.doc_model.specs.declared.tree.TreeFault.{TreeFault}
use Rattle.doc_model.specs.Changes.{changed}
use Rattle.doc_model.specs.Layers.{Layer, plain}
use Rattle.doc_model.specs.Picture.{Doc, frame}
use Rattle.doc_model.specs.Strokes.{Entry, Changes, Undoes, Redoes, Purges, Exports}
use Rattle.frame_core.specs.Frames.{Scene}
use Rattle.frame_core.specs.Scenes.{HasSides, colours_of}
use Rattle.entry_queue.specs.declared.entry.Entry.TheVariants as item
use Rattle.entry_queue.specs.Pushed.{Pending, queued}
use Rattle.desk_steps.specs.Archives as archives
use Rattle.desk_steps.specs.Archives.{Archive, undone, redone}
use Rattle.machine_model.specs.State.{State, Reach, Whole, Part, head}
use Rattle.machine_model.specs.Event.{Act}
use Rattle.machine_model.specs.Step.{ActStep}
use Rattle.machine_model.specs.Groups.{parent_of}
use Rattle.machine_model.specs.Effects.{after_entry}
use Rattle.geom_core.specs.Touches.{bound_of}
use Rattle.desk_state.specs.Enabled.{Enabled}
use Rattle.update_queue.specs.Waiting.{Waiting, widened_by}
use Rattle.desk_state.specs.Parts.{Parts, state_of}
use Rattle.desk_state.specs.Tied.{IsDesk}
use Rattle.desk_state.specs.After.{after_act, moved_caches, moved_updates}
use Rattle.desk_state.proofs.Heads.{head_queued}
use Rattle.desk_state.proofs.Acting.{MayAct, is_entry, act_step, act_keeps, at_rest, refused_is, nothing_undone, nothing_redone, change_is, undo_is, redo_is, purge_is, export_is}
use Rattle.desk_state.proofs.Doing.{Does, IsPopped, popped_is, present_at_rest, store_at_rest}

same_widened : (u : Waiting) (g : ℕ) (r : Option Area) → (widened_by u g r).canvas ≡ u.canvas
same_widened u g None = refl
same_widened u g (Some a) = refl

same_canvas : (u : Waiting) (new : Doc) (r : Reach) → (moved_updates u new r).canvas ≡ u.canvas
same_canvas u new Whole = refl
same_canvas u new (Part layer keys) = same_widened u (parent_of layer new) (bound_of (set.items keys))

-- the machine's Act of an entry that a command makes
pub may_act : (d : Parts) (new : State) (c : Command) (e : Entry) → IsDesk d → ActStep (state_of d) new → head (state_of d) ≡ Some e → queued e ≡ item.Other c → MayAct d c e
may_act d new c e desk step at is = record {
  first = head_queued d desk ∙ ap (option_map queued) at ∙ ap Some is;
  entry = is_entry e c is;
  no_walks = step.no_walks;
  clean = λ x. step.clean (some_entry _ _ (sym step.at_head ∙ at) ∙ x);
}
  where
    some_entry : (a b : Entry) → Some a ≡ Some b → a ≡ b
    some_entry a b h = cc

pub act_does : (d : Parts) (c : Command) (e : Entry) (q : Pending) (o : Outcome) (store : Archive) (caches : FinMap nat_cmp Layer) (updates : Waiting) (frames : List Scene) → IsDesk d → Enabled (state_of d) Act → head (state_of d) ≡ Some e → queued e ≡ item.Other c
    → IsPopped d.queue q o → store.way ≡ None → updates.canvas ≡ d.updates.canvas → All (HasSides d.canvas.w d.canvas.h) frames → state_of (after_act d o store caches updates frames) ≡ after_entry (state_of d) e → Does d Act (record d { queue = q; store = store; caches = caches; updates = updates; frames = frames })
act_does d c e q o store caches updates frames desk can at is pop way area sides shows =
    subst (Does d Act) (λ i. record d { queue = sym (popped_is d.queue q o pop) i; store = store; caches = caches; updates = updates; frames = frames })
    (record { desk = act_keeps d c e o store caches updates frames desk (may_act d can.0 c e desk can.1 at is) way area sides shows; step = act_step d (after_act d o store caches updates frames) c e desk (may_act d can.0 c e desk can.1 at is) shows })

-- nothing is under way where the entry at the head is no stroke
pub act_at_rest : (d : Parts) (c : Command) (e : Entry) → IsDesk d → Enabled (state_of d) Act → head (state_of d) ≡ Some e → queued e ≡ item.Other c → d.way ≡ None
act_at_rest d c e desk can at is = at_rest d c e desk (may_act d can.0 c e desk can.1 at is)

-- the past is cut
pub purge_does : (d : Parts) (n : ℕ) (q : Pending) (store : Archive) → IsDesk d → Enabled (state_of d) Act → head (state_of d) ≡ Some (Purges n) → IsPopped d.queue q outcome.Done → store ≡ record d.store { past = take n d.store.past } → Does d Act (record d { queue = q; store = store })
purge_does d n q store desk can at pop cut =
    subst (Does d Act) (λ i. record d { queue = q; store = sym cut i })
    (act_does d (command.Purge n) (Purges n) q outcome.Done (record d.store { past = take n d.store.past }) d.caches d.updates d.frames desk can at refl pop (store_at_rest d desk rest) refl desk.sides (purge_is d n (present_at_rest d desk rest)))
  where
    rest : d.way ≡ None
    rest = act_at_rest d (command.Purge n) (Purges n) desk can at refl

-- nothing is there to be undone
pub undo_none_does : (d : Parts) (q : Pending) (store : Archive) → IsDesk d → Enabled (state_of d) Act → head (state_of d) ≡ Some Undoes → d.store.past ≡ [] → IsPopped d.queue q outcome.NothingToUndo → store ≡ undone d.store.past d.store → Does d Act (record d { queue = q; store = store })
undo_none_does d q store desk can at none pop is =
    subst (Does d Act) (λ i. record d { queue = q; store = sym (is ∙ ap (λ es. undone es d.store) none) i })
    (act_does d command.Undo Undoes q outcome.NothingToUndo d.store d.caches d.updates d.frames desk can at refl pop (store_at_rest d desk rest) refl desk.sides (nothing_undone d (present_at_rest d desk rest) none))
  where
    rest : d.way ≡ None
    rest = act_at_rest d command.Undo Undoes desk can at refl

-- the newest change is undone
pub undo_does : (d : Parts) (e : Doc × Reach) (past : List (Doc × Reach)) (q : Pending) (store : Archive) (caches : FinMap nat_cmp Layer) (updates : Waiting) → IsDesk d → Enabled (state_of d) Act → head (state_of d) ≡ Some Undoes → d.store.past ≡ e ∷ past
    → IsPopped d.queue q outcome.Done → store ≡ undone d.store.past d.store → caches ≡ moved_caches d.caches e.0 e.1 → updates ≡ moved_updates d.updates e.0 e.1 → Does d Act (record d { queue = q; store = store; caches = caches; updates = updates })
undo_does d e past q store caches updates desk can at some pop is kept waits =
    subst (Does d Act) (λ i. record d { queue = q; store = sym is i; caches = sym kept i; updates = sym waits i })
    (act_does d command.Undo Undoes q outcome.Done (undone d.store.past d.store) (moved_caches d.caches e.0 e.1) (moved_updates d.updates e.0 e.1) d.frames desk can at refl pop (ap (λ es. (undone es d.store).way) some ∙ store_at_rest d desk rest) (same_canvas d.updates e.0 e.1) desk.sides (undo_is d e past desk.area some))
  where
    rest : d.way ≡ None
    rest = act_at_rest d command.Undo Undoes desk can at refl

-- nothing is there to be redone
pub redo_none_does : (d : Parts) (q : Pending) (store : Archive) → IsDesk d → Enabled (state_of d) Act → head (state_of d) ≡ Some Redoes → d.store.future ≡ [] → IsPopped d.queue q outcome.NothingToRedo → store ≡ redone d.store.future d.store → Does d Act (record d { queue = q; store = store })
redo_none_does d q store desk can at none pop is =
    subst (Does d Act) (λ i. record d { queue = q; store = sym (is ∙ ap (λ es. redone es d.store) none) i })
    (act_does d command.Redo Redoes q outcome.NothingToRedo d.store d.caches d.updates d.frames desk can at refl pop (store_at_rest d desk rest) refl desk.sides (nothing_redone d (present_at_rest d desk rest) none))
  where
    rest : d.way ≡ None
    rest = act_at_rest d command.Redo Redoes desk can at refl

-- what was undone last is redone
pub redo_does : (d : Parts) (e : Doc × Reach) (future : List (Doc × Reach)) (q : Pending) (store : Archive) (caches : FinMap nat_cmp Layer) (updates : Waiting) → IsDesk d → Enabled (state_of d) Act → head (state_of d) ≡ Some Redoes → d.store.future ≡ e ∷ future
    → IsPopped d.queue q outcome.Done → store ≡ redone d.store.future d.store → caches ≡ moved_caches d.caches e.0 e.1 → updates ≡ moved_updates d.updates e.0 e.1 → Does d Act (record d { queue = q; store = store; caches = caches; updates = updates })
redo_does d e future q store caches updates desk can at some pop is kept waits =
    subst (Does d Act) (λ i. record d { queue = q; store = sym is i; caches = sym kept i; updates = sym waits i })
    (act_does d command.Redo Redoes q outcome.Done (redone d.store.future d.store) (moved_caches d.caches e.0 e.1) (moved_updates d.updates e.0 e.1) d.frames desk can at refl pop (ap (λ es. (redone es d.store).way) some ∙ store_at_rest d desk rest) (same_canvas d.updates e.0 e.1) desk.sides (redo_is d e future desk.area some))
  where
    rest : d.way ≡ None
    rest = act_at_rest d command.Redo Redoes desk can at refl

-- the tree is changed
pub change_does : (d : Parts) (change : Change) (q : Pending) (store : Archive) (caches : FinMap nat_cmp Layer) (updates : Waiting) → IsDesk d → Enabled (state_of d) Act → head (state_of d) ≡ Some (Changes change)
    → IsPopped d.queue q outcome.Done → archives.Changes change d.store store → caches ≡ moved_caches d.caches store.base Whole → updates ≡ moved_updates d.updates store.base Whole → Does d Act (record d { queue = q; store = store; caches = caches; updates = updates })
change_does d change q store caches updates desk can at pop made kept waits =
    subst (Does d Act) (λ i. record d { queue = q; store = store; caches = sym kept i; updates = sym waits i })
    (act_does d (command.Change change) (Changes change) q outcome.Done store (moved_caches d.caches store.base Whole) (moved_updates d.updates store.base Whole) d.frames desk can at refl pop (ap (λ (a : Archive). a.way) made.new_is) refl desk.sides (change_is d change store desk.area made))

-- the tree isn't changed
pub refused_does : (d : Parts) (change : Change) (fault : TreeFault) (q : Pending) → IsDesk d → Enabled (state_of d) Act → head (state_of d) ≡ Some (Changes change) → IsPopped d.queue q (outcome.Tree fault) → changed plain change d.store.base ≡ Err fault → Does d Act (record d { queue = q })
refused_does d change fault q desk can at pop err =
    act_does d (command.Change change) (Changes change) q (outcome.Tree fault) d.store d.caches d.updates d.frames desk can at refl pop (store_at_rest d desk rest) refl desk.sides (refused_is d change fault (present_at_rest d desk rest) err)
  where
    rest : d.way ≡ None
    rest = act_at_rest d (command.Change change) (Changes change) desk can at refl

-- a frame is taken
pub export_does : (d : Parts) (shown : Scene) (q : Pending) → IsDesk d → Enabled (state_of d) Act → head (state_of d) ≡ Some Exports → IsPopped d.queue q outcome.Done → HasSides d.canvas.w d.canvas.h shown → colours_of shown ≡ frame d.store.base d.canvas → Does d Act (record d { queue = q; frames = d.frames ++ shown ∷ [] })
export_does d shown q desk can at pop sides shows =
    act_does d command.Export Exports q outcome.Done d.store d.caches d.updates (d.frames ++ shown ∷ []) desk can at refl pop (store_at_rest d desk rest) refl (All-append (HasSides d.canvas.w d.canvas.h) d.frames (shown ∷ []) desk.sides (All-cons (HasSides d.canvas.w d.canvas.h) shown [] sides (All-nil (HasSides d.canvas.w d.canvas.h)))) (export_is d shown (present_at_rest d desk rest) shows)
  where
    rest : d.way ≡ None
    rest = act_at_rest d command.Export Exports desk can at refl

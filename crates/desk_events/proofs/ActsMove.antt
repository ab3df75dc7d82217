-- What an undo, a redo and a change leave, by what the store tells of them.
use Rattle.std.proofs.Common.{◌≡◌, Some, List, [], ◌∷◌, refl, sym, ap, ◌∙◌, subst}
use Rattle.std.specs.Prelude.{slice_get}
use Rattle.std.specs.Ordering.{nat_cmp}
use Rattle.std.specs.FinMap.{FinMap}
use Rattle.doc_model.specs.declared.command.Command.{Command}
use Rattle.doc_model.specs.declared.command.Outcome.TheVariants as outcome
use Rattle.doc_model.specs.declared.tree.Change.{Change}
use Rattle.doc_model.specs.Layers.{Layer}
use Rattle.doc_model.specs.Picture.{Doc}
use Rattle.doc_model.specs.Strokes.{Entry, Changes, Undoes, Redoes}
use Rattle.entry_queue.specs.declared.entry.Entry.TheVariants as item
use Rattle.entry_queue.specs.Pushed.{Pending}
use Rattle.desk_steps.specs.Archives as archives
use Rattle.desk_steps.specs.Archives.{Archive, TellsReach, TellsFirst, undone, redone}
use Rattle.desk_steps.specs.declared.reach.Reach as told
use Rattle.machine_model.specs.State.{Reach, Whole, head}
use Rattle.machine_model.specs.Event.{Act}
use Rattle.frame_core.specs.Frames.{Scene}
use Rattle.update_queue.specs.Waiting.{Waiting}
use Rattle.desk_state.specs.Enabled.{Enabled}
use Rattle.desk_state.specs.Parts.{Parts, state_of}
use Rattle.desk_state.specs.Tied.{IsDesk}
use Rattle.desk_state.specs.After.{moved_caches, moved_updates}
use Rattle.desk_state.proofs.Heads.{head_of, IsHead}
use Rattle.desk_state.proofs.Acting.{entry_of, is_entry}
use Rattle.desk_state.proofs.Doing.{Does, IsPopped}
use Rattle.desk_state.proofs.ActDoing.{undo_does, redo_does, change_does}

-- the entry of a command at the head
pub head_is : (d : Parts) (c : Command) (e : Entry) → IsDesk d → slice_get d.queue.left 0 ≡ Some (item.Other c) → entry_of c ≡ Some e → head (state_of d) ≡ Some e
head_is d c e desk first is = let x : IsHead d (item.Other c) = head_of d (item.Other c) desk first in x.at_head ∙ sym (is_entry x.entry c x.is) ∙ is

-- what waits to be composed after a move to the document of that store; no frame is taken
pub record Renews (d : Parts) (store : Archive) (reach : told.Reach) (kept : FinMap nat_cmp Layer) (waits : Waiting) (frames : List Scene) : Type 0 where
  pub caches : (r : Reach) → TellsReach r store.present reach → kept ≡ moved_caches d.caches store.present r
  pub updates : (r : Reach) → TellsReach r store.present reach → waits ≡ moved_updates d.updates store.present r
  pub frames_stay : frames ≡ d.frames

pub undo_moves : (d : Parts) (reach : told.Reach) (q : Pending) (store : Archive) (caches : FinMap nat_cmp Layer) (updates : Waiting) (frames : List Scene) → IsDesk d → Enabled (state_of d) Act → head (state_of d) ≡ Some Undoes → IsPopped d.queue q outcome.Done
    → store ≡ undone d.store.past d.store → TellsFirst d.store.past store.present reach → Renews d store reach caches updates frames → Does d Act (record d { queue = q; store = store; caches = caches; updates = updates; frames = frames })
undo_moves d reach q store caches updates frames desk can at pop is tells renews =
    subst (λ fs. Does d Act (record d { queue = q; store = store; caches = caches; updates = updates; frames = fs })) (sym renews.frames_stay) (go d.store.past refl tells)
  where
    go : (past : List (Doc × Reach)) → d.store.past ≡ past → TellsFirst past store.present reach → Does d Act (record d { queue = q; store = store; caches = caches; updates = updates })
    go [] e t = absurd t
    go (x ∷ past) e t =
        let new : store.present ≡ x.0 = ap (λ (a : Archive). a.present) (is ∙ ap (λ es. undone es d.store) e) in
        undo_does d x past q store caches updates desk can at e pop is (renews.caches x.1 t ∙ ap (λ doc. moved_caches d.caches doc x.1) new) (renews.updates x.1 t ∙ ap (λ doc. moved_updates d.updates doc x.1) new)

pub redo_moves : (d : Parts) (reach : told.Reach) (q : Pending) (store : Archive) (caches : FinMap nat_cmp Layer) (updates : Waiting) (frames : List Scene) → IsDesk d → Enabled (state_of d) Act → head (state_of d) ≡ Some Redoes → IsPopped d.queue q outcome.Done
    → store ≡ redone d.store.future d.store → TellsFirst d.store.future store.present reach → Renews d store reach caches updates frames → Does d Act (record d { queue = q; store = store; caches = caches; updates = updates; frames = frames })
redo_moves d reach q store caches updates frames desk can at pop is tells renews =
    subst (λ fs. Does d Act (record d { queue = q; store = store; caches = caches; updates = updates; frames = fs })) (sym renews.frames_stay) (go d.store.future refl tells)
  where
    go : (future : List (Doc × Reach)) → d.store.future ≡ future → TellsFirst future store.present reach → Does d Act (record d { queue = q; store = store; caches = caches; updates = updates })
    go [] e t = absurd t
    go (x ∷ future) e t =
        let new : store.present ≡ x.0 = ap (λ (a : Archive). a.present) (is ∙ ap (λ es. redone es d.store) e) in
        redo_does d x future q store caches updates desk can at e pop is (renews.caches x.1 t ∙ ap (λ doc. moved_caches d.caches doc x.1) new) (renews.updates x.1 t ∙ ap (λ doc. moved_updates d.updates doc x.1) new)

pub change_moves : (d : Parts) (change : Change) (q : Pending) (store : Archive) (caches : FinMap nat_cmp Layer) (updates : Waiting) (frames : List Scene) → IsDesk d → Enabled (state_of d) Act → head (state_of d) ≡ Some (Changes change) → IsPopped d.queue q outcome.Done
    → archives.Changes change d.store store → caches ≡ moved_caches d.caches store.present Whole → updates ≡ moved_updates d.updates store.present Whole → frames ≡ d.frames → Does d Act (record d { queue = q; store = store; caches = caches; updates = updates; frames = frames })
change_moves d change q store caches updates frames desk can at pop made kept waits stay =
    let new : store.present ≡ store.base = ap (λ (a : Archive). a.present) made.new_is in
    subst (λ fs. Does d Act (record d { queue = q; store = store; caches = caches; updates = updates; frames = fs })) (sym stay)
    (change_does d change q store caches updates desk can at pop made (kept ∙ ap (λ doc. moved_caches d.caches doc Whole) new) (waits ∙ ap (λ doc. moved_updates d.updates doc Whole) new))

-- A command that is fed keeps what caches and running walks hold.
use Rattle.doc_model.proofs.Feeding.{entries_last}
use Rattle.machine_model.proofs.FeedKeeps.{first_last, first_map, head_is}
use Rattle.std.proofs.Common.{◌≡◌, ℕ, Bool, true, false, cond, List, [], ◌∷◌, ◌++◌, Option, Some, None, refl, sym, ap, ◌∙◌, eqb, subst, ◌⊎◌, inl, inr, length, drop}
use Rattle.std.specs.List.{list_any, AllByRecursion}
use Rattle.geom_core.specs.Areas.{Point}
use Rattle.doc_model.specs.declared.job.Job.{Job}
use Rattle.doc_model.specs.declared.job.Kind.{Kind}
use Rattle.doc_model.specs.declared.command.Command.{Command}
use Rattle.doc_model.specs.declared.command.Command.TheVariants as command
use Rattle.doc_model.specs.declared.canvas.Walk.TheVariants.{Up}
use Rattle.doc_model.specs.Picture.{canvas_area}
use Rattle.doc_model.specs.Strokes.{Stroke, Entry, Strokes, entries, fed, with_job, with_fate, Fate, Ended, Cancelled}
use Rattle.machine_model.specs.State.{Slot, State, head_stroke, head, stroke_of, first}
use Rattle.machine_model.specs.Groups.{path_of, parent_of}
use Rattle.machine_model.specs.Covers.{painted_group}
use Rattle.machine_model.specs.Slots.{is_painter}
use Rattle.machine_model.specs.Event.{Feed}
use Rattle.machine_model.specs.Step.{Step}
use Rattle.machine_model.specs.Caches.{CachesFold, WalkIsRight}
use Rattle.machine_model.specs.Walking.{WalkStands, WalkInside}
use Rattle.machine_model.specs.UnderWay.{IsOnWay}
use Rattle.machine_model.proofs.WalkPaths.{grouped}
use Rattle.machine_model.proofs.Covers.{any_slot, covered_by, painted_path, IsFold, IsRead, caches_by, walks_by, fold_covers, read_covers}
use Rattle.machine_model.proofs.JobCaches.{covered_by_idle}
use Rattle.geom_core.proofs.Tests.{not_true}

-- a stroke at the head stays one for its layer
abbrev StaysFor : ℕ → Option Entry → Type 0
StaysFor layer o = (t : Stroke) × (o ≡ Some (Strokes t)) × (t.layer ≡ layer)

job_stays : (number : ℕ) (kind : Kind) (job : Job) (s : Stroke) → StaysFor s.layer (Some (with_job number kind job (Strokes s)))
job_stays number kind job s = go (eqb s.no number)
  where
    go : (b : Bool) → StaysFor s.layer (Some (cond b (Strokes (record s { jobs = s.jobs ++ (kind, job) ∷ [] })) (Strokes s)))
    go true = (record s { jobs = s.jobs ++ (kind, job) ∷ [] }, refl, refl)
    go false = (s, refl, refl)

fate_stays : (number : ℕ) (fate : Fate) (s : Stroke) → StaysFor s.layer (Some (with_fate number fate (Strokes s)))
fate_stays number fate s = go (eqb s.no number)
  where
    go : (b : Bool) → StaysFor s.layer (Some (cond b (Strokes (record s { fate = fate })) (Strokes s)))
    go true = (record s { fate = fate }, refl, refl)
    go false = (s, refl, refl)

fed_stays : (n : ℕ) (es : List Entry) (c : Command) (s : Stroke) → first (drop n es) ≡ Some (Strokes s) → StaysFor s.layer (first (drop n (fed es c)))
fed_stays n es (command.Change change) s h = (s, first_last n es _ (Strokes s) h, refl)
fed_stays n es (command.Stroke number layer exclusive) s h = (s, first_last n es _ (Strokes s) h, refl)
fed_stays n es (command.Add number kind job) s h = subst (StaysFor s.layer) (sym (first_map n (with_job number kind job) es (Strokes s) h)) (job_stays number kind job s)
fed_stays n es (command.End number) s h = subst (StaysFor s.layer) (sym (first_map n (with_fate number Ended) es (Strokes s) h)) (fate_stays number Ended s)
fed_stays n es (command.Cancel number) s h = subst (StaysFor s.layer) (sym (first_map n (with_fate number Cancelled) es (Strokes s) h)) (fate_stays number Cancelled s)
fed_stays n es command.Undo s h = (s, first_last n es _ (Strokes s) h, refl)
fed_stays n es command.Redo s h = (s, first_last n es _ (Strokes s) h, refl)
fed_stays n es (command.Purge keep) s h = (s, first_last n es _ (Strokes s) h, refl)
fed_stays n es command.Export s h = (s, first_last n es _ (Strokes s) h, refl)

module _ (old new : State) (c : Command) (step : Step old (Feed c) new) (way : IsOnWay old old.way) where
  -- the state afterwards
  abbrev next : State
  next = record old { fed = old.fed ++ c ∷ [] }

  -- either number job is at work, or the same layer is painted
  same_up : (list_any is_painter old.slots ≡ false) ⊎ (painted_path next ≡ painted_path old)
  same_up = go old.way way
    where
      go : (o : Option ℕ) → IsOnWay old o → (list_any is_painter old.slots ≡ false) ⊎ (painted_path next ≡ painted_path old)
      go None rest = inl (not_true _ rest.idle)
      go (Some n) u =
          let before : head old ≡ Some (Strokes u.stroke) = head_is (head old) u.stroke u.at_head in
          let stays : StaysFor u.stroke.layer (head next) = subst (λ es. StaysFor u.stroke.layer (first (drop (length old.outcomes) es))) (sym (entries_last old.fed c)) (fed_stays (length old.outcomes) (entries old.fed) c u.stroke before) in
          let after : head_stroke next ≡ Some stays.0 = ap stroke_of stays.1 in
          inr (ap (λ o. path_of (Up (painted_group old o)) old.present) after ∙ ap (λ l. path_of (Up (parent_of l old.present)) old.present) stays.2 ∙ sym (ap (λ o. path_of (Up (painted_group old o)) old.present) u.at_head))

  covers : (keep : Slot → Bool) (g : ℕ) (p : Point) → covered_by keep old.present (painted_path old) old.updates old.slots g p ≡ true → covered_by keep old.present (painted_path next) old.updates old.slots g p ≡ true
  covers keep g p h = elim same_up [ inl idle ↦ covered_by_idle keep old.present (painted_path next) (painted_path old) old.updates old.slots g p idle ∙ h | inr same ↦ ap (λ up. covered_by keep old.present up old.updates old.slots g p) same ∙ h ]

  pub caches_feed : CachesFold old → CachesFold new
  caches_feed = caches_by old new (ap (λ (s : State). s.canvas) step.1) (λ g h. ap (λ (s : State). grouped g s.present) (sym step.1) ∙ h)
      (λ g p is inside h. subst (λ s. IsFold s g p) (sym step.1) (fold_covers (covers any_slot g p) h))

  pub walks_feed : AllByRecursion (WalkStands old) old.slots → AllByRecursion (WalkInside (canvas_area old.canvas)) old.slots → AllByRecursion (WalkIsRight old) old.slots → AllByRecursion (WalkIsRight new) new.slots
  walks_feed stands inside right = subst (AllByRecursion (WalkIsRight new)) (ap (λ (s : State). s.slots) (sym step.1))
      (walks_by old new (λ w is path p g read held inside on' same h. subst (λ s. IsRead s w g read p) (sym step.1) (read_covers (covers is_painter g p) h)) old.slots stands inside right)

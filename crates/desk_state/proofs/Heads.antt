-- The first entry of the queue is the one at the machine's head.
use Rattle.std.proofs.Common.{◌≡◌, Bool, true, false, Option, Some, None, List, [], ◌∷◌, map, refl, sym, ap, ◌∙◌}
use Rattle.std.specs.Prelude.{IfNone, IfSome, slice_get, option_map}
use Rattle.doc_model.specs.declared.command.Command.{Command}
use Rattle.doc_model.specs.Strokes as doc
use Rattle.doc_model.specs.Strokes.{Stroke, Fate, Open, Ended, Cancelled, Strokes, Changes, Undoes, Redoes, Purges, Exports, conflict}
use Rattle.stroke_core.specs.Fed.{Fed, Closed}
use Rattle.entry_queue.specs.declared.entry.Entry.{Entry}
use Rattle.entry_queue.specs.declared.entry.Entry.TheVariants.{Waiting, Whole, Other}
use Rattle.entry_queue.specs.declared.head.HeadStroke.{HeadStroke}
use Rattle.entry_queue.specs.Heads.{head_in, jobs_in}
use Rattle.entry_queue.specs.Pushed.{queued, kept_of}
use Rattle.entry_queue.proofs.Heads.{told, head_told, jobs_told}
use Rattle.machine_model.specs.Guards.{kept_jobs}
use Rattle.machine_model.specs.State.{first, head, stroke_of, head_stroke}
use Rattle.desk_state.specs.Choices.{IsHeadOf}
use Rattle.desk_state.specs.Parts.{Parts, state_of}
use Rattle.desk_state.specs.Tied.{IsDesk}

first_mapped : (es : List doc.Entry) → slice_get (map queued es) 0 ≡ option_map queued (first es)
first_mapped [] = refl
first_mapped (e ∷ es) = refl

-- what the queue has first
pub head_queued : (d : Parts) → IsDesk d → slice_get d.queue.left 0 ≡ option_map queued (head (state_of d))
head_queued d desk = ap (λ es. slice_get es 0) desk.queue.left_is ∙ first_mapped _

-- the entry at the head, as the queue has it
pub record IsHead (d : Parts) (x : Entry) : Type 0 where
  pub entry : doc.Entry
  pub at_head : head (state_of d) ≡ Some entry
  pub is : queued entry ≡ x

pub head_of : (d : Parts) (x : Entry) → IsDesk d → slice_get d.queue.left 0 ≡ Some x → IsHead d x
head_of d x desk h = go (head (state_of d)) refl (sym (head_queued d desk) ∙ h)
  where
    go : (o : Option doc.Entry) → head (state_of d) ≡ o → option_map queued o ≡ Some x → IsHead d x
    go None e h = cc
    go (Some entry) e h = record { entry = entry; at_head = e; is = some_entry (queued entry) x h }
      where
        some_entry : (a b : Entry) → Some a ≡ Some b → a ≡ b
        some_entry a b e = cc

-- the stroke at the head, with what the queue keeps of it
pub record IsStrokeHead (d : Parts) (fate : Fate) (s : Fed) : Type 0 where
  pub stroke : Stroke
  pub at_head : head_stroke (state_of d) ≡ Some stroke
  pub fate_is : stroke.fate ≡ fate
  pub kept_is : kept_of stroke ≡ s

-- how a closed stroke was closed
abbrev pub fate_of : Bool → Fate
fate_of false = Ended
fate_of true = Cancelled

pub whole_head : (d : Parts) (c : Closed) → IsDesk d → slice_get d.queue.left 0 ≡ Some (Whole c) → IsStrokeHead d (fate_of c.cancelled) c.stroke
whole_head d c desk h = let x : IsHead d (Whole c) = head_of d (Whole c) desk h in go x.entry x.at_head x.is
  where
    by : (s : Stroke) (f : Fate) → s.fate ≡ f → head (state_of d) ≡ Some (Strokes s) → (queued (Strokes (record s { fate = f })) ≡ Whole c) → IsStrokeHead d (fate_of c.cancelled) c.stroke
    by s Open e a q = cc
    by s Ended e a q =
        let p : (record { stroke = kept_of s; cancelled = false }) ≡ c = closed_same _ c q in
        record { stroke = s; at_head = ap stroke_of a; fate_is = e ∙ ap (λ (k : Closed). fate_of k.cancelled) p; kept_is = ap (λ (k : Closed). k.stroke) p }
      where
        closed_same : (a b : Closed) → Whole a ≡ Whole b → a ≡ b
        closed_same a b e = cc
    by s Cancelled e a q =
        let p : (record { stroke = kept_of s; cancelled = true }) ≡ c = closed_same _ c q in
        record { stroke = s; at_head = ap stroke_of a; fate_is = e ∙ ap (λ (k : Closed). fate_of k.cancelled) p; kept_is = ap (λ (k : Closed). k.stroke) p }
      where
        closed_same : (a b : Closed) → Whole a ≡ Whole b → a ≡ b
        closed_same a b e = cc

    go : (e : doc.Entry) → head (state_of d) ≡ Some e → queued e ≡ Whole c → IsStrokeHead d (fate_of c.cancelled) c.stroke
    go (Strokes s) a q = by s s.fate refl a q
    go (Changes change) a q = cc
    go Undoes a q = cc
    go Redoes a q = cc
    go (Purges keep) a q = cc
    go Exports a q = cc

pub waiting_head : (d : Parts) (f : Fed) → IsDesk d → slice_get d.queue.left 0 ≡ Some (Waiting f) → IsStrokeHead d Open f
waiting_head d f desk h = let x : IsHead d (Waiting f) = head_of d (Waiting f) desk h in go x.entry x.at_head x.is
  where
    fed_same : (a b : Fed) → Waiting a ≡ Waiting b → a ≡ b
    fed_same a b e = cc

    by : (s : Stroke) (t : Fate) → s.fate ≡ t → head (state_of d) ≡ Some (Strokes s) → (queued (Strokes (record s { fate = t })) ≡ Waiting f) → IsStrokeHead d Open f
    by s Open e a q = record { stroke = s; at_head = ap stroke_of a; fate_is = e; kept_is = fed_same _ _ q }
    by s Ended e a q = cc
    by s Cancelled e a q = cc

    go : (e : doc.Entry) → head (state_of d) ≡ Some e → queued e ≡ Waiting f → IsStrokeHead d Open f
    go (Strokes s) a q = by s s.fate refl a q
    go (Changes change) a q = cc
    go Undoes a q = cc
    go Redoes a q = cc
    go (Purges keep) a q = cc
    go Exports a q = cc

-- where the first entry of the queue is no stroke, no stroke is at the head
pub other_head : (d : Parts) (c : Command) (x : IsHead d (Other c)) → head_stroke (state_of d) ≡ None
other_head d c x = ap stroke_of x.at_head ∙ go x.entry x.is
  where
    by : (s : Stroke) (t : Fate) → queued (Strokes (record s { fate = t })) ≡ Other c → stroke_of (Some (Strokes s)) ≡ None
    by s Open q = cc
    by s Ended q = cc
    by s Cancelled q = cc

    go : (e : doc.Entry) → queued e ≡ Other c → stroke_of (Some e) ≡ None
    go (Strokes s) q = by s s.fate q
    go (Changes change) q = refl
    go Undoes q = refl
    go Redoes q = refl
    go (Purges keep) q = refl
    go Exports q = refl

-- what is known of the stroke at the head
head_known : (d : Parts) → IsDesk d → head_in d.queue.left ≡ option_map told (head_stroke (state_of d))
head_known d desk = ap head_in desk.queue.left_is ∙ head_told _

pub known_head : (d : Parts) (o : Option HeadStroke) → IsDesk d → o ≡ head_in d.queue.left → IfSome o (IsHeadOf (state_of d))
known_head d o desk is = go (head_stroke (state_of d)) refl o (is ∙ head_known d desk)
  where
    go : (s : Option Stroke) → head_stroke (state_of d) ≡ s → (o : Option HeadStroke) → o ≡ option_map told s → IfSome o (IsHeadOf (state_of d))
    go s a None e = tt
    go None a (Some h) e = cc
    go (Some t) a (Some h) e =
        let same : h ≡ told t = cc in
        record {
          stroke = t;
          at_head = a;
          layer = ap (λ (k : HeadStroke). k.layer) same;
          exclusive = ap (λ (k : HeadStroke). k.exclusive) same;
          closed = ap (λ (k : HeadStroke). k.closed) same;
          refused = ap (λ (k : HeadStroke). k.cancelled) same;
          overlaps = ap (λ (k : HeadStroke). k.overlaps) same;
          jobs = ap (λ (k : HeadStroke). k.jobs) same;
        }

pub no_head : (d : Parts) (o : Option HeadStroke) → IsDesk d → o ≡ head_in d.queue.left → IfNone o (head_stroke (state_of d) ≡ None)
no_head d o desk is = go (head_stroke (state_of d)) refl o (is ∙ head_known d desk)
  where
    go : (s : Option Stroke) → head_stroke (state_of d) ≡ s → (o : Option HeadStroke) → o ≡ option_map told s → IfNone o (head_stroke (state_of d) ≡ None)
    go s a (Some h) e = tt
    go None a None e = a
    go (Some t) a None e = cc

-- its kept jobs
pub queued_jobs : (d : Parts) (t : Stroke) → IsDesk d → head_stroke (state_of d) ≡ Some t → jobs_in d.queue.left ≡ kept_jobs t
queued_jobs d t desk h = ap jobs_in desk.queue.left_is ∙ jobs_told _ t h

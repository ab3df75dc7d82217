-- What a checker does at an event is the move of its outline.
use Rattle.std.proofs.Common.{◌≡◌, ℕ, suc, zero, Bool, true, false, Option, Some, None, Result, Ok, List, [], ◌∷◌, refl, sym, ap, ◌∙◌, subst}
use Rattle.std.specs.Prelude.{slice_get, slice_set}
use Rattle.geom_core.specs.declared.NoMemory.{NoMemory}
use Rattle.doc_model.specs.declared.job.Job.{Job}
use Rattle.doc_model.specs.declared.job.Kind.{Kind}
use Rattle.machine_model.specs.Replays.{first_of}
use Rattle.entry_queue.specs.declared.head.HeadStroke.{HeadStroke}
use Rattle.trace_state.specs.declared.slot.Slot.TheVariants.{Free}
use Rattle.entry_queue.specs.Heads.{head_in, jobs_in}
use Rattle.trace_core.specs.Outline.{Outline}
use Rattle.trace_core.specs.Moves as move
use Rattle.trace_core.specs.Moves.{Follows}

-- a slot that is filled with what it has
pub stays : {A : Type 0} (xs : List A) (i : ℕ) (x : A) → slice_get xs i ≡ Some x → slice_set xs i x ≡ xs
stays [] i x h = refl
stays (y ∷ xs) zero x h = let same : y ≡ x = cc in ap (λ z. z ∷ xs) (sym same)
stays (y ∷ xs) (suc i) x h = ap (λ t. y ∷ t) (stays xs i x h)

-- a job starts
pub started_is : (o : Outline) (place : ℕ) (h : HeadStroke) (n : ℕ) (j : Option (Kind × Job)) → head_in o.left ≡ Some h → o.way ≡ Some n → slice_get o.slots place ≡ Some Free → slice_get (jobs_in o.left) n ≡ j → move.started o place ≡ move.job_started o place h n j
started_is o place h n j e w f g = (λ i. move.started_by o place (e i) (w i) (f i)) ∙ ap (move.job_started o place h n) g

-- of four moves the first that may happen, where those before it may not and left all as it was
pub begun_first : (o new : Outline) → move.begun o ≡ Some new → move.stepped o ≡ Some new
begun_first o new e = ap (λ t. first_of t (first_of (move.finished o) (first_of (move.cancelled o) (move.acted o)))) e

pub not_begun : (o : Outline) → move.begun o ≡ None → move.stepped o ≡ first_of (move.finished o) (first_of (move.cancelled o) (move.acted o))
not_begun o e = ap (λ t. first_of t (first_of (move.finished o) (first_of (move.cancelled o) (move.acted o)))) e

pub not_finished : (o : Outline) → move.begun o ≡ None → move.finished o ≡ None → move.stepped o ≡ first_of (move.cancelled o) (move.acted o)
not_finished o e f = not_begun o e ∙ ap (λ t. first_of t (first_of (move.cancelled o) (move.acted o))) f

pub not_cancelled : (o : Outline) → move.begun o ≡ None → move.finished o ≡ None → move.cancelled o ≡ None → move.stepped o ≡ move.acted o
not_cancelled o e f g = not_finished o e f ∙ ap (λ t. first_of t (move.acted o)) g

-- what the answer to one of them says
pub yes_follows : (b : Bool) (next : Option Outline) (old new : Outline) → Follows (Ok b) next old new → b ≡ true → next ≡ Some new
yes_follows true next old new f e = f
yes_follows false next old new f e = cc

pub no_follows : (b : Bool) (next : Option Outline) (old new : Outline) → Follows (Ok b) next old new → b ≡ false → (next ≡ None) × (new ≡ old)
no_follows true next old new f e = cc
no_follows false next old new f e = f

-- the answer to all four, by that to the last that was tried
pub step_finishes : (old mid new : Outline) → (move.begun old ≡ None) × (mid ≡ old) → move.finished mid ≡ Some new → move.stepped old ≡ Some new
step_finishes old mid new b e = not_begun old b.0 ∙ ap (λ t. first_of t (first_of (move.cancelled old) (move.acted old))) (ap move.finished (sym b.1) ∙ e)

pub step_cancels : (old mid low new : Outline) → (move.begun old ≡ None) × (mid ≡ old) → (move.finished mid ≡ None) × (low ≡ mid) → move.cancelled low ≡ Some new → move.stepped old ≡ Some new
step_cancels old mid low new b f e =
    not_finished old b.0 (ap move.finished (sym b.1) ∙ f.0)
    ∙ ap (λ t. first_of t (move.acted old)) (ap move.cancelled (sym (f.1 ∙ b.1)) ∙ e)

pub step_acts : (old mid low deep new : Outline) (r : Result Bool NoMemory) → (move.begun old ≡ None) × (mid ≡ old) → (move.finished mid ≡ None) × (low ≡ mid) → (move.cancelled low ≡ None) × (deep ≡ low) → Follows r (move.acted deep) deep new → Follows r (move.stepped old) old new
step_acts old mid low deep new r b f k e =
    subst (λ n. Follows r n old new) (sym (not_cancelled old b.0 (ap move.finished (sym b.1) ∙ f.0) (ap move.cancelled (sym (f.1 ∙ b.1)) ∙ k.0)))
    (subst (λ o. Follows r (move.acted o) o new) (k.1 ∙ f.1 ∙ b.1) e)

-- the end of a job or else of a walk
pub end_of_job : (old new : Outline) (place : ℕ) → move.ended old place ≡ Some new → move.work_ended old place ≡ Some new
end_of_job old new place e = ap (λ t. first_of t (move.walk_ended old place)) e

pub end_of_walk : (old mid new : Outline) (place : ℕ) (r : Result Bool NoMemory) → (move.ended old place ≡ None) × (mid ≡ old) → Follows r (move.walk_ended mid place) mid new → Follows r (move.work_ended old place) old new
end_of_walk old mid new place r b e =
    subst (λ n. Follows r n old new) (sym (ap (λ t. first_of t (move.walk_ended old place)) b.0))
    (subst (λ o. Follows r (move.walk_ended o place) o new) b.1 e)

-- What a piece has that was given and wasn't taken.
use Rattle.std.proofs.Common.{◌≡◌, ℕ, List, refl, subst, inl, inr}
use Rattle.geom_core.specs.Grid.{Key}
use Rattle.machine_model.specs.State.{State}
use Rattle.walker_core.specs.Composing.{Composition, composition}
use Rattle.desk_events.specs.declared.tickets.SlotId.{SlotId}
use Rattle.desk_events.specs.declared.tickets.WalkTicket.{WalkTicket}
use Rattle.host_lines.specs.declared.answer.Answer.{Answer}
use Rattle.host_lines.specs.declared.answer.Answer.TheVariants as answer
use Rattle.host_pieces.specs.declared.job_piece.JobPiece.{JobPiece}
use Rattle.host_pieces.specs.Giving.{BreaksOff, JobKept, KeepsOthers, RowsGiven, WalkEnded, WalkGiven}
use Rattle.host_pieces.specs.Walks.{HasAllRows, WalkWork, walk_work}

-- memory ended for a job
pub kept_others : (s t : State) (old new : JobPiece) → new.slot ≡ old.slot → KeepsOthers s t old new → JobKept s t old answer.NoMemory new
kept_others s t old new slot others = record { slot = slot; same = λ other. absurd (other refl); others = λ _. others }

-- all of a walk's tiles were composed, as they were given
module _ (s mid t : State) (k : WalkTicket) (keys tiles : List Key) (load : ℕ) (slot : SlotId) (c : Composition) (w : WalkWork) (is : walk_work k keys tiles load ≡ w) (named : slot ≡ k.slot) (of : c ≡ composition k.inputs tiles) (done : HasAllRows w) where
  -- and published
  pub walk_stored : (again : List Key) (a : Answer) → again ≡ tiles → RowsGiven slot c keys s mid → WalkEnded mid (walk_work k keys again load) a t → WalkGiven s w a t
  walk_stored again a same given ended =
      subst (λ (x : WalkWork). HasAllRows x → WalkGiven s x a t) is
      (λ all. inl (all, inl (mid, subst (λ (d : Composition). RowsGiven k.slot d keys s mid) of (subst (λ (x : SlotId). RowsGiven x c keys s mid) named given), subst (λ ts. WalkEnded mid (walk_work k keys ts load) a t) same ended))) done

  -- and memory ended
  pub walk_breaks : BreaksOff s slot c keys t → WalkGiven s w answer.NoMemory t
  walk_breaks breaks =
      subst (λ (x : WalkWork). HasAllRows x → WalkGiven s x answer.NoMemory t) is
      (λ all. inl (all, inr (inr (refl, subst (λ (d : Composition). BreaksOff s k.slot d keys t) of (subst (λ (x : SlotId). BreaksOff s x c keys t) named breaks))))) done

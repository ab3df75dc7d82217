-- What is held stays what is at work.
use Rattle.std.proofs.Common.{◌≡◌, ℕ, List, [], ◌∷◌, ◌++◌, map, Option, Some, None, refl, sym, ap, ◌∙◌, subst}
use Rattle.std.specs.Prelude.{slice_get, slice_set, option_map}
use Rattle.std.specs.List.{AllByRecursion}
use Rattle.std.proofs.lemmas.Option.{slice_get-map}
use Rattle.machine_model.specs.State.{State, Slot, Free}
use Rattle.machine_model.specs.Event.{Event}
use Rattle.machine_model.specs.Step.{Step}
use Rattle.machine_model.proofs.Lists.{all_set, get_set}
use Rattle.slot_core.specs.declared.Busy.{Busy}
use Rattle.desk_state.specs.declared.work.Work.{Work}
use Rattle.desk_state.specs.Parts.{slot_of}
use Rattle.desk_state.specs.Tied.{IsKept}
use Rattle.desk_state.proofs.Keeping.{map_set}
use Rattle.desk_state.proofs.Places.{set_twice, set_same}
use Rattle.trace_out.specs.Writing.{IsTied}
use Rattle.trace_out.specs.Lent.{IsLent}
use Rattle.trace_out.proofs.Events.{reached_more}

-- an event that leaves the slots
pub tied_still : (held : List (Option (Busy Work))) (s t : State) (e : Event) → IsTied held s → Step s e t → t.slots ≡ s.slots → IsTied held t
tied_still held s t e tie h same = record { slots = tie.slots ∙ sym same; kept = tie.kept; events = tie.events ++ e ∷ []; reached = reached_more tie.events s t e tie.reached h }

-- an event that changes one slot
pub tied_set : (held : List (Option (Busy Work))) (place : ℕ) (o : Option (Busy Work)) (s t : State) (e : Event) → IsTied held s → Step s e t → t.slots ≡ slice_set s.slots place (slot_of o) → IsKept o → IsTied (slice_set held place o) t
tied_set held place o s t e tie h set kept = record {
  slots = map_set slot_of held place o ∙ ap (λ l. slice_set l place (slot_of o)) tie.slots ∙ sym set;
  kept = all_set IsKept held place o tie.kept kept;
  events = tie.events ++ e ∷ [];
  reached = reached_more tie.events s t e tie.reached h;
}

-- the work in a place is taken out
pub lent_at : (held : List (Option (Busy Work))) (place : ℕ) (b : Busy Work) (s : State) → IsTied held s → slice_get held place ≡ Some (Some b) → IsLent (slice_set held place None) place b s
lent_at held place b s tie h = record {
  tied = subst (λ l. IsTied l s) (sym (set_twice held place None (Some b) ∙ set_same held place (Some b) h)) tie;
  empty = get_set held place (Some b) None h;
}

-- and is at work there
pub lent_runs : (held : List (Option (Busy Work))) (place : ℕ) (b : Busy Work) (s : State) → IsLent held place b s → slice_get s.slots place ≡ Some (slot_of (Some b))
lent_runs held place b s lent =
    ap (λ l. slice_get l place) (sym lent.tied.slots)
    ∙ (slice_get-map slot_of (slice_set held place (Some b)) place
    ∙ ap (option_map slot_of) (get_set held place None (Some b) lent.empty))

-- it is put back, or is gone, after an event that changes its slot
pub lent_back : (held : List (Option (Busy Work))) (place : ℕ) (b : Busy Work) (o : Option (Busy Work)) (s t : State) (e : Event) → IsLent held place b s → Step s e t → t.slots ≡ slice_set s.slots place (slot_of o) → IsKept o → IsTied (slice_set held place o) t
lent_back held place b o s t e lent h set kept = subst (λ l. IsTied l t) (set_twice held place (Some b) o) (tied_set (slice_set held place (Some b)) place o s t e lent.tied h set kept)

-- the same where it is still out
pub lent_still : (held : List (Option (Busy Work))) (place : ℕ) (b c : Busy Work) (s t : State) (e : Event) → IsLent held place b s → Step s e t → t.slots ≡ slice_set s.slots place (slot_of (Some c)) → IsKept (Some c) → IsLent held place c t
lent_still held place b c s t e lent h set kept = record { tied = lent_back held place b (Some c) s t e lent h set kept; empty = lent.empty }

-- it is gone for good
pub lent_gone : (held : List (Option (Busy Work))) (place : ℕ) (b : Busy Work) (s t : State) (e : Event) → IsLent held place b s → Step s e t → t.slots ≡ slice_set s.slots place Free → IsTied held t
lent_gone held place b s t e lent h set = subst (λ l. IsTied l t) (set_same held place None lent.empty) (lent_back held place b None s t e lent h set tt)

-- Nothing is at work on a new desk.
use Rattle.std.proofs.Common.{◌≡◌, ℕ, suc, zero, ◌≤◌, List, [], ◌∷◌, map, Option, None, refl, sym, ap, ◌∙◌, subst}
use Rattle.std.specs.Prelude.{replicate}
use Rattle.std.specs.List.{AllByRecursion}
use Rattle.doc_model.specs.declared.canvas.Canvas.{Canvas}
use Rattle.doc_model.specs.Canvases.{IsOfLimits}
use Rattle.machine_model.specs.State.{State, Slot, Free, new_state}
use Rattle.slot_core.specs.declared.Busy.{Busy}
use Rattle.desk_state.specs.declared.work.Work.{Work}
use Rattle.desk_state.specs.Parts.{slot_of}
use Rattle.desk_state.specs.Tied.{IsKept}
use Rattle.trace_out.specs.Writing.{IsTied}

new_slots : (canvas : Canvas) (n : ℕ) → map slot_of (replicate n None) ≡ (new_state canvas n).slots
new_slots canvas zero = refl
new_slots canvas (suc n) = ap (λ l. Free ∷ l) (new_slots canvas n)

none_kept : (n : ℕ) → AllByRecursion IsKept (replicate n None)
none_kept zero = tt
none_kept (suc n) = (tt, none_kept n)

pub new_tied : (canvas : Canvas) (n : ℕ) (held : List (Option (Busy Work))) (s : State) → IsOfLimits canvas → 1 ≤ n → n ≤ 17 → held ≡ replicate n None → s ≡ new_state canvas n → IsTied held s
new_tied canvas n held s limits some few free new = record {
  slots = ap (map slot_of) free ∙ (new_slots canvas n ∙ ap (λ (t : State). t.slots) (sym new));
  kept = subst (AllByRecursion IsKept) (sym free) (none_kept n);
  events = [];
  reached = record { start = s; new = record { canvas = canvas; slots = n; of_limits = limits; some_slot = some; few_slots = few; is = new }; run = refl };
}

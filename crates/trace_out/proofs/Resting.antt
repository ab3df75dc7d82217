-- Where nothing may be done any more, nothing is left to do.
use Rattle.std.proofs.Common.{◌≡◌, Bool, true, false, refl}
use Rattle.std.specs.List.{list_all}
use Rattle.doc_model.specs.Feeding.{is_closed_entry}
use Rattle.doc_model.specs.Strokes.{entries}
use Rattle.machine_model.specs.State.{State}
use Rattle.machine_model.specs.Settled.{IsSettled}
use Rattle.machine_model.specs.Sound.{IsOrderly}
use Rattle.desk_state.proofs.SettlingRuns.{never_idle}
use Rattle.machine_model.specs.Replays.{is_settled}
use Rattle.machine_model.proofs.Turns.{settled_tells}
use Rattle.trace_out.specs.Goes.{MayRest}

pub rests_settled : (s : State) → IsOrderly s → list_all is_closed_entry (entries s.fed) ≡ true → MayRest s → IsSettled s
rests_settled s orderly closed rest = go (is_settled s) (settled_tells.settled s) (settled_tells.told s)
  where
    go : (b : Bool) → (b ≡ true → IsSettled s) → (IsSettled s → b ≡ true) → IsSettled s
    go true settles told = settles refl
    go false settles told = absurd (never_idle s orderly rest.free closed (rest.waits (λ settled. let e : false ≡ true = told settled in cc)))

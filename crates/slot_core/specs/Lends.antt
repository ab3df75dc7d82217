-- What slots end as once the work that was lent is given back.
use Rattle.std.specs.Prelude.{ℕ, List, Option, Some, slice_set}
use Rattle.std.specs.Borrow.{LendsIf, Fml, RattleType, MutBor}
use Rattle.slot_core.specs.declared.Busy.{Busy}
use Rattle.slot_core.specs.contracts.Busy.{the_row as busy_row}
use Rattle.slot_core.specs.contracts.Slots.{the_row}

-- the place has what was left there; where nothing was lent all stays
module _ (W : RattleType) (s : MutBor (List (Option (Busy W.Denot)))) (place : ℕ) where
  abbrev pub LendsBusy : Option (MutBor (Busy W.Denot)) → Fml
  LendsBusy r = LendsIf (the_row W) (busy_row W) s r (λ b. slice_set s.now place (Some b)) s.now

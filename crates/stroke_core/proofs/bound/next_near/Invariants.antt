use Rattle.std.proofs.Common.{◌≡◌, ℕ, ◌≤◌, ◌<◌, false, Some}
use Rattle.std.specs.Prelude.{slice_get}
use Rattle.stroke_core.specs.declared.bound.Bound.{Bound}
use Rattle.stroke_core.specs.Bounds.{near}
use Rattle.stroke_core.proofs.bound.next_near.Given as goal

-- no bound so far is near
abbrev pub invariant-loop-i : goal.invariant-loop-i
invariant-loop-i l = (k : ℕ) (b : Bound) → l.from ≤ k → k < l.i → slice_get l.bounds k ≡ Some b → near b l.bound ≡ false

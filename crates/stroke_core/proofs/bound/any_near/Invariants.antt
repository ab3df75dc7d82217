use Rattle.std.proofs.Common.{◌≡◌, ℕ, ◌≤◌, ◌<◌, false}
use Rattle.stroke_core.specs.Bounds.{near, bound_at}
use Rattle.stroke_core.proofs.bound.any_near.Given as goal

-- no bound so far is near where none was found
abbrev pub invariant-loop-i : goal.invariant-loop-i
invariant-loop-i l = l.found ≡ false → (k : ℕ) → l.from ≤ k → k < l.i → near (bound_at l.lefts l.rights l.tops l.bottoms k) l.bound ≡ false

use Rattle.std.proofs.Common.{◌≡◌, ℕ, ◌<◌, ◌≤◌}
use Rattle.picture_reading.proofs.changed.same_on.Given as goal

-- the rows of the tile so far are the same
abbrev pub invariant-loop-y : goal.invariant-loop-y
invariant-loop-y g l = (x y : ℕ) → l.tile.left ≤ x → x < l.tile.right → l.tile.top ≤ y → y < l.y → (g.P.Picture.shown l.picture).pixel x y ≡ (g.Q.Picture.shown l.before).pixel x y

use Rattle.std.proofs.Common.{◌≡◌, ◌↔◌, IsTrue, take, length, replicate}
use Rattle.pixel_rows.proofs.plain.all_are.Given as goal

-- whether the pixels so far are that one
abbrev pub invariant-loop-i : goal.invariant-loop-i
invariant-loop-i l = IsTrue l.all ↔ (take l.i l.pixels ≡ take l.i (replicate (length l.pixels) l.p))

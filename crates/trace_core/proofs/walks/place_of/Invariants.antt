use Rattle.std.proofs.Common.{◌≡◌, ◌+◌, drop}
use Rattle.machine_model.specs.Next.{place_of}
use Rattle.trace_core.proofs.walks.place_of.Given as goal

-- it is not among the patches so far
abbrev pub invariant-loop-i : goal.invariant-loop-i
invariant-loop-i l = place_of l.patch l.updates.patches ≡ l.i + place_of l.patch (drop l.i l.updates.patches)

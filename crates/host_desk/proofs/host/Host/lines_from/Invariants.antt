use Rattle.std.proofs.Common.{◌≡◌, ◌≤◌, length}
use Rattle.host_desk.specs.Texts.{text_between}
use Rattle.host_desk.proofs.host.Host.lines_from.Given as goal

-- the lines so far were added, and there was room for them
abbrev pub invariant-loop-i : goal.invariant-loop-i
invariant-loop-i l = (l.text.items ≡ text_between l.self l.from l.i) × (length l.text.items ≤ l.room) × (l.from ≤ l.i)

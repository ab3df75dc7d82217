use Rattle.std.proofs.Common.{◌≡◌, ℕ, Some, take, drop}
use Rattle.machine_model.specs.Step.{Run}
use Rattle.desk_events.specs.Commits.{MayCommit}
use Rattle.desk_events.specs.Sparing.{ArePrior}
use Rattle.desk_core.specs.Commits.{commit_events}
use Rattle.desk_core.proofs.desk.Desk.exchange_all.Given as goal

-- the tiles so far are published, the others are just those that the job lacks, and what is known of them stays
abbrev pub invariant-loop-whole : goal.invariant-loop-whole
invariant-loop-whole l = Run l.initial.self (take l.whole-index (commit_events l.slot.place l.tiles)) l.self × MayCommit l.self l.slot.place l.slot.serial (drop l.whole-index l.tiles) × ((n : ℕ) → l.since ≡ Some n → ArePrior l.self l.slot.place l.slot.serial n l.tiles)

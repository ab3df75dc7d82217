use Rattle.std.proofs.Common.{◌≡◌, take}
use Rattle.turn_lock.specs.Passes.{own}
use Rattle.artists.specs.SignedShares.{share}
use Rattle.artists.proofs.sending.send_all.Given as goal

-- its commands among the first ones were sent
abbrev pub invariant-loop-command : goal.invariant-loop-command
invariant-loop-command g l = record {
  studio : l.pass.lock ≡ l.initial.pass.lock;
  numbers : l.pass.numbers ≡ l.initial.pass.numbers;
  made : l.pass.made ≡ share l.artists (own l.initial.pass) (take l.command-index l.commands);
}

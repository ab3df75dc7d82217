use Rattle.std.proofs.Common.{◌≡◌, ◌≤◌, ◌++◌}
use Rattle.demo_gen.specs.Demo.{dabs, after_dabs}
use Rattle.demo_gen.proofs.stroke.add_dabs.Given as goal

abbrev pub invariant-loop-place : goal.invariant-loop-place
invariant-loop-place l = record {
  few : l.place ≤ 24;
  state : l.state ≡ after_dabs l.place l.fn.state;
  commands : l.commands.items ≡ l.fn.commands.items ++ dabs l.fn.no l.place l.fn.state;
}

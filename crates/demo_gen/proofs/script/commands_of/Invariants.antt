use Rattle.std.proofs.Common.{◌≡◌, ◌≤◌, ◌++◌}
use Rattle.demo_gen.specs.Demo.{tree, blocks, after_blocks}
use Rattle.demo_gen.proofs.script.commands_of.Given as goal

abbrev pub invariant-loop-k : goal.invariant-loop-k
invariant-loop-k l = record {
  few : l.k ≤ 40;
  state : l.state ≡ after_blocks l.k l.fn.number;
  commands : l.commands.items ≡ tree ++ blocks l.k l.fn.number;
}

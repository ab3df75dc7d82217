use Rattle.std.proofs.Common.{rules, arith, ◌≡◌, ◌∙◌}
use Rattle.demo_gen.specs.Demo.{tree}
use Rattle.demo_gen.proofs.Blocks.{no_blocks, from_blocks, next_block, block_added}
use Rattle.demo_gen.proofs.script.commands_of.Goals as goal

pub loop-k-init : goal.loop-k-init
loop-k-init c =
    let s : c.from-state.result ≡ c.args.number = search rules in
    let t : c.in_ok-commands.commands.items ≡ tree = search rules in
    record {
      few = omega arith;
      state = s ∙ from_blocks c.args.number;
      commands = t ∙ no_blocks c.args.number tree;
    }

pub loop-k-preserved : goal.loop-k-preserved
loop-k-preserved c = record {
  few = search rules;
  state = next_block c.loop-k.k c.args.number c.loop-k.state c.add_block.new.state c.loop-k.invariant.state (search rules);
  commands = block_added c.loop-k.k c.args.number c.loop-k.state tree c.loop-k.commands.items c.add_block.new.commands.items c.loop-k.invariant.state c.loop-k.invariant.commands (search rules);
}

use Rattle.std.proofs.Common.{rules, arith}
use Rattle.demo_gen.proofs.Blocks.{no_dabs, from_dabs, next_dab, dab_added}
use Rattle.demo_gen.proofs.stroke.add_dabs.Goals as goal

pub loop-place-init : goal.loop-place-init
loop-place-init c = record {
  few = omega arith;
  state = from_dabs c.args.state.now;
  commands = no_dabs c.args.no c.args.state.now c.args.commands.now.items;
}

pub loop-place-preserved : goal.loop-place-preserved
loop-place-preserved c = record {
  few = search rules;
  state = next_dab c.loop-place.place c.args.state.now c.loop-place.state c.dab-command.new.state c.loop-place.invariant.state c.dab-command.ensures.state;
  commands = dab_added c.args.no c.loop-place.place c.args.state.now c.loop-place.state c.args.commands.now.items c.loop-place.commands.items c.add_last.new.items.items c.loop-place.invariant.state c.loop-place.invariant.commands (search rules);
}

use Rattle.desk_core.proofs.desk.Desk.following.Goals as goal

pub of_new-requires : goal.of_new-requires
of_new-requires c = record {
  canvas = c.args.canvas;
  slots = c.args.slots;
  of_limits = c.requires.canvas;
  some_slot = c.requires.some;
  few_slots = c.requires.few;
  is = c.in_ok-machine.ensures;
}

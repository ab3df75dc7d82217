-- The parts of a checker, together.
use Rattle.trace_core.specs.declared.machine.OutlinedMachine.{OutlinedMachine}
use Rattle.trace_core.specs.Outline.{Outline}

-- what it keeps of a state: one tree stands for the base and for the present, which differ in pixels alone
abbrev pub parts : OutlinedMachine → Outline
parts m = record {
  area = m.area;
  fed = m.intake.fed;
  left = m.intake.left;
  past = m.history.past;
  future = m.history.future;
  base = m.history.tree;
  present = m.history.tree;
  way = m.way;
  updates = m.updates;
  slots = m.slots.items;
}

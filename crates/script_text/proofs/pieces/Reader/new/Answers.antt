use Rattle.std.proofs.Common.{refl}
use Rattle.script_text.specs.Pieces.{fault_in}
use Rattle.script_text.proofs.pieces.Reader.new.Goals as goal

pub returns : goal.returns
unfolding fault_in
returns c = record {
  number = refl;
  reading = record { canvas = c.in_ok-reading.ensures.canvas; draft = c.in_ok-reading.ensures.draft; starts = c.in_ok-reading.ensures.starts; cells = c.in_ok-reading.ensures.cells };
  good = λ more. refl;
}

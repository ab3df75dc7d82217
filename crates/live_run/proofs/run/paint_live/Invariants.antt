use Rattle.live_view.specs.Views.{published}
use Rattle.live_run.proofs.run.paint_live.Given as goal

-- the reference by which the writer is lent, what it had published, and the script's canvas
abbrev pub ghosts-paint_lent : goal.ghosts-paint_lent
ghosts-paint_lent g a = record { reference = a.lent.writer.ghost_name; before = published a.lent.writer.now; canvas = a.script.now.canvas }

use Rattle.std.proofs.Common.{Some, sym, ap, ◌∙◌, arith}
use Rattle.frame_core.proofs.LaidPlies.{ply_fits, one_more, all_made}
use Rattle.frame_core.proofs.ply.made_row.Goals as goal

pub lay-requires-clause-fits : goal.lay-requires-clause-fits
lay-requires-clause-fits c = ply_fits c.args.plies.now c.args.row c.loop-ply.ply-index c.ply-item.result c.loop-ply.open c.requires.stack c.loop-ply.invariant (omega arith) c.ply-item.is

pub loop-ply-init : goal.loop-ply-init
loop-ply-init c = record { many = ap (λ n. Some n) (sym c.new-open.ensures.one); laid = c.new-open.ensures.alone }

pub loop-ply-preserved : goal.loop-ply-preserved
loop-ply-preserved c = one_more c.args.plies.now c.args.row c.loop-ply.ply-index c.ply-item.result c.loop-ply.open c.lay.new.rows c.loop-ply.invariant (omega arith) c.ply-item.is c.lay.ensures.laid c.lay.ensures.many

pub returns : goal.returns
returns c k h = c.innermost.ensures k h ∙ all_made c.args.plies.now c.args.row c.loop-ply.ply-index k c.loop-ply.open c.loop-ply.invariant (omega arith) h

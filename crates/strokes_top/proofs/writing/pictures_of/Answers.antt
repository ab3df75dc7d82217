use Rattle.std.proofs.Common.{◌∙◌, sym, arith}
use Rattle.strokes_top.proofs.Outputs.{one_alone}
use Rattle.strokes_top.proofs.writing.pictures_of.Goals as goal

pub returns-in-len1 : goal.returns-in-len1
returns-in-len1 c = sym c.frames.ensures ∙ one_alone c.frames.result.now c.frame-item.result (omega (arith, c.in-len1.len_at_least, c.in-len1.len_below)) c.frame-item.is

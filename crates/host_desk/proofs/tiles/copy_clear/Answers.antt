use Rattle.std.proofs.Common.{◌∙◌, sym, ap, replicate}
use Rattle.host_desk.proofs.CopiedPixels.{clear_bytes}
use Rattle.host_desk.proofs.tiles.copy_clear.Goals as goal

pub returns : goal.returns
returns c = c.fill.ensures.after (λ y h. h) ∙ ap (λ k. replicate k 0) c.requires.room ∙ sym (clear_bytes 4096)

use Rattle.std.proofs.Common.{refl}
use Rattle.io_edge.proofs.Written.{prefix_is}
use Rattle.ppm_out.proofs.picture.write_header.Goals as goal

pub returns-clause-err : goal.returns-clause-err
returns-clause-err g c = prefix_is c.write_pieces.result _ _ _ _ c.write_pieces.ensures.err (rw (c.as_bytes-w.ensures.value, c.as_bytes-h.ensures.value, c.format.ensures.text, c.format-2.ensures.text) refl)

use Rattle.std.proofs.Common.{refl}
use Rattle.io_edge.proofs.Written.{prefix_is}
use Rattle.log_out.proofs.summary.write_frame_line.Goals as goal

pub returns-clause-err : goal.returns-clause-err
returns-clause-err g c = prefix_is c.write_pieces.result _ _ _ _ c.write_pieces.ensures.err
    (rw (
      c.as_bytes.ensures.value,
      c.as_bytes-2.ensures.value,
      c.as_bytes-3.ensures.value,
      c.as_bytes-4.ensures.value,
      c.format.ensures.text,
      c.format-2.ensures.text,
      c.format-3.ensures.text,
      c.format-4.ensures.text,
      c.width.ensures.value,
      c.height.ensures.value,
      c.colour_sum.ensures,
    ) refl)

use Rattle.std.proofs.Common.{refl, append_assoc, append-nil}
use Rattle.io_edge.proofs.Written.{prefix_is}
use Rattle.log_out.proofs.log.write_line.Goals as goal

pub returns-clause-err : goal.returns-clause-err
returns-clause-err g c = prefix_is c.write_pieces.result _ _ _ _ c.write_pieces.ensures.err
    (rw (c.as_bytes.ensures.value, c.format.ensures.text, c.digits.ensures, c.digits-2.ensures, c.digits-3.ensures, c.digits-4.ensures, c.blank.ensures, c.blank-2.ensures)
    (simp (append_assoc, append-nil) refl))

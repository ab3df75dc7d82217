use Rattle.std.specs.Prelude.{◌↔◌, IsTrue}
use Rattle.tile_core.specs.Same.{RowIs}
use Rattle.tile_core.proofs.rows.is_plain_row.Given as goal

-- whether the pixels so far are those
abbrev pub invariant-loop-i : goal.invariant-loop-i
invariant-loop-i l = IsTrue l.all ↔ RowIs l.tile (λ _. l.p) l.from l.i

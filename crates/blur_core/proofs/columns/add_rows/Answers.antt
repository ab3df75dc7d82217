use Rattle.std.proofs.Common.{length, arith}
use Rattle.blur_core.proofs.ColumnSums.{columns_small, row_added, bytes_more, same_bytes}
use Rattle.blur_core.proofs.columns.add_rows.Goals as goal

pub add_row-requires-clause-room : goal.add_row-requires-clause-room
add_row-requires-clause-room c = columns_small c.args.pixels.now (length c.args.columns.now) 0 c.loop-row._row c.loop-row.columns (same_bytes c.args.pixels.now _ c.loop-row._row _ (omega arith) c.loop-row.invariant.bytes) c.loop-row.invariant.sums c.loop-row.invariant.long (omega arith)

pub loop-row-preserved : goal.loop-row-preserved
loop-row-preserved c = record {
  long = omega arith;
  next = omega arith;
  sums = row_added c.args.pixels.now _ 0 c.loop-row._row _ _ c.loop-row.columns c.add_row.new.columns c.loop-row.invariant.long (omega arith) (omega arith) c.loop-row.invariant.sums c.add_row.ensures.sums;
  bytes = bytes_more c.args.pixels.now _ c.loop-row._row c.loop-row.from _ c.loop-row.columns c.loop-row.invariant.bytes c.loop-row.invariant.next (omega arith) c.loop-row.invariant.long c.add_row.ensures.bytes;
}

use Rattle.std.proofs.Common.{arith, ◌+◌}
use Rattle.blur_core.specs.Rows.{HasColumns, AreBytes}
use Rattle.blur_core.proofs.ColumnSums.{columns_small, columns_up_to, all_up_to, row_added, bytes_more, same_bytes, row_taken, row_is_part, means_more, length_means}
use Rattle.blur_core.proofs.columns.moved_down.Goals as goal

pub add_row-requires-clause-room : goal.add_row-requires-clause-room
add_row-requires-clause-room c = columns_small c.args.pixels.now _ c.loop-row._row c.args.more c.loop-row.columns c.loop-row.invariant.bytes c.loop-row.invariant.sums c.loop-row.invariant.long (omega arith)

pub push_means-requires-clause-each : goal.push_means-requires-clause-each
push_means-requires-clause-each c =
    let has : HasColumns c.args.pixels.now (c.args.w + c.args.more) c.loop-row._row (c.args.more + 1) c.add_row.new.columns = row_added c.args.pixels.now _ c.loop-row._row c.args.more c.loop-row.next _ c.loop-row.columns c.add_row.new.columns c.loop-row.invariant.long c.loop-row.invariant.next (omega arith) c.loop-row.invariant.sums c.add_row.ensures.sums in
    let bytes : AreBytes c.args.pixels.now (c.args.w + c.args.more) (c.loop-row._row + (c.args.more + 1)) = same_bytes c.args.pixels.now _ (c.loop-row._row + c.args.more + 1) _ (omega arith) (bytes_more c.args.pixels.now _ (c.loop-row._row + c.args.more) c.loop-row.next _ c.loop-row.columns c.loop-row.invariant.bytes c.loop-row.invariant.next (omega arith) c.loop-row.invariant.long c.add_row.ensures.bytes) in
    all_up_to c.add_row.new.columns (c.args.more + 1) (λ k h. columns_up_to c.args.pixels.now _ c.loop-row._row (c.args.more + 1) c.add_row.new.columns bytes has k (omega arith))

pub take_row-requires-clause-each : goal.take_row-requires-clause-each
take_row-requires-clause-each c =
    let has : HasColumns c.args.pixels.now (c.args.w + c.args.more) c.loop-row._row (c.args.more + 1) c.add_row.new.columns = row_added c.args.pixels.now _ c.loop-row._row c.args.more c.loop-row.next _ c.loop-row.columns c.add_row.new.columns c.loop-row.invariant.long c.loop-row.invariant.next (omega arith) c.loop-row.invariant.sums c.add_row.ensures.sums in
    row_is_part c.args.pixels.now (c.args.w + c.args.more) c.loop-row._row c.args.more c.loop-row.first _ c.add_row.new.columns (omega arith) c.loop-row.invariant.last (omega arith) has

pub loop-row-preserved : goal.loop-row-preserved
loop-row-preserved c =
    let has : HasColumns c.args.pixels.now (c.args.w + c.args.more) c.loop-row._row (c.args.more + 1) c.add_row.new.columns = row_added c.args.pixels.now _ c.loop-row._row c.args.more c.loop-row.next _ c.loop-row.columns c.add_row.new.columns c.loop-row.invariant.long c.loop-row.invariant.next (omega arith) c.loop-row.invariant.sums c.add_row.ensures.sums in
    record {
      long = omega arith;
      next = omega arith;
      last = omega arith;
      bytes = same_bytes c.args.pixels.now _ (c.loop-row._row + c.args.more + 1) _ (omega arith) (bytes_more c.args.pixels.now _ (c.loop-row._row + c.args.more) c.loop-row.next _ c.loop-row.columns c.loop-row.invariant.bytes c.loop-row.invariant.next (omega arith) c.loop-row.invariant.long c.add_row.ensures.bytes);
      sums = row_taken c.args.pixels.now (c.args.w + c.args.more) c.loop-row._row c.args.more c.loop-row.first _ c.add_row.new.columns c.take_row.new.columns (omega arith) c.loop-row.invariant.last (omega arith) has c.take_row.ensures;
      all = length_means c.add_row.new.columns (c.args.more + 1) c.args.w _ c.loop-row._row c.loop-row.means.items c.push_means.new.means.items (omega arith) c.loop-row.invariant.all c.in_ok-push_means.ensures;
      means = means_more c.args.pixels.now (c.args.w + c.args.more) c.loop-row._row (c.args.more + 1) c.args.w _ c.add_row.new.columns c.loop-row.means.items c.push_means.new.means.items has (omega arith) (omega arith) c.loop-row.invariant.all c.loop-row.invariant.means c.in_ok-push_means.ensures;
    }

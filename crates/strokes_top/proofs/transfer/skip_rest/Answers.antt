use Rattle.std.proofs.Common.{rules, ◌≡◌, take, Err, length-take-le}
use Rattle.strokes_top.proofs.Transfers.{more_counted, reads_in_all}
use Rattle.strokes_top.proofs.transfer.skip_rest.Goals as goal

pub returns-in_err-n-clause-reads : goal.returns-in_err-n-clause-reads
returns-in_err-n-clause-reads g c =
    let told : c.from_residual.result ≡ Err c.in_err-n.field-0.0 = search rules in
    rw told (reads_in_all c.args.count _ _ c.loop-n.count c.loop-n.invariant.counted _ 1048576 _ _ _ _ c.loop-n.invariant.few c.loop-n.invariant.later c.in_err-n.ensures.reads)

pub loop-n-preserved : goal.loop-n-preserved
loop-n-preserved g c = record {
  later = search rules;
  few = c.in_ok-n.ensures.short;
  counted = more_counted c.args.count _ _ c.loop-n.count c.loop-n.invariant.counted _ (take c.in_ok-n.n c.next_piece.new.chunk) c.in_ok-n.n c.in_ok-n.ensures.bytes (length-take-le c.in_ok-n.n c.next_piece.new.chunk c.in_ok-n.ensures.bound);
}

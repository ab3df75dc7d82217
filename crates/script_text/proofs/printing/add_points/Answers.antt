use Rattle.std.proofs.Common.{◌≡◌, pos, get_or, arith, to_z, of_z, w32}
use borrow.Author.Differences.{ints}
use Rattle.script_text.proofs.PrintedPoints.{point_printed}
use Rattle.script_text.proofs.printing.add_points.Goals as goal

pub loop-i-preserved : goal.loop-i-preserved
loop-i-preserved c =
    let x : to_z w32 (of_z w32 c.from.result) ≡ (get_or c.args.points.now c.loop-i.i (pos 0, pos 0)).0 = omega (arith, ints) in
    let y : to_z w32 (of_z w32 c.from-in-loop-i.result) ≡ (get_or c.args.points.now c.loop-i.i (pos 0, pos 0)).1 = omega (arith, ints) in
    point_printed c.args.points.now c.loop-i.i _ _ c.args.out.now.items c.loop-i.out.items c.add_signed.new.out.items c.add_signed-in-loop-i.new.out.items c.loop-i-test.true x y c.loop-i.invariant c.in_ok-add_signed.ensures c.in_ok-add_signed-2.ensures

use Rattle.std.proofs.Common.{arith, subst, ◌∙◌, sym, ◌+◌, take}
use Rattle.geom_core.specs.Grid.{keys_of}
use Rattle.geom_core.proofs.Bounds.{lies_held}
use Rattle.desk_core.proofs.Forgetting.{LeftOn, left_none, left_out, left_kept, left_whole}
use Rattle.desk_core.proofs.spread.damage_beyond.Goals as goal
use Rattle.desk_core.proofs.spread.damage_beyond.Goals.{in-Some+then-not-lies_in, in-Some+else-not-lies_in, in_default}

pub loop-i-preserved : goal.loop-i-preserved
loop-i-preserved c = elim c.match-part.branch [
  | in-Some+then-not-lies_in w ↦ subst (LeftOn (take (c.loop-i.i + 1) (keys_of c.args.canvas.now)) c.args.rect.now c.args.damage.now) (sym w.left-is)
      (left_kept (keys_of c.args.canvas.now) c.loop-i.i c.tile_at.result w.in-Some.part c.args.rect.now c.args.damage.now c.loop-i.left w.add.new.self c.tile_at.ensures.value w.in-Some.ensures.value w.add.ensures c.loop-i.invariant)
  | in-Some+else-not-lies_in w ↦ subst (LeftOn (take (c.loop-i.i + 1) (keys_of c.args.canvas.now)) c.args.rect.now c.args.damage.now) (sym w.left-is)
      (left_out (keys_of c.args.canvas.now) c.loop-i.i c.tile_at.result w.in-Some.part c.args.rect.now c.args.damage.now c.loop-i.left c.tile_at.ensures.value w.in-Some.ensures.value (lies_held w.in-Some.part c.args.rect.now (sym w.lies_in.ensures ∙ w.if-not-lies_in.false)) c.loop-i.invariant)
  | in_default w ↦ subst (LeftOn (take (c.loop-i.i + 1) (keys_of c.args.canvas.now)) c.args.rect.now c.args.damage.now) (sym w.left-is)
      (left_none (keys_of c.args.canvas.now) c.loop-i.i c.tile_at.result c.args.rect.now c.args.damage.now c.loop-i.left c.tile_at.ensures.value w.in_default.ensures.value c.loop-i.invariant)
]

pub returns : goal.returns
returns c = left_whole c.args.canvas.now c.args.rect.now c.loop-i.i c.args.damage.now c.loop-i.left (omega (arith, c.tile_count-i-end.ensures.value)) c.loop-i.invariant

use Rattle.std.proofs.Common.{◌≡◌, ℕ, ◌+◌, ◌*◌, ◌≤◌, refl, sym, subst, arith}
use Rattle.picture_reading.specs.Changes.{IsRoundOf}
use Rattle.picture_reading.proofs.Rounds.{same_tile, other_tile, row_end}
use Rattle.picture_reading.proofs.changed.round_row.Goals as goal
use Rattle.picture_reading.proofs.changed.round_row.Goals.{then-not-same_on, else-not-same_on}

pub loop-col-preserved : goal.loop-col-preserved
loop-col-preserved g c =
    let s = g.P.Picture.shown c.args.picture.now in
    let t = g.Q.Picture.shown c.args.before.now in
    elim c.if-not-same_on.branch [
      | then-not-same_on w ↦
          subst (IsRoundOf s t (c.loop-col.col + 1) c.args.row) (sym w.round-is)
          (other_tile s t c.loop-col.col c.args.row c.loop-col.round c.tile_of-tile.result w.joined.result c.tile_of-tile.ensures (w.if-not-same_on.ensures.other refl) w.joined.ensures c.loop-col.invariant)
      | else-not-same_on w ↦
          subst (IsRoundOf s t (c.loop-col.col + 1) c.args.row) (sym w.round-is)
          (same_tile s t c.loop-col.col c.args.row c.loop-col.round (w.if-not-same_on.ensures.same refl) c.loop-col.invariant)
    ]

pub returns : goal.returns
returns g c = row_end (g.P.Picture.shown c.args.picture.now) (g.Q.Picture.shown c.args.before.now) c.loop-col.col c.args.row c.loop-col.round (omega arith) c.loop-col.invariant

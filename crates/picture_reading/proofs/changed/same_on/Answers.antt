use Rattle.std.proofs.Common.{◌≡◌, ℕ, ◌+◌, ◌-◌, ◌*◌, ◌≤◌, ◌<◌, inl, inr, refl, subst, sym, arith}
use Rattle.std.proofs.lemmas.Bool.{cases_lt}
use Rattle.picture_reading.proofs.changed.same_on.Goals as goal

pub loop-y-preserved : goal.loop-y-preserved
loop-y-preserved g c x y l r t h =
    elim (cases_lt y c.loop-y.y) [
      | inl b ↦ c.loop-y.invariant x y l r t b
      | inr a ↦
          let across : c.args.tile.left + (x - c.args.tile.left) ≡ x = omega (arith, l) in
          let down : c.loop-y.y ≡ y = omega (arith, a, h) in
          subst (λ v. (g.P.Picture.shown c.args.picture.now).pixel x v ≡ (g.Q.Picture.shown c.args.before.now).pixel x v) down
          (subst (λ v. (g.P.Picture.shown c.args.picture.now).pixel v c.loop-y.y ≡ (g.Q.Picture.shown c.args.before.now).pixel v c.loop-y.y) across
          (c.if-not-same_run.ensures.same refl (x - c.args.tile.left) (omega (arith, l, r, c.from.ensures))))
    ]

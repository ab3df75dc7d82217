use Rattle.std.proofs.Common.{◌≤◌, ◌++◌, ℤ, pos, length, arith, drop, replicate, subst, sym, List}
use Rattle.doc_model.specs.Tracks.{IsTrack}
use Rattle.doc_model.proofs.Tracks.{is_track}
use Rattle.doc_model.proofs.track.Track.new.Goals as goal

pub invariant_of-result : goal.invariant_of-result
invariant_of-result c =
    let narrow : c.args.gap ≤ 255 = omega arith in
    subst (λ (qs : List (ℤ × ℤ)). IsTrack (record { points = qs ++ drop (length c.args.points.now) (replicate 8 (pos 0, pos 0)); len = length c.args.points.now; gap = c.args.gap; stamp = c.args.stamp }))
    (sym c.copy_from_slice.ensures.after)
    (is_track c.args.points.now c.args.gap c.args.stamp c.requires.several c.requires.few c.requires.gap narrow c.requires.radius)

use Rattle.std.proofs.Common.{arith, ◌≡◌, ◌∙◌, ap, ◌*◌, ◌+◌, ◌-◌, ◌/◌, ◌++◌, take, drop, min}
use Rattle.frame_core.specs.Frames.{Scene}
use Rattle.frame_core.proofs.FrameRows.{part_shown}
use Rattle.host_desk.specs.Views.{part_colours}
use Rattle.host_desk.proofs.shot.Shot.copy_part.Goals as goal

pub returns : goal.returns
returns c =
    let s : Scene = c.self.inside.frame in
    let x : c.from-from.result ≡ c.args.x = c.from-from.ensures in
    let w : c.from-count.result ≡ c.args.w = c.from-count.ensures in
    let wide : s.width ≡ c.args.self.now.width = ap (λ (s : Scene). s.width) c.self.view_is in
    let shown : take (3 * c.args.w) (drop (3 * c.args.x) c.columns_into.new.row) ≡ part_colours s c.args.x c.args.y c.args.w
    = part_shown s c.args.y c.args.x c.args.w (64 * (c.args.x / 64)) (min (64 * c.div_ceil.result) s.width - 64 * (c.args.x / 64)) _ c.columns_into.new.row c.columns_into.ensures (omega arith) (omega (arith, wide, c.requires.columns, c.div_ceil.ensures)) (omega (arith, wide, c.requires.columns, c.div_ceil.ensures)) (omega (arith, wide, c.requires.columns, c.width-sides.ensures.known.columns)) in
    let count : (3 * c.from-from.result + 3 * c.from-count.result) - 3 * c.from-from.result ≡ 3 * c.args.w = omega (arith, w) in
    let first : c.copy_from_slice.new.self ≡ take (3 * c.args.w) (drop (3 * c.args.x) c.columns_into.new.row) = c.copy_from_slice.ensures.after ∙ ap (λ n. take n (drop (3 * c.from-from.result) c.columns_into.new.row)) count ∙ ap (λ n. take (3 * c.args.w) (drop (3 * n) c.columns_into.new.row)) x in
    let same : part_colours s c.args.x c.args.y c.args.w ≡ part_colours c.args.self.now c.args.x c.args.y c.args.w = ap (λ (f : Scene). part_colours f c.args.x c.args.y c.args.w) c.self.view_is in
    ap (λ v. v ++ drop (3 * c.from-count.result) c.args.out.now) (first ∙ shown ∙ same) ∙ ap (λ n. part_colours c.args.self.now c.args.x c.args.y c.args.w ++ drop (3 * n) c.args.out.now) w

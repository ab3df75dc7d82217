use Rattle.std.proofs.Common.{◌≡◌, ◌∙◌, sym, ap, arith, ◌*◌, ◌/◌, ◌-◌, min, Some, None}
use Rattle.std.specs.Prelude.{pos}
use Rattle.std.specs.FinMap as finite
use Rattle.geom_core.specs.Grid.{Key, key}
use Rattle.frame_core.specs.Frames.{Scene}
use Rattle.frame_core.proofs.FrameRows.{key_at, lays_tile, lays_none}
use Rattle.frame_core.proofs.frame.Frame.tile_row_into.Goals as goal

pub returns-in-Some : goal.returns-in-Some
returns-in-Some c =
    let width : c.self.inside.width ≡ c.args.self.now.width = ap (λ (s : Scene). s.width) c.self.view_is in
    let paper : c.self.inside.paper ≡ c.args.self.now.paper = ap (λ (s : Scene). s.paper) c.self.view_is in
    let e : finite.get c.args.self.now.tiles (key (pos c.args.col) (pos (c.args.y / 64))) ≡ Some c.in-Some.cell.now.pixels = ap (λ (k : Key). finite.get c.args.self.now.tiles k) (sym (key_at c.args.col c.args.y)) ∙ sym c.in-Some.ensures.value in
    let n : c.min-n.result ≡ min 64 (c.args.self.now.width - 64 * c.args.col) = omega (arith, width, c.min-n.ensures) in
    lays_tile c.args.self.now c.self.inside.paper c.in-Some.cell.now.pixels c.args.col c.args.y c.min-n.result (min 64 (c.args.self.now.width - 64 * c.args.col)) (3 * (64 * c.args.col))
    c.args.row.now c.lay_row.new.bytes paper e c.lay_row.ensures.all n (omega (arith, c.min-n.ensures)) (omega arith) c.lay_row.ensures.laid

pub returns-in-None : goal.returns-in-None
returns-in-None c =
    let width : c.self.inside.width ≡ c.args.self.now.width = ap (λ (s : Scene). s.width) c.self.view_is in
    let paper : c.self.inside.paper ≡ c.args.self.now.paper = ap (λ (s : Scene). s.paper) c.self.view_is in
    let e : finite.get c.args.self.now.tiles (key (pos c.args.col) (pos (c.args.y / 64))) ≡ None = ap (λ (k : Key). finite.get c.args.self.now.tiles k) (sym (key_at c.args.col c.args.y)) ∙ sym c.in-None.ensures.value in
    let n : c.min-n.result ≡ min 64 (c.args.self.now.width - 64 * c.args.col) = omega (arith, width, c.min-n.ensures) in
    lays_none c.args.self.now c.self.inside.paper c.args.col c.args.y c.min-n.result (min 64 (c.args.self.now.width - 64 * c.args.col)) (3 * (64 * c.args.col))
    c.args.row.now c.lay_paper.new.row paper e n (omega (arith, c.min-n.ensures)) (omega arith) c.lay_paper.ensures

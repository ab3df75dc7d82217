use Rattle.std.proofs.Common.{◌≡◌, ◌∙◌, sym, subst, arith}
use Rattle.std.specs.Prelude.{pos}
use Rattle.geom_core.specs.Grid.{Key, key}
use Rattle.frame_core.specs.Frames.{Scene, with_put}
use Rattle.frame_core.specs.Films.{Renews}
use Rattle.frame_core.proofs.Films.{renews_put}
use Rattle.pixel_tests.proofs.tiles.push_covered.Goals as goal
use Rattle.geom_core.proofs.Tests.{some_same}

pub push-requires : goal.push-requires
push-requires c = λ before e.
    let frame : c.args.frame ≡ before = some_same c.args.frame before (sym c.requires.newest ∙ e) in
    let second : Key = key (pos 1) (pos 0) in
    let put : c.put.new.self ≡ with_put c.args.frame second c.args.right.now = c.in_ok-put.ensures.ok in
    subst (λ (v : Scene). Renews c.put.new.self v c.mark.new.self) frame (renews_put c.put.new.self c.args.frame second c.args.right.now c.none-fresh.result c.mark.new.self put (omega arith) (omega arith) c.mark.ensures)

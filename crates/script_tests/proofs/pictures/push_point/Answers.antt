use Rattle.std.proofs.Common.{◌≡◌, ◌∙◌, true, false, refl, ap, sym, subst, arith}
use Rattle.std.specs.Prelude.{pos}
use Rattle.geom_core.specs.Areas.{point}
use Rattle.geom_core.specs.Grid.{Key, key_of}
use Rattle.geom_core.proofs.Tests.{or_right}
use Rattle.frame_core.specs.Frames.{Scene}
use Rattle.frame_core.specs.Marks.{has_mark}
use Rattle.script_tests.proofs.pictures.push_point.Goals as goal

pub push-requires : goal.push-requires
push-requires c = λ before e x y h k _ _ m.
    let left : x ≡ 0 = omega (arith, h, ap (λ (s : Scene). s.width) c.in_ok-new.ensures) in
    let top : y ≡ 0 = omega (arith, k, ap (λ (s : Scene). s.height) c.in_ok-new.ensures) in
    let corner : Key = key_of (point (pos 0) (pos 0)) in
    let unmarked : has_mark c.mark.new.self corner ≡ false = subst (λ r. has_mark c.mark.new.self (key_of (point (pos 0) (pos r))) ≡ false) top (subst (λ q. has_mark c.mark.new.self (key_of (point (pos q) (pos y))) ≡ false) left m) in
    let marked : has_mark c.mark.new.self corner ≡ true = c.mark.ensures corner ∙ or_right (has_mark c.none-fresh.result corner) true refl in
    absurd (let wrong : true ≡ false = sym marked ∙ unmarked in cc)

use Rattle.std.proofs.Common.{rules, ◌≡◌, to_z, of_z, w32, subst, sym}
use Rattle.std.proofs.lemmas.Int.{to_z-of_z}
use Rattle.whole_tiles.specs.Circles.{LeavesTile, LiesOutside}
use Rattle.whole_tiles.proofs.Circles.{dab_leaves}
use Rattle.whole_tiles.proofs.circle.reaches.Goals as goal

pub returns-in-Dab : goal.returns-in-Dab
returns-in-Dab c h =
    let x : to_z w32 (of_z w32 c.in-Dab.x) ≡ c.in-Dab.x = search (rules, to_z-of_z) in
    let y : to_z w32 (of_z w32 c.in-Dab.y) ≡ c.in-Dab.y = search (rules, to_z-of_z) in
    let far : LiesOutside c.args.key c.in-Dab.x c.in-Dab.y c.in-Dab.r =
    subst (λ a. LiesOutside c.args.key a c.in-Dab.y c.in-Dab.r) x (subst (λ b. LiesOutside c.args.key (to_z w32 (of_z w32 c.in-Dab.x)) b c.in-Dab.r) y (c.is_reached.ensures h)) in
    subst (λ j. LeavesTile j c.args.key) (sym c.in-Dab.is) (dab_leaves c.in-Dab.x c.in-Dab.y c.in-Dab.r c.in-Dab.soft c.in-Dab.colour c.in-Dab.op c.in-Dab.strength c.args.key far)

use Rattle.std.proofs.Common.{◌≡◌, Some, [], ◌∷◌, ◌++◌, sym, subst, arith}
use Rattle.std.proofs.lemmas.Grind.{common_steps}
use Rattle.frame_core.specs.Frames.{Scene}
use Rattle.frame_core.specs.Films.{Renews, newest}
use Rattle.frame_core.proofs.Films.{one_more}
use Rattle.frame_core.proofs.film.Film.push.Goals as goal

pub invariant_of-self-2 : goal.invariant_of-self-2
invariant_of-self-2 c =
    let frames : c.push.new.self.items ≡ c.self.inside.frames.items ++ c.args.frame ∷ [] = grind (arith, common_steps) in
    let fresh : c.push-2.new.self.items ≡ c.self.inside.fresh.items ++ c.args.fresh ∷ [] = grind (arith, common_steps) in
    let renews : (before : Scene) → newest c.self.inside.frames.items ≡ Some before → Renews c.args.frame before c.args.fresh = subst (λ scenes. (before : Scene) → newest scenes ≡ Some before → Renews c.args.frame before c.args.fresh) (sym c.self.view_is) c.requires in
    rw (frames, fresh) (one_more c.self.inside.frames.items c.self.inside.fresh.items c.args.frame c.args.fresh c.self.invariant renews)

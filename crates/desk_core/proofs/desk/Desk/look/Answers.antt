use Rattle.std.proofs.Common.{rules, ◌≡◌, refl, sym, ◌∙◌}
use Rattle.std.specs.Prelude.{pos}
use Rattle.geom_core.specs.Areas.{point}
use Rattle.geom_core.proofs.Tests.{never}
use Rattle.machine_model.specs.Covers.{covered}
use Rattle.desk_core.specs.declared.answers.Fresh.TheVariants as fresh
use Rattle.desk_core.proofs.desk.Desk.look.Goals as goal

pub returns-then-is_covered-clause-dirty : goal.returns-then-is_covered-clause-dirty
returns-then-is_covered-clause-dirty c =
    let told : c.is_covered.result ≡ covered c.self.inside.machine 0 (point (pos c.args.x) (pos c.args.y)) = search rules in
    rw (← c.self.view_is) (λ e. sym told ∙ c.if-is_covered.true, λ t. refl)

-- a clean pixel isn't a dirty one
clean : fresh.Clean ≡ fresh.Dirty → ⊥
clean e = cc

pub returns-else-is_covered-clause-dirty : goal.returns-else-is_covered-clause-dirty
returns-else-is_covered-clause-dirty c =
    let told : c.is_covered.result ≡ covered c.self.inside.machine 0 (point (pos c.args.x) (pos c.args.y)) = search rules in
    rw (← c.self.view_is) (λ e. absurd (clean e), λ t. absurd (never (sym c.if-is_covered.false ∙ told ∙ t)))

pub returns-else-is_covered-clause-picture : goal.returns-else-is_covered-clause-picture
returns-else-is_covered-clause-picture c =
    let told : c.is_covered.result ≡ covered c.self.inside.machine 0 (point (pos c.args.x) (pos c.args.y)) = search rules in
    rw (← c.self.view_is) (λ e. c.root_pixel-pixel.ensures.picture (sym told ∙ c.if-is_covered.false))

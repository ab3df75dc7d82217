use Rattle.std.proofs.Common.{◌+◌, ◌<◌, ◌∷◌, length, sym, ap, ◌∙◌, arith}
use Rattle.pixel_core.specs.Rgba.{clear}
use Rattle.frame_core.specs.OpenRows.{column}
use Rattle.frame_core.proofs.OpenedRows.{opened, how_many}
use Rattle.frame_core.proofs.open_rows.OpenRows.begin.Goals as goal

pub returns-clause-begun : goal.returns-clause-begun
returns-clause-begun c k h =
    let few : c.self.inside.last + 1 < 17 = omega (arith, how_many c.self.inside.pixels c.self.inside.last, ap length c.self.view_is, c.requires) in
    opened c.self.inside.pixels c.copy_from_slice.new.self c.self.inside.last k (omega (arith, few)) c.copy_from_slice.ensures.after h ∙ ap (λ v. clear ∷ column k v) c.self.view_is

pub returns-clause-many : goal.returns-clause-many
returns-clause-many c = how_many _ (c.self.inside.last + 1) ∙ ap (λ n. n + 1) (sym (how_many c.self.inside.pixels c.self.inside.last) ∙ ap length c.self.view_is)

pub invariant_of-self : goal.invariant_of-self
invariant_of-self c = omega (arith, how_many c.self.inside.pixels c.self.inside.last, ap length c.self.view_is, c.requires)

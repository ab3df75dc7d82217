use Rattle.std.proofs.Common.{◌≡◌, ◌≤◌, ◌<◌, ◌-◌, Some, length, sym, ap, ◌∙◌, subst, arith}
use Rattle.std.specs.Prelude.{slice_get}
use Rattle.geom_core.specs.Grid.{keys_of}
use Rattle.host_pieces.specs.Parts.{Tiles}
use Rattle.host_pieces.proofs.Parts.{at_between, count_between}
use Rattle.host_pieces.proofs.part.Part.tile_at.Goals as goal

pub overflow_add-self-inside : goal.overflow_add-self-inside
overflow_add-self-inside c =
    let n : length c.args.self.now.keys ≡ c.self.inside.to - c.self.inside.from = ap (λ (t : Tiles). length t.keys) (sym c.self.view_is) ∙ count_between (keys_of c.self.inside.rect) c.self.inside.from c.self.inside.to c.self.invariant.0 c.self.invariant.1 in
    let below : c.args.i < length c.args.self.now.keys = c.requires in
    let few : c.self.inside.to ≤ 262144 = c.self.invariant.2 in
    omega arith

pub returns-clause-value : goal.returns-clause-value
returns-clause-value c =
    let n : length c.args.self.now.keys ≡ c.self.inside.to - c.self.inside.from = ap (λ (t : Tiles). length t.keys) (sym c.self.view_is) ∙ count_between (keys_of c.self.inside.rect) c.self.inside.from c.self.inside.to c.self.invariant.0 c.self.invariant.1 in
    let few : c.args.i < length c.args.self.now.keys = c.requires in
    subst (λ (t : Tiles). slice_get t.keys c.args.i ≡ Some c.tile_at.result) c.self.view_is
    (at_between (keys_of c.self.inside.rect) c.self.inside.from c.self.inside.to c.args.i c.tile_at.result (omega arith) c.tile_at.ensures.value)

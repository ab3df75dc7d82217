use Rattle.std.proofs.Common.{◌≡◌, ◌≤◌, ◌-◌, length, sym, ap, ◌∙◌, arith}
use Rattle.geom_core.specs.Grid.{keys_of}
use Rattle.host_pieces.specs.Parts.{Tiles}
use Rattle.host_pieces.proofs.Parts.{count_between, split_between}
use Rattle.host_pieces.proofs.part.Part.split_off.Goals as goal

pub returns-clause-keys : goal.returns-clause-keys
returns-clause-keys c =
    let n : length c.args.self.now.keys ≡ c.self.inside.to - c.self.inside.from = ap (λ (t : Tiles). length t.keys) (sym c.self.view_is) ∙ count_between (keys_of c.self.inside.rect) c.self.inside.from c.self.inside.to c.self.invariant.0 c.self.invariant.1 in
    let few : c.args.count ≤ length c.args.self.now.keys = c.requires in
    ap (λ (t : Tiles). t.keys) (sym c.self.view_is)
    ∙ split_between (keys_of c.self.inside.rect) c.self.inside.from (c.self.inside.to - c.args.count) c.self.inside.to (let h = c.self.invariant.0 in omega arith) (omega arith)

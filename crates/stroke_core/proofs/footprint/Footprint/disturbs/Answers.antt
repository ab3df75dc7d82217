use Rattle.std.proofs.Common.{◌≡◌, arith, ◌∙◌}
use Rattle.std.proofs.lemmas.Grind.{common_steps}
use Rattle.doc_model.specs.Strokes.{any_meet}
use Rattle.stroke_core.proofs.Apart.{one_way}
use Rattle.stroke_core.proofs.footprint.Footprint.disturbs.Goals as goal

pub returns-then-writes_all-2 : goal.returns-then-writes_all-2
returns-then-writes_all-2 c =
    let mine : c.args.self.now.writes ≡ c.args.self.now.reads = c.writes_all.ensures c.if-writes_all.true in
    let theirs : c.args.other.now.writes ≡ c.args.other.now.reads = c.writes_all-then-writes_all.ensures c.if-writes_all-2.true in
    let there : c.any_meet-there.result ≡ any_meet c.args.self.now.writes c.args.other.now.reads = grind (arith, common_steps) in
    there ∙ one_way c.args.self.now.reads c.args.self.now.writes c.args.other.now.reads c.args.other.now.writes mine theirs

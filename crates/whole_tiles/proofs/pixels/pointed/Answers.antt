use Rattle.std.proofs.Common.{◌≡◌, sym, subst, replicate}
use Rattle.std.proofs.lemmas.Result.{IfOk-weaker}
use Rattle.job_core.specs.Points.{Spot, LaysPoints}
use Rattle.doc_model.specs.declared.job.Kind.TheVariants.{Seq}
use Rattle.job_core.proofs.Keys.{due_key}
use Rattle.whole_tiles.specs.Base.{tile_of}
use Rattle.whole_tiles.specs.Wholes.{IsNew}
use Rattle.whole_tiles.proofs.News.{points_new}
use Rattle.whole_tiles.proofs.Circles.{left_new}
use Rattle.whole_tiles.proofs.pixels.pointed.Goals as goal

pub new-work-requires-clause-world : goal.new-work-requires-clause-world
new-work-requires-clause-world c = due_key _ _ _ c.requires.due

pub returns-in-Some : goal.returns-in-Some
returns-in-Some c = IfOk-weaker c.plain_tile.result (λ t. t ≡ replicate 4096 c.in-Some.pixel) (IsNew c.args.job.now c.args.shot.now c.args.key)
    (λ t e. subst (IsNew c.args.job.now c.args.shot.now c.args.key) (sym e) (points_new c.args.job.now Seq c.args.shot.now c.args.key (replicate 4096 c.in-Some.pixel) c.requires.due c.requires.point_op
    (subst (λ (w : Spot). LaysPoints w (tile_of c.args.shot.now w.key) (replicate 4096 c.in-Some.pixel)) c.new-work.ensures c.in-Some.ensures))) c.plain_tile.ensures

pub returns-in-None : goal.returns-in-None
returns-in-None c = IfOk-weaker c.painted_copy.result (LaysPoints c.new-work.result (tile_of c.args.shot.now c.new-work.result.key)) (IsNew c.args.job.now c.args.shot.now c.args.key)
    (λ t e. points_new c.args.job.now Seq c.args.shot.now c.args.key t c.requires.due c.requires.point_op (subst (λ (w : Spot). LaysPoints w (tile_of c.args.shot.now w.key) t) c.new-work.ensures e)) c.painted_copy.ensures

pub returns-in-None-2 : goal.returns-in-None-2
returns-in-None-2 c = IfOk-weaker c.tile_under.result (λ t. t ≡ tile_of c.args.shot.now c.args.key) (IsNew c.args.job.now c.args.shot.now c.args.key)
    (λ t e. subst (IsNew c.args.job.now c.args.shot.now c.args.key) (sym e) (left_new c.args.job.now Seq c.args.shot.now c.args.key c.requires.due c.requires.point_op (c.reaches.ensures c.if-reaches.false) c.tile_under.ensures.canonical)) c.tile_under.ensures.value

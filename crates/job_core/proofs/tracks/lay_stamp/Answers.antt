use Rattle.std.proofs.Common.{◌≡◌, true, to_z, of_z, w32, arith, sym, ◌∙◌, subst}
use borrow.Author.Differences.{ints}
use Rattle.geom_core.specs.Areas.{Point, point, meets}
use Rattle.geom_core.specs.Grid.{tile}
use Rattle.doc_model.specs.Jobs.{square}
use Rattle.doc_model.specs.declared.job.Job.TheVariants as job
use Rattle.job_core.specs.Points.{IsPointJob, LaysJob}
use Rattle.job_core.proofs.Tracked.{dab_stamped, dab_job, none_laid}
use Rattle.job_core.proofs.tracks.lay_stamp.Goals as goal

pub dab_in-requires-clause-work : goal.dab_in-requires-clause-work
dab_in-requires-clause-work c =
    let x : to_z w32 (of_z w32 c.args.x) ≡ c.args.x = omega (arith, ints) in
    let y : to_z w32 (of_z w32 c.args.y) ≡ c.args.y = omega (arith, ints) in
    let s : c.square.result ≡ square c.args.x c.args.y c.args.stamp.now.r = c.square.ensures ∙ (λ i. square (x i) (y i) c.args.stamp.now.r) in
    let m : meets (square c.args.x c.args.y c.args.stamp.now.r) (tile c.args.key) ≡ true = (λ i. meets (sym s i) (sym c.rect.ensures i)) ∙ sym c.meets.ensures ∙ c.if-meets.true in
    subst (λ (q : Point). IsPointJob c.args.key (job.Dab q.x q.y c.args.stamp.now.r c.args.stamp.now.soft c.args.stamp.now.colour c.args.stamp.now.op c.args.stamp.now.strength)) (λ i. point (sym x i) (sym y i))
    (dab_job c.args.key c.args.stamp.now (point c.args.x c.args.y) c.requires.radius c.requires.inside m)

pub returns-then-meets : goal.returns-then-meets
returns-then-meets c =
    let x : to_z w32 (of_z w32 c.args.x) ≡ c.args.x = omega (arith, ints) in
    let y : to_z w32 (of_z w32 c.args.y) ≡ c.args.y = omega (arith, ints) in
    dab_stamped c.args.key c.args.stamp.now (point c.args.x c.args.y) c.args.tile.now c.dab_in.new.tile
    (subst (λ (q : Point). LaysJob c.args.key (job.Dab q.x q.y c.args.stamp.now.r c.args.stamp.now.soft c.args.stamp.now.colour c.args.stamp.now.op c.args.stamp.now.strength) c.args.tile.now c.dab_in.new.tile) (λ i. point (x i) (y i)) c.dab_in.ensures)

pub returns-else-meets : goal.returns-else-meets
returns-else-meets c =
    let x : to_z w32 (of_z w32 c.args.x) ≡ c.args.x = omega (arith, ints) in
    let y : to_z w32 (of_z w32 c.args.y) ≡ c.args.y = omega (arith, ints) in
    let s : c.square.result ≡ square c.args.x c.args.y c.args.stamp.now.r = c.square.ensures ∙ (λ i. square (x i) (y i) c.args.stamp.now.r) in
    none_laid c.args.key c.args.stamp.now (point c.args.x c.args.y) c.args.tile.now ((λ i. meets (sym s i) (sym c.rect.ensures i)) ∙ sym c.meets.ensures ∙ c.if-meets.false)

use Rattle.std.proofs.Common.{◌≡◌, true, subst, sym, ap, ◌∙◌}
use Rattle.std.specs.List.{list_any, list_all}
use Rattle.geom_core.specs.Areas.{Area, lies_in}
use Rattle.doc_model.specs.Jobs.{reads}
use Rattle.tile_core.specs.Shots.{SameShots}
use Rattle.slot_work.proofs.ShotsRead.{same_layers, same_sights}
use Rattle.slot_work.proofs.painting.reads_same.Goals as goal

pub returns-then-covers_all : goal.returns-then-covers_all
returns-then-covers_all c =
    let shot = c.args.shot.now in
    let kept = c.args.kept.now in
    let rects = reads c.args.job.now in
    let is : c.as_slice-then-covers_all.result.now ≡ rects = c.as_slice-then-covers_all.ensures.value ∙ c.reads-reads.ensures in
    let covers : list_all (λ (a : Area). list_any (lies_in a) shot.rects) rects ≡ true = ap (list_all (λ (a : Area). list_any (lies_in a) shot.rects)) (sym (c.as_slice.ensures.value ∙ c.reads-reads.ensures)) ∙ sym c.covers_all.ensures ∙ c.if-covers_all.true in (
      λ t. (covers, same_layers rects shot kept c.requires.kept covers (subst (λ rs. SameShots rs shot kept) is (c.same_on.ensures.0 t))),
      λ h. c.same_on.ensures.1 (subst (λ rs. SameShots rs shot kept) (sym is) (same_sights rects shot kept c.requires.kept covers h.1)),
    )

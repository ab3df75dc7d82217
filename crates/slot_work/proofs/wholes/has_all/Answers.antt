use Rattle.std.proofs.Common.{◌≡◌, Some, length, refl, sym, ap, ◌∙◌}
use Rattle.std.specs.Prelude.{slice_get}
use Rattle.std.specs.List.{list_all}
use Rattle.std.specs.FinSet as set
use Rattle.std.proofs.lemmas.Option.{slice_get_read}
use Rattle.geom_core.specs.Grid.{all_keys_of}
use Rattle.slot_work.specs.Lacking.{is_seen}
use Rattle.filmed_caches.proofs.KeyLists.{rect_passed, rect_failed}
use Rattle.slot_work.proofs.wholes.has_all.Goals as goal

pub returns-then-not-has_all_in : goal.returns-then-not-has_all_in
returns-then-not-has_all_in c =
    let rects = c.as_slice-rect-items.result.now in
    let at : slice_get rects c.loop-rect.rect-index ≡ Some c.rect-item.result = slice_get_read rects (length rects) c.loop-rect.rect-index c.rect-item.result refl c.loop-rect-test.true c.rect-item.is in
    let seen = is_seen c.args.painter.now.published (set.from_list c.args.keys.now.keys) in
    sym (ap (λ rs. list_all seen (all_keys_of rs)) (sym (c.as_slice-rect-items.ensures.value ∙ c.writes-writes.ensures)) ∙ rect_failed seen rects c.loop-rect.rect-index c.rect-item.result at (sym c.has_all_in.ensures ∙ c.if-not-has_all_in.true) c.loop-rect.invariant)

pub loop-rect-preserved : goal.loop-rect-preserved
loop-rect-preserved c =
    let rects = c.as_slice-rect-items.result.now in
    let at : slice_get rects c.loop-rect.rect-index ≡ Some c.rect-item.result = slice_get_read rects (length rects) c.loop-rect.rect-index c.rect-item.result refl c.loop-rect-test.true c.rect-item.is in
    let seen = is_seen c.args.painter.now.published (set.from_list c.args.keys.now.keys) in
    rect_passed seen rects c.loop-rect.rect-index c.rect-item.result at (sym c.has_all_in.ensures ∙ c.if-not-has_all_in.false) c.loop-rect.invariant

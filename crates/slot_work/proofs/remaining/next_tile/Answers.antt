use Rattle.std.proofs.Common.{◌≡◌, Some, length, refl, sym, ap, ◌∙◌}
use Rattle.std.specs.Prelude.{slice_get}
use Rattle.std.specs.List.{list_any, list_all}
use Rattle.std.proofs.lemmas.Option.{slice_get_read}
use Rattle.geom_core.specs.Grid.{Key, same_key, all_keys_of}
use Rattle.doc_model.specs.Jobs.{writes}
use Rattle.filmed_caches.proofs.KeyLists.{key_in_one, rect_passed, rect_failed}
use Rattle.slot_work.proofs.remaining.next_tile.Goals as goal

pub returns-in-Some-clause-some : goal.returns-in-Some-clause-some
returns-in-Some-clause-some c =
    let rects = c.as_slice-rect-items.result.now in
    let at : slice_get rects c.loop-rect.rect-index ≡ Some c.rect-item.result = slice_get_read rects (length rects) c.loop-rect.rect-index c.rect-item.result refl c.loop-rect-test.true c.rect-item.is in
    let is : rects ≡ writes c.args.painter.now.job = c.as_slice-rect-items.ensures.value ∙ c.writes-writes.ensures in
    (ap (λ rs. list_any (same_key c.in-Some.key) (all_keys_of rs)) (sym is) ∙ key_in_one rects c.loop-rect.rect-index c.rect-item.result c.in-Some.key at c.in-Some.ensures.some.0, c.in-Some.ensures.some.1)

pub returns-in-Some-clause-none : goal.returns-in-Some-clause-none
returns-in-Some-clause-none c =
    let rects = c.as_slice-rect-items.result.now in
    let at : slice_get rects c.loop-rect.rect-index ≡ Some c.rect-item.result = slice_get_read rects (length rects) c.loop-rect.rect-index c.rect-item.result refl c.loop-rect-test.true c.rect-item.is in
    let is : rects ≡ writes c.args.painter.now.job = c.as_slice-rect-items.ensures.value ∙ c.writes-writes.ensures in
    let published = λ (k : Key). list_any (same_key k) c.args.painter.now.published in
    sym (ap (λ rs. list_all published (all_keys_of rs)) (sym is) ∙ rect_failed published rects c.loop-rect.rect-index c.rect-item.result at (sym c.in-Some.ensures.none) c.loop-rect.invariant)

pub loop-rect-preserved : goal.loop-rect-preserved
loop-rect-preserved c =
    let rects = c.as_slice-rect-items.result.now in
    let at : slice_get rects c.loop-rect.rect-index ≡ Some c.rect-item.result = slice_get_read rects (length rects) c.loop-rect.rect-index c.rect-item.result refl c.loop-rect-test.true c.rect-item.is in
    rect_passed (λ (k : Key). list_any (same_key k) c.args.painter.now.published) rects c.loop-rect.rect-index c.rect-item.result at (sym c.in-None.ensures.none) c.loop-rect.invariant

use Rattle.std.proofs.Common.{◌≡◌, length, sym, ◌∙◌, arith}
use Rattle.doc_model.specs.Jobs.{writes}
use Rattle.job_core.specs.Paints.{layer_of}
use Rattle.desk_state.proofs.KeyTests.{same_place}
use Rattle.slot_work.proofs.InOrder.{only_one, none_noted, lacking_in_order}
use Rattle.slot_work.proofs.wholes.are_in_order.Goals as goal

pub returns : goal.returns
returns c t =
    let rects = c.as_slice-rects.result.now in
    let is : rects ≡ writes c.args.painter.now.job = c.as_slice-rects.ensures.value ∙ c.writes-writes.ensures in
    let none : length c.as_slice.result.now ≡ 0 = same_place _ 0 (sym c.is_empty.ensures ∙ c.if-not-is_empty.false) in
    let alone : length rects ≡ 1 = omega arith in
    lacking_in_order c.args.painter.now.job (layer_of c.args.painter.now.shot) c.args.painter.now.published c.args.tiles.now c.index-rects-0.result c.requires.limits c.requires.of
    (none_noted _ _ none c.as_slice.ensures) (sym is ∙ only_one rects c.index-rects-0.result alone c.index-rects-0.is) (c.are_all_of.ensures.0 t)

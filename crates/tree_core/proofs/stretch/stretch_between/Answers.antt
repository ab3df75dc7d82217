use Rattle.std.proofs.Common.{◌≡◌, ◌-◌, length, drop, sym, ap, ◌∙◌}
use Rattle.tree_core.specs.Nodes.{row_of, rows_of}
use Rattle.tree_core.specs.Exchanges.{replaced}
use Rattle.tree_core.proofs.Replaced.{back_from, fits_back, map_replaced, replaced_there}
use Rattle.tree_core.proofs.stretch.stretch_between.Goals as goal

pub returns-clause-ok : goal.returns-clause-ok
returns-clause-ok c =
    let here = c.args.here.now in
    let there = c.args.there.now in
    let at = c.common_front-at.result in
    let back = c.common_back-back.result in
    let front = c.common_front-at.ensures in
    let end = c.common_back-back.ensures in
    let same : drop (length here - back) here ≡ drop (length there - back) there = sym (back_from here at back front.within end.within) ∙ end.same ∙ back_from there at back front.there end.there in
    sym (map_replaced row_of at (length here - at - back) c.in_ok-others.others.items here)
    ∙ ap rows_of (ap (λ xs. replaced at (length here - at - back) xs here) c.in_ok-others.ensures.ok
    ∙ replaced_there here there at back (fits_back here at back front.within end.within) (fits_back there at back front.there end.there) front.same same)

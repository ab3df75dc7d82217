use Rattle.std.proofs.Common.{◌≡◌, ◌≤◌, ◌+◌, ◌-◌, length, sym, ap, subst, ◌∙◌, arith}
use Rattle.std.specs.Prelude.{slice_range}
use Rattle.std.proofs.lemmas.List.{length-map}
use Rattle.tree_core.specs.Nodes.{row_of, rows_of}
use Rattle.tree_core.specs.Exchanges.{replaced}
use Rattle.tree_core.proofs.Replaced.{map_replaced, replaced_back}
use Rattle.tree_core.proofs.stretch.exchange_stretch.Goals as goal

new_is : (c : goal.After-refill) → c.replaced-new.result.items ≡ replaced c.args.stretch.now.at c.args.stretch.now.count c.args.stretch.now.others.items c.args.nodes.now.items
new_is c =
    let taken : c.args.stretch.now.at + c.args.stretch.now.count - c.args.stretch.now.at ≡ c.args.stretch.now.count = omega arith in
    c.replaced-new.ensures ∙ (λ i. replaced c.args.stretch.now.at (taken i) (c.as_slice-2.ensures.value i) (c.as_slice.ensures.value i))

pub returns-clause-new : goal.returns-clause-new
returns-clause-new c = ap rows_of (new_is c) ∙ map_replaced row_of c.args.stretch.now.at c.args.stretch.now.count c.args.stretch.now.others.items c.args.nodes.now.items

pub returns-clause-back : goal.returns-clause-back
returns-clause-back c =
    let at = c.args.stretch.now.at in
    let nodes = c.args.nodes.now.items in
    let count : c.len.result ≡ length c.args.stretch.now.others.items = c.len.ensures ∙ c.args.stretch.now.others.ok.0 in
    let out : c.refill.new.all.items ≡ slice_range nodes at (at + c.args.stretch.now.count) = c.refill.ensures.items ∙ ap (λ xs. slice_range xs at (at + c.args.stretch.now.count)) c.as_slice-3.ensures.value in
    sym (map_replaced row_of at c.len.result c.refill.new.all.items c.replaced-new.result.items)
    ∙ ap rows_of ((λ i. replaced at (count i) (out i) (new_is c i)) ∙ replaced_back at c.args.stretch.now.count c.args.stretch.now.others.items nodes (subst (λ n. at + c.args.stretch.now.count ≤ n) (length-map nodes row_of) c.requires.room.there))

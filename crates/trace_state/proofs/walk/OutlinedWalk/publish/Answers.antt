use Rattle.std.proofs.Common.{◌≡◌, List, ap, ◌∙◌, arith}
use Rattle.std.specs.Vec.{with_items}
use Rattle.std.proofs.lemmas.List.{with_items_is}
use Rattle.trace_state.specs.declared.group.WalkedGroup.{WalkedGroup}
use Rattle.trace_state.specs.Walking.{Walking}
use Rattle.trace_state.proofs.Noting.{same_walk}
use Rattle.trace_state.proofs.walk.OutlinedWalk.publish.Goals as goal

pub returns-clause-same : goal.returns-clause-same
returns-clause-same c h =
    let old = c.deref_mut.result.now in
    let new = c.note_pair.new.groups in
    let same : new ≡ old = same_walk c.note_pair.result old new c.args.group c.args.key c.note_pair.ensures.noted c.note_pair.ensures.new h in
    let filled : (with_items c.self.inside.groups new).items ≡ new = with_items_is c.self.inside.groups new (omega (arith, c.note_pair.auto.groups, c.deref_mut.ensures.len)) in
    let with : List WalkedGroup → Walking = λ gs. record { patch = c.self.inside.patch; groups = gs } in
    ap with (filled ∙ same ∙ c.deref_mut.ensures.value) ∙ c.self.view_is

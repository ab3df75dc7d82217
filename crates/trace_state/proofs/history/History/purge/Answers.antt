use Rattle.std.proofs.Common.{List, take, sym, ap, ◌∙◌, subst}
use Rattle.trace_state.specs.Histories.{Course, Former, AllLead, formers}
use Rattle.trace_state.proofs.Histories.{taken, taken_lead}
use Rattle.trace_state.proofs.history.History.purge.Goals as goal

pub invariant_of-self : goal.invariant_of-self
invariant_of-self c =
    let h = c.self.inside in
    (subst (AllLead h.tree) (sym c.truncate.ensures.items) (taken_lead h.tree c.args.keep h.past.items c.self.invariant.0), c.self.invariant.1)

pub returns : goal.returns
returns c =
    let h = c.self.inside in
    let with : List Former → Course = λ past. record { tree = h.tree; past = past; future = formers h.tree h.future.items } in
    ap with (ap (formers h.tree) c.truncate.ensures.items ∙ taken h.tree c.args.keep h.past.items) ∙ ap (λ (t : Course). record t { past = take c.args.keep t.past }) c.self.view_is

use Rattle.std.proofs.Common.{◌≡◌, None, [], sym, ap, ◌∙◌, subst}
use Rattle.desk_state.specs.Parts.{parts, state_of}
use Rattle.entry_queue.specs.Pushed.{StandsFor}
use Rattle.desk_state.specs.Tied.{IsDesk}
use Rattle.desk_state.proofs.Making.{new_parts, new_desk, new_is}
use Rattle.desk_events.proofs.machine.Machine.with_log.Goals as goal

-- the parts are those of a new desk
made : (c : goal.After-new-5) → parts c.args.canvas c.args.fed.items c.new-4.result c.in_ok-store.store c.in_ok-filmed.filmed.caches c.new-5.result c.in_ok-free.free c.in_ok-filmed.filmed.frames None 0 ≡ new_parts c.args.canvas c.args.slots
made c = λ i. parts c.args.canvas (c.requires.nothing i) (c.new-4.ensures.value i) (c.in_ok-store.ensures i) (c.in_ok-filmed.ensures i).caches ((c.new-5.ensures ∙ ap (λ a. record { canvas = a; patches = [] }) c.rect.ensures) i) (c.in_ok-free.ensures i) (c.in_ok-filmed.ensures i).frames None 0

pub invariant_of-result : goal.invariant_of-result
invariant_of-result c = subst IsDesk (sym (made c)) (new_desk c.args.canvas c.args.slots c.requires.canvas c.requires.some c.requires.few (subst (StandsFor []) c.new-4.ensures.value c.new-4.ensures.stands))

pub returns : goal.returns
returns c = ap state_of (made c) ∙ new_is c.args.canvas c.args.slots

use Rattle.std.proofs.Common.{◌≡◌, ◌<◌, ◌+◌, ◌++◌, ◌∷◌, [], true, take, length, ap, sym, subst, arith}
use Rattle.std.specs.Prelude.{is_some, IfSome}
use Rattle.command_log.specs.Log.{Log}
use Rattle.command_log.specs.Fronts.{all}
use Rattle.command_log.proofs.Fronts.{next_within, with_next}
use Rattle.command_log.proofs.front.Front.take_next.Goals as goal

pub overflow_add-self : goal.overflow_add-self
overflow_add-self c =
    let some : is_some c.args.self.now.room ≡ true = c.requires in
    let next : c.self.inside.len < length (all c.self.inside.list) = next_within (all c.self.inside.list) c.self.inside.len (subst (λ (l : Log). is_some l.room ≡ true) (sym c.self.view_is) some) in
    let long : length c.as_slice-list.result.now ≡ length (all c.self.inside.list) = ap length c.as_slice-list.ensures in
    omega arith

pub invariant_of-self : goal.invariant_of-self
invariant_of-self c =
    let some : is_some c.args.self.now.room ≡ true = c.requires in
    let next : c.self.inside.len < length (all c.self.inside.list) = next_within (all c.self.inside.list) c.self.inside.len (subst (λ (l : Log). is_some l.room ≡ true) (sym c.self.view_is) some) in
    omega arith

pub returns : goal.returns
returns c = subst (λ (l : Log). IfSome l.room (λ x. take (c.self.inside.len + 1) (all c.self.inside.list) ≡ l.items ++ x ∷ [])) c.self.view_is (with_next (all c.self.inside.list) c.self.inside.len)

use Rattle.std.proofs.Common.{◌≡◌, ◌++◌, length, take, drop, sym, ap, subst, arith, ◌∙◌}
use Rattle.std.proofs.Math.Seq.{take-append_seam}
use Rattle.std.specs.FinSet as set
use Rattle.memento_core.specs.Notes.{IsEachOnce, IsRevision, keys_noted, noted}
use Rattle.memento_core.specs.Revisions.{AllStand, Exchanges, keys_in}
use Rattle.memento_core.proofs.Exchanging.{len_is}
use Rattle.memento_core.proofs.revision.Revision.exchange.Goals as goal

pub exchange_all-requires-clause-once : goal.exchange_all-requires-clause-once
exchange_all-requires-clause-once g c = subst (λ ns. IsEachOnce (keys_noted ns)) (sym c.deref_mut.ensures.value) c.self.invariant.once

pub exchange_all-requires-clause-there : goal.exchange_all-requires-clause-there
exchange_all-requires-clause-there g c = subst (λ f. AllStand f (g.P.Plane.plane c.args.plane.now)) (sym (ap noted c.deref_mut.ensures.value ∙ c.self.view_is)) c.requires

pub invariant_of-self : goal.invariant_of-self
invariant_of-self g c =
    let new = c.exchange_all.new.notes in
    let rest = drop (length new) c.self.inside.notes.items in
    let full : length new ≡ c.self.inside.notes.len = omega (arith, c.exchange_all.auto.notes, c.deref_mut.ensures.len) in
    let same : take c.self.inside.notes.len (new ++ rest) ≡ new = ap (λ n. take n (new ++ rest)) (sym full) ∙ take-append_seam new rest in
    let keys : keys_noted new ≡ keys_noted c.self.inside.notes.items = c.exchange_all.ensures.keys ∙ ap keys_noted c.deref_mut.ensures.value in
    subst (IsRevision c.self.inside.keys) (sym same) (record { keys_are = c.self.invariant.keys_are ∙ ap set.from_list (sym keys); once = subst IsEachOnce (sym keys) c.self.invariant.once })

pub returns-clause-exchanges : goal.returns-clause-exchanges
returns-clause-exchanges g c =
    let new = c.exchange_all.new.notes in
    let rest = drop (length new) c.self.inside.notes.items in
    let full : length new ≡ c.self.inside.notes.len = omega (arith, c.exchange_all.auto.notes, c.deref_mut.ensures.len) in
    let same : take c.self.inside.notes.len (new ++ rest) ≡ new = ap (λ n. take n (new ++ rest)) (sym full) ∙ take-append_seam new rest in
    subst (λ f. Exchanges f (noted (take c.self.inside.notes.len (new ++ rest))) (g.P.Plane.plane c.args.plane.now) (g.P.Plane.plane c.exchange_all.new.plane)) (ap noted c.deref_mut.ensures.value ∙ c.self.view_is)
    (subst (λ ns. Exchanges (noted c.deref_mut.result.now) (noted ns) (g.P.Plane.plane c.args.plane.now) (g.P.Plane.plane c.exchange_all.new.plane)) (sym same) c.exchange_all.ensures.exchanges)

pub returns-clause-counts : goal.returns-clause-counts
returns-clause-counts g c =
    let many : set.len (keys_in c.args.self.now) ≡ length c.self.inside.notes.items = len_is c.self.inside.keys c.self.inside.notes.items c.args.self.now c.self.invariant c.self.view_is in
    let same : length c.deref_mut.result.now ≡ length c.self.inside.notes.items = ap length c.deref_mut.ensures.value in
    omega (arith, c.exchange_all.ensures.counts, many, same)

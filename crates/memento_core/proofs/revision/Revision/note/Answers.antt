use Rattle.std.proofs.Common.{◌≡◌, ◌++◌, ◌∷◌, [], true, false, sym, ap, subst, ◌∙◌}
use Rattle.std.specs.FinMap as map
use Rattle.std.specs.FinSet as set
use Rattle.std.proofs.lemmas.Bool.{not-false, not-true}
use Rattle.geom_core.proofs.Tests.{taken, kept}
use Rattle.memento_core.specs.Notes.{IsRevision, noted, note as the_note}
use Rattle.memento_core.proofs.Exchanging.{again_revision, has-noted, has_is, noted_push, revision_push}
use Rattle.memento_core.proofs.revision.Revision.note.Goals as goal
use Rattle.memento_core.proofs.revision.Revision.note.Goals.{in-Some-3, in-None-3}

pub invariant_of-self-then-branch : goal.invariant_of-self-then-branch
invariant_of-self-then-branch g c =
    let note = the_note c.args.key c.args.old in
    let other : set.contains c.self.inside.keys c.args.key ≡ false = not-true _ (sym c.in_ok-insert.ensures.new ∙ c.if-branch.true) in
    let none : map.contains_key (noted c.self.inside.notes.items) c.args.key ≡ false = has-noted c.self.inside.notes.items c.args.key ∙ ap (λ s. set.contains s c.args.key) (sym c.self.invariant.keys_are) ∙ other in
    let items : c.push.new.notes.items ≡ c.self.inside.notes.items ++ note ∷ [] = c.push.ensures ∙ ap (λ ns. ns ++ note ∷ []) c.in_ok-reserve.ensures.items in
    subst (IsRevision c.insert.new.self) (sym items) (subst (λ s. IsRevision s (c.self.inside.notes.items ++ note ∷ [])) (sym c.in_ok-insert.ensures.ok) (revision_push c.self.inside.notes.items note none c.self.inside.keys c.self.invariant))

pub invariant_of-self-else-branch : goal.invariant_of-self-else-branch
invariant_of-self-else-branch g c = again_revision c.self.inside.keys c.insert.new.self c.self.inside.notes.items c.reserve.new.self.items c.args.key
    (not-false _ (sym c.in_ok-insert.ensures.new ∙ c.if-branch.false)) c.in_ok-insert.ensures.ok c.in_ok-reserve.ensures.items c.self.invariant

pub invariant_of-self-else-branch-2 : goal.invariant_of-self-else-branch-2
invariant_of-self-else-branch-2 g c = again_revision c.self.inside.keys c.insert.new.self c.self.inside.notes.items c.reserve.new.self.items c.args.key
    (not-false _ (sym c.in_ok-insert.ensures.new ∙ c.if-branch.false)) c.in_ok-insert.ensures.ok c.in_ok-reserve.ensures.items c.self.invariant

pub returns-then-branch-clause-ok : goal.returns-then-branch-clause-ok
returns-then-branch-clause-ok g c =
    let note = the_note c.args.key c.args.old in
    let other : set.contains c.self.inside.keys c.args.key ≡ false = not-true _ (sym c.in_ok-insert.ensures.new ∙ c.if-branch.true) in
    let none : map.contains_key c.args.self.now c.args.key ≡ false = has_is c.self.inside.keys c.self.inside.notes.items c.args.self.now c.args.key c.self.invariant c.self.view_is ∙ other in
    let items : c.push.new.notes.items ≡ c.self.inside.notes.items ++ note ∷ [] = c.push.ensures ∙ ap (λ ns. ns ++ note ∷ []) c.in_ok-reserve.ensures.items in
    ap noted items ∙ noted_push c.self.inside.notes.items note (ap (λ f. map.contains_key f c.args.key) c.self.view_is ∙ none) ∙ (λ i. map.insert (c.self.view_is i) c.args.key c.args.old)
    ∙ sym (kept (map.contains_key c.args.self.now c.args.key) c.args.self.now (map.insert c.args.self.now c.args.key c.args.old) none)

pub returns-else-branch-clause-ok : goal.returns-else-branch-clause-ok
returns-else-branch-clause-ok g c =
    let there : map.contains_key c.args.self.now c.args.key ≡ true = has_is c.self.inside.keys c.self.inside.notes.items c.args.self.now c.args.key c.self.invariant c.self.view_is ∙ not-false _ (sym c.in_ok-insert.ensures.new ∙ c.if-branch.false) in
    elim c.match-old-3.branch [
      | in-Some-3 w ↦ w.self-is ∙ ap noted c.in_ok-reserve.ensures.items ∙ c.self.view_is ∙ sym (taken (map.contains_key c.args.self.now c.args.key) _ _ there)
      | in-None-3 w ↦ w.self-is ∙ ap noted c.in_ok-reserve.ensures.items ∙ c.self.view_is ∙ sym (taken (map.contains_key c.args.self.now c.args.key) _ _ there)
    ]

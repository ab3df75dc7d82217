use Rattle.std.proofs.Common.{◌≡◌, Ok, ◌∷◌, refl, sym, ap, ◌∙◌, arith}
use Rattle.desk_steps.specs.declared.entry.HistoryEntry.TheVariants as entry
use Rattle.desk_steps.specs.Archives.{Archive}
use Rattle.desk_steps.specs.Slots.{standing}
use Rattle.desk_steps.specs.Documents.{arranged, doc_in}
use Rattle.desk_steps.proofs.Archived.{change_kept, change_stands, grow_stands, grown}
use Rattle.desk_steps.proofs.store.Store.change.Goals as goal

pub invariant_of-self : goal.invariant_of-self
invariant_of-self c = grown c.self.inside.doc c.changed.new.self c.self.inside.history c.self.inside.history c.self.inside.way c.self.inside.room c.changed.ensures.same c.changed.ensures.grows refl refl (omega arith) c.self.invariant

pub invariant_of-self-in_err-reserve : goal.invariant_of-self-in_err-reserve
invariant_of-self-in_err-reserve c = grown c.self.inside.doc c.changed.new.self c.self.inside.history c.reserve.new.self c.self.inside.way c.self.inside.room c.changed.ensures.same c.changed.ensures.grows
    c.in_err-reserve.ensures.past c.in_err-reserve.ensures.future c.in_err-reserve.ensures.spare c.self.invariant

pub invariant_of-self-2 : goal.invariant_of-self-2
invariant_of-self-2 c =
    let free = ap (λ (a : Archive). a.way) c.self.view_is ∙ c.requires in
    let back = entry.Tree c.arrange.new.other in
    let past : c.commit.new.self.past ≡ back ∷ c.self.inside.history.past = c.commit.ensures.past ∙ ap (λ es. back ∷ es) c.in_ok-reserve.ensures.past in
    record {
      kept = change_kept (doc_in c.self.inside.doc) (doc_in c.arrange.new.self) back c.self.inside.history c.commit.new.self c.self.inside.way c.self.inside.room c.args.change.now free
          (c.in_ok-other.ensures.ok ∙ ap Ok (sym (c.arrange.ensures.new ∙ ap (arranged c.in_ok-other.other) c.changed.ensures.same))) (c.arrange.ensures.back ∙ c.changed.ensures.same) refl past c.commit.ensures.future c.self.invariant.kept;
      stand = change_stands (standing c.changed.new.self.tree c.changed.new.self.slots) (standing c.arrange.new.self.tree c.arrange.new.self.slots) back c.self.inside.history c.commit.new.self c.self.inside.way free past c.commit.ensures.future c.arrange.ensures.fits c.arrange.ensures.stood
          (grow_stands (standing c.self.inside.doc.tree c.self.inside.doc.slots) (standing c.changed.new.self.tree c.changed.new.self.slots) c.self.inside.history c.self.inside.way c.changed.ensures.grows c.self.invariant.stand);
    }

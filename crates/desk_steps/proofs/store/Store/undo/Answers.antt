use Rattle.std.proofs.Common.{refl, sym, ap, subst, ◌∙◌}
use Rattle.std.specs.Prelude.{IsNone}
use Rattle.history_core.specs.Stacks.{IsUndone}
use Rattle.desk_steps.specs.Archives.{Archive}
use Rattle.desk_steps.specs.Documents.{doc_in}
use Rattle.desk_steps.specs.Slots.{standing}
use Rattle.desk_steps.specs.Entries.{laid, base_of}
use Rattle.desk_steps.proofs.Archived.{undo_kept, undo_stands, undone_is, undo_fits, first_stands}
use Rattle.history_core.proofs.Lent.{nothing_is, lent_holds}
use Rattle.desk_steps.proofs.store.Store.undo.Goals as goal

pub returns-in_err-entry-clause-none : goal.returns-in_err-entry-clause-none
returns-in_err-entry-clause-none g c = (
  (λ _. ap (λ (a : Archive). a.past) (sym c.self.view_is) ∙ ap (laid (base_of c.self.inside.way (doc_in c.self.inside.doc))) (nothing_is c.self.inside.history.past c.in_err-entry.ensures.some.1)),
  (λ _. subst IsNone (sym c.from_residual.ensures) refl),
)

pub exchange-requires-clause-layer : goal.exchange-requires-clause-layer
exchange-requires-clause-layer g c = undo_fits (doc_in c.self.inside.doc) c.self.inside.history c.self.inside.way c.self.inside.room c.in_ok-entry.entry.now (ap (λ (a : Archive). a.way) c.self.view_is ∙ c.requires) c.in_ok-entry.ensures.entry c.self.invariant.kept

pub exchange-requires-clause-there : goal.exchange-requires-clause-there
exchange-requires-clause-there g c = first_stands (standing c.self.inside.doc.tree c.self.inside.doc.slots) c.self.inside.history.past c.in_ok-entry.entry.now c.in_ok-entry.ensures.entry c.self.invariant.stand.past

pub invariant_of-self-2 : goal.invariant_of-self-2
invariant_of-self-2 g c =
    let lent : IsUndone c.self.inside.history (c.undo.follows.lender c.exchange.new.self) c.exchange.new.self = lent_holds c.undo.result c.in_ok-entry.entry c.in_ok-entry.was (c.undo.follows.holds c.exchange.new.self) in
    record {
      kept = undo_kept (doc_in c.self.inside.doc) (doc_in c.exchange.new.doc) c.self.inside.history (c.undo.follows.lender c.exchange.new.self) c.self.inside.way c.self.inside.room c.in_ok-entry.entry.now c.exchange.new.self
          (ap (λ (a : Archive). a.way) c.self.view_is ∙ c.requires) c.in_ok-entry.ensures.entry lent c.exchange.ensures.doc c.exchange.ensures.back c.exchange.ensures.same c.exchange.ensures.known c.self.invariant.kept;
      stand = undo_stands (standing c.self.inside.doc.tree c.self.inside.doc.slots) (standing c.exchange.new.doc.tree c.exchange.new.doc.slots) c.self.inside.history (c.undo.follows.lender c.exchange.new.self) c.self.inside.way c.in_ok-entry.entry.now c.exchange.new.self (ap (λ (a : Archive). a.way) c.self.view_is ∙ c.requires) c.exchange.ensures.keys c.self.invariant.stand c.in_ok-entry.ensures.entry lent;
    }

pub returns-clause-new : goal.returns-clause-new
returns-clause-new g c =
    let lent : IsUndone c.self.inside.history (c.undo.follows.lender c.exchange.new.self) c.exchange.new.self = lent_holds c.undo.result c.in_ok-entry.entry c.in_ok-entry.was (c.undo.follows.holds c.exchange.new.self) in
    undone_is (doc_in c.self.inside.doc) (doc_in c.exchange.new.doc) c.self.inside.history (c.undo.follows.lender c.exchange.new.self) c.self.inside.way c.self.inside.room c.in_ok-entry.entry.now c.exchange.new.self c.args.self.now
    (ap (λ (a : Archive). a.way) c.self.view_is ∙ c.requires) c.in_ok-entry.ensures.entry lent c.exchange.ensures.doc c.exchange.ensures.back c.exchange.ensures.same c.self.view_is

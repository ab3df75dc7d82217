use Rattle.std.proofs.Common.{is_some, sym, ap, refl, ◌∙◌}
use Rattle.doc_model.specs.Forest.{content}
use Rattle.paint_device.specs.Seen.{layer_of}
use Rattle.desk_steps.specs.Archives.{Archive}
use Rattle.doc_model.specs.Changes.{there}
use Rattle.desk_steps.proofs.Exchanged.{there_shape}
use Rattle.desk_steps.specs.Documents.{doc_in}
use Rattle.desk_steps.specs.Slots.{standing}
use Rattle.desk_steps.proofs.Archived.{begin_kept, begun_is, begin_stands}
use Rattle.desk_steps.proofs.store.Store.begin.Goals as goal

pub invariant_of-self : goal.invariant_of-self
invariant_of-self c = record {
  kept = begin_kept (doc_in c.self.inside.doc) c.self.inside.history c.self.inside.room c.self.inside.way c.args.layer c.new.result (layer_of c.in-Some.field-0.now) (ap (λ (a : Archive). a.way) c.self.view_is ∙ c.requires) c.in-Some.ensures.some c.new.ensures c.self.invariant.kept;
  stand = begin_stands (standing c.self.inside.doc.tree c.self.inside.doc.slots) c.self.inside.history c.self.inside.way c.args.layer c.new.result c.new.ensures c.self.invariant.stand;
}

pub returns-in-Some-clause-ready : goal.returns-in-Some-clause-ready
returns-in-Some-clause-ready c _ = (
  ap (λ (a : Archive). is_some (content c.args.layer a.present)) (sym c.self.view_is) ∙ ap is_some c.in-Some.ensures.some,
  begun_is (doc_in c.self.inside.doc) c.self.inside.history c.self.inside.room c.self.inside.way c.args.layer c.new.result c.args.self.now c.requires c.new.ensures c.self.view_is,
)

pub returns-in-None-clause-not_paint : goal.returns-in-None-clause-not_paint
returns-in-None-clause-not_paint c _ =
    let is_there = sym (there_shape c.args.layer (doc_in c.self.inside.doc) c.tree.result.now c.tree.ensures.value) ∙ sym c.has.ensures ∙ c.if-has.true in (
      (ap (λ (a : Archive). there c.args.layer a.present) (sym c.self.view_is) ∙ is_there, ap (λ (a : Archive). content c.args.layer a.present) (sym c.self.view_is) ∙ c.in-None.ensures.none),
      refl,
    )

pub returns-in-None-2-clause-no_layer : goal.returns-in-None-2-clause-no_layer
returns-in-None-2-clause-no_layer c _ =
    let absent = sym (there_shape c.args.layer (doc_in c.self.inside.doc) c.tree.result.now c.tree.ensures.value) ∙ sym c.has.ensures ∙ c.if-has.false in
    (ap (λ (a : Archive). there c.args.layer a.present) (sym c.self.view_is) ∙ absent, refl)

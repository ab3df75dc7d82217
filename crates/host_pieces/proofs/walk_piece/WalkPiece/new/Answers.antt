use Rattle.std.proofs.Common.{refl, sym, ap, ◌∙◌, subst}
use Rattle.doc_model.specs.declared.canvas.Patch.{Patch}
use Rattle.desk_events.specs.declared.tickets.WalkTicket.{WalkTicket}
use Rattle.host_pieces.specs.Fronts.{IsFront}
use Rattle.host_pieces.proofs.walk_piece.WalkPiece.new.Goals as goal

pub invariant_of-result : goal.invariant_of-result
invariant_of-result c = record {
  rect = c.whole-part.ensures.rect ∙ ap (λ (q : Patch). q.rect) c.patch.ensures ∙ ap (λ (k : WalkTicket). k.inputs.patch.rect) (sym c.new-held.ensures);
  rows = record { of = c.none.ensures.of c.new-held.result.inputs; front = subst (IsFront c.whole-part.result.keys) (sym c.none.ensures.tiles) refl };
}

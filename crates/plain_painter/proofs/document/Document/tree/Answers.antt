use Rattle.std.proofs.Common.{sym, ap, ◌∙◌, subst}
use Rattle.doc_model.specs.Laws.{IsDocument}
use Rattle.desk_steps.specs.Archives.{shape}
use Rattle.doc_model.proofs.Natural.{each_shape}
use Rattle.desk_steps.proofs.Devices.{is_document_each}
use Rattle.plain_painter.specs.Steps.{layer_after}
use Rattle.plain_painter.proofs.document.Document.tree.Goals as goal

pub returns-clause-value : goal.returns-clause-value
returns-clause-value c = sym (ap shape (sym c.self.view_is) ∙ each_shape (λ q. layer_after q c.self.inside.steps.items) c.self.inside.tree)

pub returns-clause-known : goal.returns-clause-known
returns-clause-known c = subst IsDocument c.self.view_is (is_document_each (λ q. layer_after q c.self.inside.steps.items) c.self.inside.tree c.node_count-count.ensures.limits)

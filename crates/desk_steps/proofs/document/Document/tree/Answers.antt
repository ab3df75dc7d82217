use Rattle.std.proofs.Common.{sym}
use Rattle.desk_steps.specs.Slots.{device_in}
use Rattle.doc_model.proofs.Natural.{each_shape}
use Rattle.desk_steps.proofs.Devices.{is_document_each, layer_under}
use Rattle.desk_steps.proofs.document.Document.tree.Goals as goal

pub returns-clause-value : goal.returns-clause-value
returns-clause-value c = sym (each_shape (layer_under (device_in c.args.self.now.slots)) c.args.self.now.tree)

pub returns-clause-known : goal.returns-clause-known
returns-clause-known c = is_document_each (layer_under (device_in c.args.self.now.slots)) c.args.self.now.tree c.node_count-count.ensures.limits

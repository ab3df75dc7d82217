use Rattle.std.proofs.Common.{arith}
use Rattle.filmed_caches.proofs.PliesAdded.{layer_laid, layer_left_out}
use Rattle.filmed_caches.proofs.plies.add_layer.Goals as goal

pub returns-then-is_clear : goal.returns-then-is_clear
returns-then-is_clear c = layer_left_out c.args.store.now.present c.args.key c.args.id c.args.look c.in_ok-given.given c.args.plies.now.items c.requires c.in_ok-given.ensures (c.is_clear.ensures.0 c.if-is_clear.true)

pub returns : goal.returns
returns c = layer_laid c.args.store.now.present c.args.key c.args.id c.args.look c.in_ok-given.given c.ply_of.result c.args.plies.now.items c.push.new.self.items (omega arith) c.requires c.tell_clean.ensures c.in_ok-given.ensures c.ply_of.ensures.laid c.ply_of.ensures.count c.in_ok-push.ensures.items

use Rattle.tree_core.proofs.Led.{few_led, back_leads, is_document}
use Rattle.tree_core.proofs.tree.Tree.exchange.Goals as goal

pub exchange_nodes-requires-clause-few : goal.exchange_nodes-requires-clause-few
exchange_nodes-requires-clause-few c = few_led c.args.other.now c.self.inside.nodes.items c.args.self.now c.self.invariant c.self.view_is c.requires

pub returns-clause-leads : goal.returns-clause-leads
returns-clause-leads c = back_leads c.args.other.now c.self.inside.nodes.items c.args.self.now c.self.invariant c.self.view_is c.requires c.exchange_nodes.new.nodes.items c.exchange_nodes.ensures.new c.exchange_nodes.new.other c.exchange_nodes.ensures.back c.exchange_nodes.ensures.fits (is_document c.self.inside.nodes.items c.args.self.now c.self.invariant c.self.view_is c.exchange_nodes.ensures.most)

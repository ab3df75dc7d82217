use Rattle.std.proofs.Common.{◌≡◌, refl, true, is_some, sym, subst, ◌∙◌}
use Rattle.doc_model.specs.Forest.{content}
use Rattle.geom_core.specs.Exchanged.{HasTouched}
use Rattle.desk_steps.specs.Archives.{TellsReach}
use Rattle.desk_steps.specs.Slots.{standing}
use Rattle.desk_steps.specs.Documents.{doc_in}
use Rattle.memento_core.specs.Revisions.{keys_in}
use Rattle.desk_steps.specs.Founds.{patched}
use Rattle.desk_steps.specs.Entries.{reach_in, FitsOn, FitsKeys, Trades}
use Rattle.desk_steps.specs.declared.entry.HistoryEntry.TheVariants as entry
use Rattle.desk_steps.specs.declared.reach.Reach.TheVariants as tells
use Rattle.desk_steps.proofs.Devices.{some_in}
use Rattle.desk_steps.proofs.Exchanged.{stands, told_part, still_there}
use Rattle.desk_steps.proofs.entry.HistoryEntry.exchange.Goals as goal

pub exchange-requires-clause-layer : goal.exchange-requires-clause-layer
exchange-requires-clause-layer g c = sym (some_in c.in-Layer.id c.args.doc.now) ∙ subst (FitsOn (doc_in c.args.doc.now)) c.in-Layer.is c.requires.layer

pub exchange-requires-clause-there : goal.exchange-requires-clause-there
exchange-requires-clause-there g c = subst (FitsKeys (standing c.args.doc.now.tree c.args.doc.now.slots)) c.in-Layer.is c.requires.there

pub unreachable-requires : goal.unreachable-requires
unreachable-requires g c =
    let there : is_some (content c.in-Layer.id (doc_in c.args.doc.now)) ≡ true = subst (FitsOn (doc_in c.args.doc.now)) c.in-Layer.is c.requires.layer in
    stands c.in-Layer.id (doc_in c.exchange.new.self) c.tree.result.now c.tree.ensures.value
    (still_there c.in-Layer.id (patched c.in-Layer.found) (doc_in c.args.doc.now) (doc_in c.exchange.new.self) c.exchange.ensures.new there)
    (c.in-None.ensures.none.0 refl)

pub returns-in-Some-clause-reach : goal.returns-in-Some-clause-reach
returns-in-Some-clause-reach g c = subst (λ e. TellsReach (reach_in e) (doc_in c.exchange.new.self) (tells.Part c.in-Some.group c.touched.result)) (sym c.in-Layer.is)
    (told_part c.in-Layer.id (keys_in c.in-Layer.found) (doc_in c.exchange.new.self) c.tree.result.now c.in-Some.group c.touched.result c.tree.ensures.value c.in-Some.ensures.value
    (subst (λ s. HasTouched s c.touched.result) c.exchange.ensures.keys c.touched.ensures))

pub returns-in-Some-clause-keys : goal.returns-in-Some-clause-keys
returns-in-Some-clause-keys g c = subst (λ e. Trades (standing c.args.doc.now.tree c.args.doc.now.slots) (standing c.exchange.new.self.tree c.exchange.new.self.slots) e (entry.Layer c.in-Layer.id c.exchange.new.found)) (sym c.in-Layer.is)
    (record { now = c.exchange.ensures.kept; back = sym c.exchange.ensures.kept; fits = c.exchange.ensures.stand })

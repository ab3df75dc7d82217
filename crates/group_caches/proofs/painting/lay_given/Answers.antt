use Rattle.std.proofs.Common.{◌∙◌, sym}
use Rattle.std.proofs.lemmas.Result.{on_ok_weaker}
use Rattle.group_caches.specs.Laying.{LaysWhole, LaysGiven}
use Rattle.group_caches.proofs.Layers.{whole_given, part_given, none_given}
use Rattle.group_caches.proofs.painting.lay_given.Goals as goal

pub returns-then-h-eq64-clause-ok : goal.returns-then-h-eq64-clause-ok
returns-then-h-eq64-clause-ok c = on_ok_weaker c.lay_whole.result
    (λ (lays : LaysWhole c.args.key c.args.given.now c.args.device.now c.lay_whole.new.device). whole_given c.args.rect.now c.in-Some.part c.args.key c.rect-tile.result c.args.given.now c.args.device.now c.lay_whole.new.device c.requires.clear c.rect-tile.ensures (sym c.w.ensures.value ∙ c.if-w-eq64.true) (sym c.h.ensures.value ∙ c.if-h-eq64.true) c.in-Some.ensures.shared lays)
    c.lay_whole.ensures.ok

pub returns-else-w-eq64-clause-ok : goal.returns-else-w-eq64-clause-ok
returns-else-w-eq64-clause-ok c = on_ok_weaker c.lay_part.result
    (λ (lays : LaysGiven c.in-Some.part c.args.key c.args.given.now c.args.device.now c.lay_part.new.device). part_given c.args.rect.now c.in-Some.part c.args.key c.rect-tile.result c.args.given.now c.args.device.now c.lay_part.new.device c.rect-tile.ensures c.in-Some.ensures.shared lays)
    c.lay_part.ensures.ok

pub returns-in-None-clause-ok : goal.returns-in-None-clause-ok
returns-in-None-clause-ok c = none_given c.args.rect.now c.args.key c.rect-tile.result c.args.given.now c.args.device.now c.rect-tile.ensures c.in-None.ensures.apart

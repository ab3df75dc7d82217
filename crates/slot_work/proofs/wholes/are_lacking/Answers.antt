use Rattle.std.proofs.Common.{◌≡◌, Some, Ok, Result, Bool, length, refl, sym, ap, ◌∙◌}
use Rattle.std.specs.Prelude.{slice_get}
use Rattle.std.specs.FinSet as set
use Rattle.std.proofs.lemmas.Option.{slice_get_read}
use Rattle.geom_core.specs.Grid.{key_cmp}
use Rattle.geom_core.specs.declared.NoMemory.{NoMemory}
use Rattle.job_core.specs.Paints.{layer_of}
use Rattle.memento_core.proofs.Sets.{inserted_is}
use Rattle.slot_work.specs.Lacking.{IsOfJob}
use Rattle.slot_work.proofs.Lackings.{all_at, none_so_far, one_more, not_next, all_lacking, some_lacking}
use Rattle.slot_work.proofs.wholes.are_lacking.Goals as goal

same_ok : {E : Type 0} (a b : Bool) → ◌≡◌ {A = Result Bool E} (Ok a) (Ok b) → a ≡ b
same_ok a b e = cc

pub loop-whole-init : goal.loop-whole-init
loop-whole-init c = none_so_far c.args.painter.now.job (layer_of c.args.painter.now.shot) c.args.painter.now.published c.args.tiles.now _ (ap (set.from_list {R = key_cmp}) c.new-keys.ensures.empty)

pub loop-whole-preserved : goal.loop-whole-preserved
loop-whole-preserved c =
    let at : slice_get c.args.tiles.now c.loop-whole.whole-index ≡ Some c.whole-item.result = slice_get_read c.args.tiles.now (length c.args.tiles.now) c.loop-whole.whole-index c.whole-item.result refl c.loop-whole-test.true c.whole-item.is in
    one_more c.args.painter.now.job (layer_of c.args.painter.now.shot) c.args.painter.now.published c.args.tiles.now c.loop-whole.whole-index (set.from_list c.loop-whole.keys.keys) c.whole-item.result at (all_at (IsOfJob c.args.painter.now.job (layer_of c.args.painter.now.shot)) c.args.tiles.now c.loop-whole.whole-index c.whole-item.result at c.requires.of) c.loop-whole.invariant (set.from_list c.insert.new.self.keys)
    (inserted_is c.loop-whole.keys c.insert.new.self c.key.result c.in_ok-insert.ensures.updates ∙ ap (set.insert (set.from_list c.loop-whole.keys.keys)) c.key.ensures.value) (c.is_next.ensures.some c.if-not-is_next.false)

pub returns-then-not-is_next-clause-none : goal.returns-then-not-is_next-clause-none
returns-then-not-is_next-clause-none c h =
    let at : slice_get c.args.tiles.now c.loop-whole.whole-index ≡ Some c.whole-item.result = slice_get_read c.args.tiles.now (length c.args.tiles.now) c.loop-whole.whole-index c.whole-item.result refl c.loop-whole-test.true c.whole-item.is in
    not_next c.args.painter.now.job (layer_of c.args.painter.now.shot) c.args.painter.now.published c.args.tiles.now c.loop-whole.whole-index (set.from_list c.loop-whole.keys.keys) c.whole-item.result at (all_at (IsOfJob c.args.painter.now.job (layer_of c.args.painter.now.shot)) c.args.tiles.now c.loop-whole.whole-index c.whole-item.result at c.requires.of) c.loop-whole.invariant (c.is_next.ensures.none c.if-not-is_next.true)

pub returns-clause-some : goal.returns-clause-some
returns-clause-some c h = all_lacking c.args.painter.now.job (layer_of c.args.painter.now.shot) c.args.painter.now.published c.args.tiles.now c.loop-whole.whole-index (set.from_list c.loop-whole.keys.keys) c.loop-whole-test.false c.loop-whole.invariant (sym c.has_all.ensures ∙ same_ok {E = NoMemory} _ _ h)

pub returns-clause-none : goal.returns-clause-none
returns-clause-none c h = some_lacking c.args.painter.now.job (layer_of c.args.painter.now.shot) c.args.painter.now.published c.args.tiles.now c.loop-whole.whole-index (set.from_list c.loop-whole.keys.keys) c.loop-whole-test.false c.loop-whole.invariant (sym c.has_all.ensures ∙ same_ok {E = NoMemory} _ _ h)

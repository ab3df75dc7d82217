use Rattle.std.proofs.Common.{◌≡◌, Some, ℕ, sym, ap, ◌∙◌}
use Rattle.std.specs.Prelude.{slice_get}
use Rattle.std.specs.List.{list_any, list_all}
use Rattle.geom_core.specs.Grid.{Key, same_key, keys_of}
use Rattle.doc_model.specs.declared.canvas.Patch.{Patch}
use Rattle.machine_model.specs.Guards.{same_pair}
use Rattle.walker_core.specs.Readings.{path_in}
use Rattle.filmed_caches.proofs.Passes.{all_passed, all_failed}
use Rattle.filmed_caches.proofs.KeyLists.{key_in}
use Rattle.slot_work.proofs.remaining.next_pair.Goals as goal

pub returns-in-Some-clause-tile : goal.returns-in-Some-clause-tile
returns-in-Some-clause-tile c = ap (λ (p : Patch). list_any (same_key c.tile_at-key.result) (keys_of p.rect)) (sym c.patch-rect.ensures) ∙ key_in (keys_of c.patch-rect.result.rect) c.loop-i.i c.tile_at-key.result c.tile_at-key.ensures.value

pub returns-in-Some-clause-none : goal.returns-in-Some-clause-none
returns-in-Some-clause-none c =
    let at : slice_get (keys_of c.args.walker.now.inputs.patch.rect) c.loop-i.i ≡ Some c.tile_at-key.result = ap (λ (p : Patch). slice_get (keys_of p.rect) c.loop-i.i) (sym c.patch-rect.ensures) ∙ c.tile_at-key.ensures.value in
    sym (all_failed (λ (key : Key). list_all (λ (g : ℕ). list_any (same_pair g key) c.args.walker.now.published) (path_in c.args.walker.now.inputs)) (keys_of c.args.walker.now.inputs.patch.rect) c.loop-i.i c.tile_at-key.result at (sym c.in-Some.ensures.none) c.loop-i.invariant)

pub loop-i-preserved : goal.loop-i-preserved
loop-i-preserved c =
    let at : slice_get (keys_of c.args.walker.now.inputs.patch.rect) c.loop-i.i ≡ Some c.tile_at-key.result = ap (λ (p : Patch). slice_get (keys_of p.rect) c.loop-i.i) (sym c.patch-rect.ensures) ∙ c.tile_at-key.ensures.value in
    all_passed (λ (key : Key). list_all (λ (g : ℕ). list_any (same_pair g key) c.args.walker.now.published) (path_in c.args.walker.now.inputs)) (keys_of c.args.walker.now.inputs.patch.rect) c.loop-i.i c.tile_at-key.result at (sym c.in-None.ensures.none) c.loop-i.invariant

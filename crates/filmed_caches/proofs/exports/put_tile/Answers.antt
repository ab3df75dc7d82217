use Rattle.std.proofs.Common.{◌≡◌, ℕ, ◌++◌, List, length, take, drop, refl, ap, ◌∙◌}
use Rattle.std.proofs.lemmas.List.{append-nil}
use Rattle.std.proofs.Math.Seq.{drop-length, take-length}
use Rattle.std.proofs.lemmas.Result.{on_ok_weaker}
use Rattle.frame_core.specs.Frames.{with_put}
use Rattle.frame_core.specs.Plies.{made_pixels}
use Rattle.frame_core.specs.declared.ply.Ply.{Ply}
use Rattle.filmed_caches.proofs.CacheFrames.{plies_shown, tile_shown}
use Rattle.filmed_caches.proofs.exports.put_tile.Goals as goal

-- what is written back to a vector in which nothing has changed
written_back : (n : ℕ) (old new : List Ply) → new ≡ old → n ≡ length old → take n (new ++ drop (length new) old) ≡ old
written_back n old new same all = rw (same, all, drop-length, append-nil, take-length) refl

pub returns-then-not-saves : goal.returns-then-not-saves
returns-then-not-saves c = on_ok_weaker c.put.result (tile_shown c.args.scenery.now.caches.now c.args.scenery.now.canvas c.args.key c.args.tile.now c.args.frame.now c.put.new.self c.requires.tile) c.put.ensures.ok

pub returns-then-branch : goal.returns-then-branch
returns-then-branch c =
    let kept = written_back c.in_ok-made.made.len c.in_ok-made.made.items c.pays.new.plies (c.in_ok-pays.ensures ∙ c.deref_mut.ensures.value) c.in_ok-made.made.ok.0 in
    on_ok_weaker c.put_plies.result
    (λ is. plies_shown c.args.scenery.now.caches.now c.args.scenery.now.canvas c.args.scenery.now.store.now.present c.args.key c.in_ok-made.made.items c.args.frame.now c.put_plies.new.self c.requires.settled.shown c.in_ok-made.ensures
    (is ∙ ap (λ plies. with_put c.args.frame.now c.args.key (made_pixels plies)) kept))
    c.put_plies.ensures.ok

pub returns : goal.returns
returns c = on_ok_weaker c.put-2.result (tile_shown c.args.scenery.now.caches.now c.args.scenery.now.canvas c.args.key c.args.tile.now c.args.frame.now c.put-2.new.self c.requires.tile) c.put-2.ensures.ok

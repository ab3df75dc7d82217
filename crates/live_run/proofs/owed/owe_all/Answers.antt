use Rattle.std.proofs.Common.{List, ◌++◌, ◌∷◌, [], map, ap, ◌∙◌, arith}
use Rattle.std.proofs.lemmas.List.{take_all}
use Rattle.geom_core.specs.Grid.{Key, keys_of}
use Rattle.live_run.specs.declared.owed.Owed.{Owed}
use Rattle.live_run.specs.Owing.{owes}
use Rattle.live_run.proofs.Owing.{owing, owing_more, owed_each}
use Rattle.live_run.proofs.owed.owe_all.Goals as goal

pub loop-i-preserved : goal.loop-i-preserved
loop-i-preserved c =
    (c.push.ensures.items ∙ ap (λ (xs : List Owed). xs ++ owing c.tile_at.result ∷ []) c.loop-i.invariant.0 ∙ owing_more (keys_of c.args.tiles.now) c.loop-i.i c.tile_at.result c.tile_at.ensures.value, omega arith)

pub returns : goal.returns
returns c = λ k on.
    ap (λ (xs : List Owed). owes xs k) (c.loop-i.invariant.0 ∙ ap (λ (xs : List Key). map owing xs) (take_all c.loop-i.i (keys_of c.args.tiles.now) (omega arith))) ∙ owed_each (keys_of c.args.tiles.now) k on

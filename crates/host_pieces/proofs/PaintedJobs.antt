-- How the painting of a job goes on.
use Rattle.std.proofs.Common.{◌≡◌, ℕ, ◌≤◌, Some, List, [], ◌∷◌, ◌++◌, length, sym, ◌∙◌, subst, arith}
use Rattle.std.specs.Prelude.{slice_get}
use Rattle.std.proofs.lemmas.List.{map-append}
use Rattle.std.proofs.lemmas.List.Elements.{All-push}
use Rattle.geom_core.proofs.Tests.{length_map}
use Rattle.job_core.specs.Paints.{layer_of, paint}
use Rattle.whole_tiles.specs.Plans.{Plan, tiles_of}
use Rattle.whole_tiles.specs.Wholes.{Entire, IsOf}
use Rattle.slot_work.specs.Lacking.{IsOfJob, keys_of_tiles}
use Rattle.host_pieces.specs.declared.job_piece.JobPiece.{JobPiece}
use Rattle.host_pieces.specs.Fronts.{IsFront}
use Rattle.host_pieces.specs.Jobs.{AreFirst, GoesOn, HasAllTiles, tile_count}
use Rattle.host_pieces.proofs.Fronts.{front_more}

-- one more tile
pub first_more : (p : Plan) (tiles : List Entire) (i : ℕ) (x : Entire) → length tiles ≡ i → IsOf (paint p.job p.shot x.key []) x → slice_get (tiles_of p.job) i ≡ Some x.key → AreFirst p tiles → AreFirst p (tiles ++ x ∷ [])
first_more p tiles i x n of at first = record {
  of = All-push (IsOfJob p.job (layer_of p.shot)) tiles x first.of (record { of_job = of.job; shows = of.shows });
  front = subst (IsFront (tiles_of p.job)) (sym (map-append (λ (y : Entire). y.key) tiles (x ∷ []))) (front_more (tiles_of p.job) (keys_of_tiles tiles) first.front i x.key (length_map (λ (y : Entire). y.key) tiles ∙ n) at);
}

-- one call after another
pub goes_then : (a b c : JobPiece) → GoesOn a b → GoesOn b c → GoesOn a c
goes_then a b c one two = record {
  slot = two.slot ∙ one.slot;
  of = λ p h. two.of p (one.of p h);
  count = (let m : tile_count a.stage ≤ tile_count b.stage = one.count in let n : tile_count b.stage ≤ tile_count c.stage = two.count in omega arith);
  made = λ h. two.made (subst HasAllTiles (sym (one.made h)) h) ∙ one.made h;
}

-- What a job's tile has that is taken.
use Rattle.std.proofs.Common.{◌≡◌, ℕ, suc, zero, ◌<◌, true, ◌&&◌, List, [], ◌∷◌, map, length, sym, ap, ◌∙◌, arith}
use Rattle.std.specs.Prelude.{slice_index_or}
use Rattle.geom_core.specs.Areas.{Point, holds}
use Rattle.geom_core.specs.Rects.{any_holds}
use Rattle.geom_core.proofs.Tests.{and_left, or_left, or_right}
use Rattle.tile_core.specs.Blocks.{Piece}
use Rattle.doc_model.specs.Jobs.{apply, writes}
use Rattle.doc_model.specs.Layers.{at}
use Rattle.doc_model.specs.Shots.{in_tile}
use Rattle.doc_model.proofs.JobLaws.{laws_of_jobs}
use Rattle.job_core.specs.Paints.{IsPainted, Paint, layer_of}
use Rattle.machine_model.specs.State.{State}
use Rattle.desk_state.specs.Enabled.{Takes}
use Rattle.desk_core.specs.Painted.{HasJobsValue}

none_below : (k : ℕ) → k < 0 → ⊥
none_below k low = omega (arith, low)

-- a point of one block is a point of all
some_block : (bs : List Piece) (k : ℕ) (d : Piece) (q : Point) → k < length bs → holds (slice_index_or bs k d).rect q ≡ true → any_holds (map (λ (b : Piece). b.rect) bs) q ≡ true
some_block [] k d q low here = absurd (none_below k low)
some_block (b ∷ bs) zero d q low here = or_left (holds b.rect q) _ here
some_block (b ∷ bs) (suc k) d q low here = or_right (holds b.rect q) _ (some_block bs k d q (omega (arith, low)) here)

-- what was painted of the slot's job from the same pixels has what that job makes of its own shot
pub jobs_value : (s : State) (place serial : ℕ) (p : Paint) → Takes s place serial p → IsPainted p → HasJobsValue s place p
jobs_value s place serial p t made = record {
  painter = t.painter;
  runs = t.runs;
  covers = covers;
  values = λ k d low q here. (made.values k d low).value_is q here ∙ same q (and_left (any_holds (writes t.painter.job) q) _ (sym (covers q) ∙ some_block p.blocks k d q low here));
}
  where
    covers : (q : Point) → any_holds (map (λ (b : Piece). b.rect) p.blocks) q ≡ (any_holds (writes t.painter.job) q && in_tile p.key q)
    covers q = made.covers q ∙ ap (λ j. any_holds (writes j) q && in_tile p.key q) t.job

    same : (q : Point) → any_holds (writes t.painter.job) q ≡ true → at (apply p.job (layer_of p.shot)) q ≡ at (apply t.painter.job t.painter.shot) q
    same q h = ap (λ j. at (apply j (layer_of p.shot)) q) t.job ∙ laws_of_jobs.inside t.painter.job (layer_of p.shot) t.painter.shot q t.same h

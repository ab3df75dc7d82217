-- Jobs disturb each other both ways.
use Rattle.std.proofs.Common.{◌≡◌, Bool, true, false, ◌&&◌, ◌||◌, not, refl}
use Rattle.doc_model.specs.declared.job.Job.{Job}
use Rattle.doc_model.specs.Jobs.{reads, writes}
use Rattle.doc_model.specs.Strokes.{any_meet, disturb, is_uni}
use Rattle.doc_model.specs.Laws.{ConflictsBothWays}

either_way : (a b : Bool) → (a || b) ≡ (b || a)
either_way true true = refl
either_way true false = refl
either_way false true = refl
either_way false false = refl

both_ways : (a b : Bool) → (a && b) ≡ (b && a)
both_ways true true = refl
both_ways true false = refl
both_ways false true = refl
both_ways false false = refl

disturbs : (a b : Job) → disturb a b ≡ disturb b a
disturbs a b = either_way (any_meet (writes a) (reads b)) (any_meet (writes b) (reads a))

pub conflicts_both_ways : ConflictsBothWays
conflicts_both_ways = record {
  jobs = disturbs;
  kinds = λ a b i. disturbs a.1 b.1 i && not (both_ways (is_uni a.0) (is_uni b.0) i);
}

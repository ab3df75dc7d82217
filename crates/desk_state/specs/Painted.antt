-- What was made outside, beside the work in a slot that it is of.
use Rattle.std.specs.Prelude.{◌≡◌, ℕ, true, false}
use Rattle.std.specs.List.{list_any, list_all}
use Rattle.geom_core.specs.Areas.{lies_in}
use Rattle.geom_core.specs.Grid.{Key, same_key, keys_of, all_keys_of}
use Rattle.doc_model.specs.Jobs.{reads, writes}
use Rattle.doc_model.specs.Laws.{SameOn}
use Rattle.job_core.specs.Paints.{Paint, layer_of}
use Rattle.machine_model.specs.Guards.{same_pair}
use Rattle.walker_core.specs.Sameness.{ReadTheSame}
use Rattle.walker_core.specs.Composing.{Composition, has_pair}
use Rattle.desk_state.specs.declared.work.Painter.{Painter}
use Rattle.desk_state.specs.declared.work.Walker.{Walker}

-- a tile of the job, still to be published, was painted from a shot of its reads with the same default pixel and the same pixels there
pub record TakesPainted (w : Painter) (p : Paint) : Type 0 where
  pub in_job : list_any (same_key p.key) (all_keys_of (writes w.job)) ≡ true
  pub fresh : list_any (same_key p.key) w.published ≡ false
  pub job : p.job ≡ w.job
  pub covers : list_all (λ a. list_any (lies_in a) p.shot.rects) (reads w.job) ≡ true
  pub same : SameOn (reads w.job) (layer_of p.shot) (layer_of w.shot)

-- a pair of the walk, still to be published, was composed of the same as the walk reads
pub record TakesComposed (w : Walker) (c : Composition) (group : ℕ) (key : Key) : Type 0 where
  pub in_patch : list_any (same_key key) (keys_of w.inputs.patch.rect) ≡ true
  pub fresh : list_any (same_pair group key) w.published ≡ false
  pub composed : has_pair c group key ≡ true
  pub same : ReadTheSame w.inputs c.readings key

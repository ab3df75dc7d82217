-- What is taken of what was made outside, both ways.
use Rattle.std.proofs.Common.{◌≡◌, ◌≤◌, ℕ, true, Some, None, List, [], ◌∷◌, map, refl, sym, ap, ◌∙◌, subst}
use Rattle.std.specs.Prelude.{slice_get}
use Rattle.std.specs.List.{list_any}
use Rattle.pixel_core.specs.Rgba.{Rgba}
use Rattle.geom_core.specs.Areas.{Point}
use Rattle.geom_core.specs.Grid.{Key, same_key, keys_of}
use Rattle.doc_model.specs.declared.tree.Look.{Look}
use Rattle.job_core.specs.Paints.{Paint}
use Rattle.machine_model.specs.State as state
use Rattle.machine_model.specs.State.{Child}
use Rattle.machine_model.specs.Groups.{on}
use Rattle.machine_model.specs.Guards.{same_pair}
use Rattle.walker_core.specs.Readings.{readings, path_in, Readings}
use Rattle.walker_core.specs.Sameness.{ReadTheSame, groups_at}
use Rattle.walker_core.specs.Composing.{Composition}
use Rattle.slot_core.specs.Busy.{work_at}
use Rattle.desk_state.specs.declared.work.Painter.{Painter}
use Rattle.desk_state.specs.declared.work.Walker.{Walker}
use Rattle.desk_state.specs.declared.work.Work.TheVariants as work
use Rattle.desk_state.specs.Parts.{Parts, state_of, painter_of, walker_of}
use Rattle.desk_state.specs.Enabled.{TakesWalk}
use Rattle.desk_state.specs.Painted.{TakesComposed}
use Rattle.desk_state.proofs.Keeping.{held}
use Rattle.desk_state.proofs.Places.{IsPaintingAs, painting_as}
use Rattle.desk_state.proofs.WalkPlaces.{IsWalkingAs, walking_as}
use Rattle.desk_state.proofs.TilePoints.{HasPointIn, point_in}

one_job : (a b : Painter) → Some (work.Paint a) ≡ Some (work.Paint b) → a ≡ b
one_job a b e = cc

one_walk : (a b : Walker) → Some (work.Walk a) ≡ Some (work.Walk b) → a ≡ b
one_walk a b e = cc

-- the job in a slot is the machine's
pub job_is : (d : Parts) (place : ℕ) (w : Painter) (p : state.Painter) → work_at place d.slots ≡ Some (work.Paint w) → slice_get (state_of d).slots place ≡ Some (state.Paints p) → painter_of w ≡ p
job_is d place w p h runs =
    let x : IsPaintingAs d.slots place p = painting_as d.slots place p runs in
    ap painter_of (one_job w x.painter (sym h ∙ x.at_work)) ∙ x.is

-- and the walk
pub walk_is : (d : Parts) (place : ℕ) (w : Walker) (v : state.Walker) → work_at place d.slots ≡ Some (work.Walk w) → slice_get (state_of d).slots place ≡ Some (state.Walks v) → walker_of w ≡ v
walk_is d place w v h runs =
    let x : IsWalkingAs d.slots place v = walking_as d.slots place v runs in
    ap walker_of (one_walk w x.walker (sym h ∙ x.at_work)) ∙ x.is

-- the groups of what was read, by its children at a point
path_at : (p : Point) (groups : List (ℕ × List Child)) → map (λ (e : ℕ × List (ℕ × (Look × Rgba))). e.0) (groups_at p groups) ≡ map (λ (e : ℕ × List Child). e.0) groups
path_at p [] = refl
path_at p (e ∷ es) = ap (λ gs. e.0 ∷ gs) (path_at p es)

-- what read the same has the same groups
pub same_path : (a b : Readings) (key : Key) → 1 ≤ a.patch.rect.w → 1 ≤ a.patch.rect.h → list_any (same_key key) (keys_of a.patch.rect) ≡ true → ReadTheSame a b key → path_in a ≡ path_in b
same_path a b key w n in_patch same =
    let x : HasPointIn a.patch.rect key = point_in a.patch.rect key w n in_patch in
    sym (path_at x.point a.groups) ∙ ap (map (λ (e : ℕ × List (ℕ × (Look × Rgba))). e.0)) (same.groups x.point x.held x.in_tile) ∙ path_at x.point b.groups

-- what is taken of the walk that is at work has its serial, and was composed of it
pub record TakesWalkOf (w : Walker) (serial : ℕ) (c : Composition) (group : ℕ) (key : Key) : Type 0 where
  pub drawn : w.serial ≡ serial
  pub on_path : on group (path_in w.inputs) ≡ true
  pub takes : TakesComposed w c group key

pub walk_taken_of : (d : Parts) (place serial : ℕ) (w : Walker) (c : Composition) (group : ℕ) (key : Key) → work_at place d.slots ≡ Some (work.Walk w) → TakesWalk (state_of d) place serial c group key → TakesWalkOf w serial c group key
walk_taken_of d place serial w c group key h t =
    let e : walker_of w ≡ t.walker = walk_is d place w t.walker h t.runs in
    record {
      drawn = ap (λ (q : state.Walker). q.serial) e ∙ t.drawn;
      on_path = ap (λ (q : state.Walker). on group (map (λ (x : ℕ × List Child). x.0) q.shot)) e ∙ t.on_path;
      takes = record {
        in_patch = ap (λ (q : state.Walker). list_any (same_key key) (keys_of q.patch.rect)) e ∙ t.in_patch;
        fresh = ap (λ (q : state.Walker). list_any (same_pair group key) q.published) e ∙ t.fresh;
        composed = t.composed;
        same = subst (λ (q : state.Walker). ReadTheSame (readings q.patch q.shot) c.readings key) (sym e) t.same;
      };
    }

-- a walk doesn't stand where a job does, nor where nothing does
pub walk_at_job : (d : Parts) (place : ℕ) (p : Painter) (v : state.Walker) → work_at place d.slots ≡ Some (work.Paint p) → slice_get (state_of d).slots place ≡ Some (state.Walks v) → ⊥
walk_at_job d place p v h runs = let x : IsWalkingAs d.slots place v = walking_as d.slots place v runs in let e : Some (work.Paint p) ≡ Some (work.Walk x.walker) = sym h ∙ x.at_work in cc

pub walk_at_none : (d : Parts) (place : ℕ) (v : state.Walker) → work_at place d.slots ≡ None → slice_get (state_of d).slots place ≡ Some (state.Walks v) → ⊥
walk_at_none d place v h runs = let x : IsWalkingAs d.slots place v = walking_as d.slots place v runs in let e : None ≡ Some (work.Walk x.walker) = sym h ∙ x.at_work in cc

-- nor a job where a walk does, or nothing
pub job_at_walk : (d : Parts) (place : ℕ) (w : Walker) (p : state.Painter) → work_at place d.slots ≡ Some (work.Walk w) → slice_get (state_of d).slots place ≡ Some (state.Paints p) → ⊥
job_at_walk d place w p h runs = let x : IsPaintingAs d.slots place p = painting_as d.slots place p runs in let e : Some (work.Walk w) ≡ Some (work.Paint x.painter) = sym h ∙ x.at_work in cc

pub job_at_none : (d : Parts) (place : ℕ) (p : state.Painter) → work_at place d.slots ≡ None → slice_get (state_of d).slots place ≡ Some (state.Paints p) → ⊥
job_at_none d place p h runs = let x : IsPaintingAs d.slots place p = painting_as d.slots place p runs in let e : None ≡ Some (work.Paint x.painter) = sym h ∙ x.at_work in cc

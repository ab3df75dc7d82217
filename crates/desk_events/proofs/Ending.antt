-- Whether the work in a slot may end, both ways.
use Rattle.std.proofs.Common.{◌≡◌, ℕ, Bool, true, false, ◌↔◌, Some, List, map, refl, sym, ap, ◌∙◌, subst}
use Rattle.std.specs.Prelude.{IsTrue}
use Rattle.std.specs.List.{list_any, list_all}
use Rattle.geom_core.specs.Grid.{Key, same_key, keys_of, all_keys_of}
use Rattle.doc_model.specs.Jobs.{writes}
use Rattle.machine_model.specs.State as state
use Rattle.machine_model.specs.State.{State, Child, Paints, Walks}
use Rattle.machine_model.specs.Event.{End, WalkEnd}
use Rattle.machine_model.specs.Groups.{on}
use Rattle.machine_model.specs.Guards.{same_pair}
use Rattle.walker_core.specs.Readings.{path_in}
use Rattle.desk_state.specs.declared.work.Painter.{Painter}
use Rattle.desk_state.specs.declared.work.Walker.{Walker}
use Rattle.desk_state.specs.Enabled.{MayEnd}
use Rattle.desk_state.specs.Parts.{painter_of, walker_of}
use Rattle.desk_state.proofs.Ends.{job_done, walk_done, ends_own, walk_ends_own, none_ends}
use Rattle.desk_state.proofs.KeyTests.{all_pass, pass_all, all_on, on_all}
use Rattle.desk_events.specs.AtWork.{HasJob, HasNoJob, HasPublished, HasWalk, HasNoWalk}
use Rattle.desk_events.specs.Ends.{JobMayEnd, WalkMayEnd}
use Rattle.desk_events.proofs.AtWork.{same_job, same_walk}
use Rattle.desk_events.proofs.Exactly.{refuses}

-- ---- a job

module _ (s : State) (place serial : ℕ) where
  -- a job may end exactly where all its tiles are published
  pub job_ends : (w : Painter) (b : Bool) → HasJob s place serial w → b ≡ job_done w → IsTrue b ↔ JobMayEnd s place serial
  job_ends w b has is = (
    λ t. record {
      painter = painter_of w;
      runs = has.runs;
      drawn = has.drawn;
      enabled = (
        _,
        record {
          painter = painter_of w;
          runs = has.runs;
          all = all_pass (λ k. list_any (same_key k) w.published) (all_keys_of (writes w.job)) (sym is ∙ t);
          stroke = has.stroke;
          at_head = has.at_head;
          new_is = refl;
        },
      );
    },
    λ m. is ∙ pass_all (λ k. list_any (same_key k) w.published) (all_keys_of (writes w.job))
        (subst (λ (q : state.Painter). (key : Key) → list_any (same_key key) (all_keys_of (writes q.job)) ≡ true → list_any (same_key key) q.published ≡ true)
        (sym (same_job s place (painter_of w) m.enabled.1.painter has.runs m.enabled.1.runs)) m.enabled.1.all),
  )

  pub no_job_ends : HasNoJob s place serial → IsTrue false ↔ JobMayEnd s place serial
  no_job_ends none = refuses (λ m. none m.painter m.runs m.drawn)

  -- the job that is at work has published just the tiles that it keeps
  pub job_published : (w : Painter) (key : Key) (b : Bool) → HasJob s place serial w → b ≡ list_any (same_key key) w.published → IsTrue b ↔ HasPublished s place serial key
  job_published w key b has is = (
    λ t. record { painter = painter_of w; runs = has.runs; drawn = has.drawn; published = sym is ∙ t },
    λ m. is ∙ ap (λ (q : state.Painter). list_any (same_key key) q.published) (same_job s place (painter_of w) m.painter has.runs m.runs) ∙ m.published,
  )

  pub none_published : (key : Key) → HasNoJob s place serial → IsTrue false ↔ HasPublished s place serial key
  none_published key none = refuses (λ m. none m.painter m.runs m.drawn)

  -- ---- a walk

  pub walk_ends : (w : Walker) (b : Bool) → HasWalk s place serial w → b ≡ walk_done w → IsTrue b ↔ WalkMayEnd s place serial
  walk_ends w b has is = (
    λ t. record {
      walker = walker_of w;
      runs = has.runs;
      drawn = has.drawn;
      enabled = (
        _,
        record {
          walker = walker_of w;
          runs = has.runs;
          all = λ g key on_path in_patch. all_on (λ q. list_any (same_pair q key) w.published) (path_in w.inputs)
              (all_pass (λ k. list_all (λ q. list_any (same_pair q k) w.published) (path_in w.inputs)) (keys_of w.inputs.patch.rect) (sym is ∙ t) key in_patch) g on_path;
          new_is = refl;
        },
      );
    },
    λ m. is ∙ pass_all (λ k. list_all (λ q. list_any (same_pair q k) w.published) (path_in w.inputs)) (keys_of w.inputs.patch.rect)
        (λ key in_patch. on_all (λ q. list_any (same_pair q key) w.published) (path_in w.inputs) (λ g on_path. every m g key on_path in_patch)),
  )
    where
      every : WalkMayEnd s place serial → (g : ℕ) (key : Key) → on g (path_in w.inputs) ≡ true → list_any (same_key key) (keys_of w.inputs.patch.rect) ≡ true → list_any (same_pair g key) w.published ≡ true
      every m = subst (λ (v : state.Walker). (g : ℕ) (key : Key) → on g (map (λ (x : ℕ × List Child). x.0) v.shot) ≡ true → list_any (same_key key) (keys_of v.patch.rect) ≡ true → list_any (same_pair g key) v.published ≡ true)
          (sym (same_walk s place (walker_of w) m.enabled.1.walker has.runs m.enabled.1.runs)) m.enabled.1.all

  pub no_walk_ends : HasNoWalk s place serial → IsTrue false ↔ WalkMayEnd s place serial
  no_walk_ends none = refuses (λ m. none m.walker m.runs m.drawn)

-- ---- either

module _ (s : State) (place serial : ℕ) where
  pub job_is_end : JobMayEnd s place serial → MayEnd s place serial
  job_is_end m = record { slot = Paints m.painter; here = m.runs; drawn = ap Some m.drawn; event = End place; is_end = ends_own place; enabled = m.enabled }

  pub walk_is_end : WalkMayEnd s place serial → MayEnd s place serial
  walk_is_end m = record { slot = Walks m.walker; here = m.runs; drawn = ap Some m.drawn; event = WalkEnd place; is_end = walk_ends_own place; enabled = m.enabled }

  pub neither_ends : (JobMayEnd s place serial → ⊥) → (WalkMayEnd s place serial → ⊥) → MayEnd s place serial → ⊥
  neither_ends job walk = none_ends s place serial (λ w runs drawn can. job (record { painter = w; runs = runs; drawn = drawn; enabled = can })) (λ w runs drawn can. walk (record { walker = w; runs = runs; drawn = drawn; enabled = can }))

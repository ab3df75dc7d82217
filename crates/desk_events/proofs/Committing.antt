-- The job in a slot, of which whole tiles come.
use Rattle.std.proofs.Common.{◌≡◌, ℕ, true, List, [], sym, subst}
use Rattle.std.specs.List.{All, list_any}
use Rattle.geom_core.specs.Grid.{Key, same_key, all_keys_of}
use Rattle.doc_model.specs.Jobs.{writes}
use Rattle.job_core.specs.Paints.{layer_of}
use Rattle.whole_tiles.specs.Wholes.{Entire}
use Rattle.machine_model.specs.State as state
use Rattle.machine_model.specs.State.{State}
use Rattle.machine_model.specs.Event.{End}
use Rattle.desk_state.specs.declared.work.Painter.{Painter}
use Rattle.desk_state.specs.Enabled.{Enabled}
use Rattle.desk_state.specs.Parts.{Parts, state_of, painter_of}
use Rattle.desk_state.specs.Tied.{IsDesk}
use Rattle.desk_state.proofs.Ends.{job_may_end}
use Rattle.desk_state.proofs.KeyTests.{pass_all}
use Rattle.desk_state.proofs.Places.{IsPaintingAs, painting_as}
use Rattle.slot_work.specs.Lacking.{IsOfJob, AreLacking}
use Rattle.slot_work.proofs.Lackings.{lacking_of_job}
use Rattle.desk_events.specs.AtWork.{HasJob}
use Rattle.desk_events.specs.Commits.{AreOfWork, HasMade, MayCommit}
use Rattle.desk_events.proofs.AtWork.{same_job}

-- ---- the job in the slot

module _ (s : State) (place serial : ℕ) (w : Painter) (tiles : List Entire) (has : HasJob s place serial w) where
  pub may_commit_is : AreLacking w.job (layer_of w.shot) w.published tiles → MayCommit s place serial tiles
  may_commit_is lacking = record { painter = painter_of w; runs = has.runs; drawn = has.drawn; lacking = lacking }

  pub of_own : AreOfWork s place serial tiles → All (IsOfJob w.job (layer_of w.shot)) tiles
  of_own of = of (painter_of w) has.runs has.drawn

  pub made_is : All (IsOfJob w.job (layer_of w.shot)) tiles → HasMade s place serial tiles
  made_is all = record { painter = painter_of w; runs = has.runs; drawn = has.drawn; made = all }

  pub made_own : HasMade s place serial tiles → All (IsOfJob w.job (layer_of w.shot)) tiles
  made_own m = subst (λ (q : state.Painter). All (IsOfJob q.job q.shot) tiles) (sym (same_job s place (painter_of w) m.painter has.runs m.runs)) m.made

  pub commit_lacks : MayCommit s place serial tiles → AreLacking w.job (layer_of w.shot) w.published tiles
  commit_lacks m = subst (λ (q : state.Painter). AreLacking q.job q.shot q.published tiles) (sym (same_job s place (painter_of w) m.painter has.runs m.runs)) m.lacking

module _ (s : State) (place serial : ℕ) (tiles : List Entire) where
  -- tiles that the job at work made are of it, if it is at work
  pub made_of_work : HasMade s place serial tiles → AreOfWork s place serial tiles
  made_of_work m p runs drawn = subst (λ (q : state.Painter). All (IsOfJob q.job q.shot) tiles) (same_job s place m.painter p m.runs runs) m.made

  -- those that it lacks it has made
  pub lacking_made : MayCommit s place serial tiles → HasMade s place serial tiles
  lacking_made m = record { painter = m.painter; runs = m.runs; drawn = m.drawn; made = lacking_of_job m.painter.job m.painter.shot m.painter.published tiles m.lacking }

-- a job that lacks none may end
pub may_end_now : (d : Parts) (place serial : ℕ) → IsDesk d → MayCommit (state_of d) place serial [] → Enabled (state_of d) (End place)
may_end_now d place serial desk m =
    let x : IsPaintingAs d.slots place m.painter = painting_as d.slots place m.painter m.runs in
    job_may_end d place x.painter desk x.at_work (pass_all (λ k. list_any (same_key k) x.painter.published) (all_keys_of (writes x.painter.job))
    (subst (λ (q : state.Painter). (key : Key) → list_any (same_key key) (all_keys_of (writes q.job)) ≡ true → list_any (same_key key) q.published ≡ true) (sym x.is) m.lacking))

-- what the slot's own job takes
pub own_whole : (w : Painter) (p : state.Painter) (x : Entire) → painter_of w ≡ p → IsOfJob p.job p.shot x → IsOfJob w.job (layer_of w.shot) x
own_whole w p x e of = subst (λ (q : state.Painter). IsOfJob q.job q.shot x) (sym e) of

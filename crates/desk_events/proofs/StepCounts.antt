-- How many steps are counted.
use Rattle.std.proofs.Common.{◌≡◌, ℕ, ◌+◌, true, Option, Some, None, is_some, Ok, Err, refl, sym, ap, ◌∙◌, arith}
use Rattle.std.specs.Prelude.{take, Result, OnErr}
use Rattle.std.specs.FinSet as set
use Rattle.std.specs.FinSet.{FinSet}
use Rattle.geom_core.specs.Grid.{key_cmp, key_set}
use Rattle.geom_core.specs.Exchanged.{HasTouched}
use Rattle.geom_core.specs.declared.Touched.{Touched}
use Rattle.doc_model.specs.Strokes.{Stroke}
use Rattle.machine_model.specs.State.{State, head_stroke}
use Rattle.machine_model.specs.Event.{Cancel}
use Rattle.machine_model.specs.Guards.{kept_jobs}
use Rattle.machine_model.specs.Effects.{writes_of}
use Rattle.desk_state.specs.Counting.{steps_of, tiles_started}
use Rattle.desk_state.specs.Enabled.{Enabled}
use Rattle.desk_state.specs.Parts.{Parts, state_of}
use Rattle.desk_state.specs.Tied.{IsDesk}
use Rattle.desk_state.proofs.Keeping.{IsGoing, going}
use Rattle.desk_state.proofs.Noting.{keys_are}
use Rattle.geom_core.proofs.Tests.{not_true}

-- a stroke that was never begun has no started job
pub none_started : (s : State) → s.way ≡ None → steps_of s Cancel ≡ 0
none_started s way = ap (λ o. tiles_started (record s { way = o }) (head_stroke s)) way ∙ go (head_stroke s)
  where
    go : (o : Option Stroke) → tiles_started (record s { way = None }) o ≡ 0
    go None = refl
    go (Some stroke) = set.len-empty key_cmp

-- a cancelled stroke exchanges each tile that its jobs have written
pub cancel_steps : (d : Parts) (touched : Touched) → IsDesk d → Enabled (state_of d) Cancel → is_some d.way ≡ true → ((layer : ℕ) (keys : FinSet key_cmp) → d.store.way ≡ Some (layer, keys) → HasTouched keys touched) → touched.count ≡ steps_of (state_of d) Cancel
cancel_steps d touched desk can begun told = go d.way refl begun
  where
    go : (o : Option ℕ) → d.way ≡ o → is_some o ≡ true → touched.count ≡ steps_of (state_of d) Cancel
    go None e h = cc
    go (Some n) e h =
        let g : IsGoing d = going d n desk e in
        let keys : g.begun.keys ≡ key_set (writes_of (take g.n (kept_jobs g.begun.stroke))) = keys_are (kept_jobs g.begun.stroke) (state_of d).slots g.n g.begun.keys g.begun.notes (not_true _ can.1.idle) in
        (told g.begun.stroke.layer g.begun.keys g.begun.way).count
        ∙ ap (λ (ks : FinSet key_cmp). set.len ks) keys
        ∙ ap (λ w. tiles_started (record (state_of d) { way = w }) (Some g.begun.stroke)) (sym g.way)
        ∙ ap (tiles_started (state_of d)) (sym g.begun.at_head)

pub plus_none : (n : ℕ) → n ≡ n + 0
plus_none n = omega arith

pub on_err : {A E P : Type 0} (r : Result A E) → P → OnErr r P
on_err (Ok x) p = tt
on_err (Err e) p = p

-- Facts on the parts of a desk that its events share.
use Rattle.std.proofs.Common.{◌≡◌, ℕ, suc, zero, Bool, true, false, Option, Some, None, List, [], ◌∷◌, map, refl, sym, ap, ◌∙◌, subst}
use Rattle.std.specs.Prelude.{slice_get, slice_set, option_map, not}
use Rattle.std.specs.List.{list_any}
use Rattle.std.proofs.lemmas.Option.{slice_get-map}
use Rattle.doc_model.specs.Strokes.{Stroke}
use Rattle.machine_model.specs.State as state
use Rattle.machine_model.specs.State.{State, Slot, Free, Paints, Walks, head_stroke}
use Rattle.machine_model.specs.Slots.{is_painter}
use Rattle.machine_model.specs.UnderWay.{UnderWay, IsOnWay, AtRest}
use Rattle.slot_core.specs.declared.Busy.{Busy}
use Rattle.desk_state.specs.declared.work.Work.{Work}
use Rattle.desk_state.specs.Parts.{Parts, state_of, slot_of}
use Rattle.desk_state.specs.Tied.{IsDesk, IsWay, IsBegun}

pub map_set : {A B : Type 0} (f : A → B) (xs : List A) (i : ℕ) (x : A) → map f (slice_set xs i x) ≡ slice_set (map f xs) i (f x)
map_set f [] i x = refl
map_set f (y ∷ xs) zero x = refl
map_set f (y ∷ xs) (suc i) x = ap (λ zs. f y ∷ zs) (map_set f xs i x)

-- what a slot of the machine holds
pub held : (d : Parts) (place : ℕ) (o : Option (Busy Work)) → slice_get d.slots place ≡ Some o → slice_get (state_of d).slots place ≡ Some (slot_of o)
held d place o h = slice_get-map slot_of d.slots place ∙ ap (option_map slot_of) h

-- a stroke is under way, and the store has begun it
pub record IsGoing (d : Parts) : Type 0 where
  pub n : ℕ
  pub way : d.way ≡ Some n
  pub under : UnderWay (state_of d) n
  pub begun : IsBegun (state_of d) d.store n
  pub stroke : begun.stroke ≡ under.stroke

some_stroke : (a b : Stroke) → Some a ≡ Some b → a ≡ b
some_stroke a b e = cc

-- so it is where some jobs were started
pub going : (d : Parts) (n : ℕ) → IsDesk d → d.way ≡ Some n → IsGoing d
going d n desk e = record {
  n = n;
  way = e;
  under = under;
  begun = begun;
  stroke = some_stroke _ _ (sym begun.at_head ∙ under.at_head);
}
  where
    under : UnderWay (state_of d) n
    under = subst (IsOnWay (state_of d)) e desk.sound.orderly.on_way

    begun : IsBegun (state_of d) d.store n
    begun = subst (IsWay (state_of d) d.store) e desk.way

pub some_painter : (slots : List Slot) (place : ℕ) (w : state.Painter) → slice_get slots place ≡ Some (Paints w) → list_any is_painter slots ≡ true
some_painter [] place w h = cc
some_painter (Free ∷ slots) zero w h = cc
some_painter (Walks v ∷ slots) zero w h = cc
some_painter (Paints v ∷ slots) place w h = refl
some_painter (Free ∷ slots) (suc place) w h = some_painter slots place w h
some_painter (Walks v ∷ slots) (suc place) w h = some_painter slots place w h

-- and where a job is at work
pub going_at_work : (d : Parts) (place : ℕ) (w : state.Painter) → IsDesk d → slice_get (state_of d).slots place ≡ Some (Paints w) → IsGoing d
going_at_work d place w desk runs = go d.way refl
  where
    go : (o : Option ℕ) → d.way ≡ o → IsGoing d
    go (Some n) e = going d n desk e
    go None e =
        let rest : AtRest (state_of d) = subst (IsOnWay (state_of d)) e desk.sound.orderly.on_way in
        let some : list_any is_painter (state_of d).slots ≡ true = some_painter (state_of d).slots place w runs in
        let idle : not (list_any is_painter (state_of d).slots) ≡ true = rest.idle in
        absurd (clash (list_any is_painter (state_of d).slots) some idle)
      where
        clash : (b : Bool) → b ≡ true → not b ≡ true → ⊥
        clash b e h = let f : not b ≡ false = ap not e in cc

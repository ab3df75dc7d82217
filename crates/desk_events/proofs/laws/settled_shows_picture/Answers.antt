use Rattle.std.proofs.Common.{◌≡◌, true, false, List, [], ◌∷◌, refl, subst}
use Rattle.std.specs.Prelude.{not}
use Rattle.std.specs.List.{list_all, list_any}
use Rattle.machine_model.specs.State.{State, Slot, Free, Paints, Walks, is_free}
use Rattle.machine_model.specs.Settled.{IsSettled}
use Rattle.machine_model.specs.Slots.{is_painter, is_walker}
use Rattle.machine_model.specs.Sound.{IsSound}
use Rattle.machine_model.proofs.RootPicture.{clean_is_picture, still_is_clean}
use Rattle.desk_events.specs.Shown.{ShowsPicture}
use Rattle.desk_events.proofs.laws.settled_shows_picture.Goals as goal

-- where all slots are free nothing is at work
no_job : (xs : List Slot) → list_all is_free xs ≡ true → not (list_any is_painter xs) ≡ true
no_job [] h = refl
no_job (Free ∷ xs) h = no_job xs h
no_job (Paints w ∷ xs) h = absurd (let t : false ≡ true = h in cc)
no_job (Walks w ∷ xs) h = absurd (let t : false ≡ true = h in cc)

no_walk : (xs : List Slot) → list_all is_free xs ≡ true → not (list_any is_walker xs) ≡ true
no_walk [] h = refl
no_walk (Free ∷ xs) h = no_walk xs h
no_walk (Paints w ∷ xs) h = absurd (let t : false ≡ true = h in cc)
no_walk (Walks w ∷ xs) h = absurd (let t : false ≡ true = h in cc)

settled_picture : (s : State) → IsSound s → IsSettled s → ShowsPicture s
settled_picture s sound settled p inside = clean_is_picture s sound p inside (still_is_clean s settled.updates (no_job s.slots settled.slots) (no_walk s.slots settled.slots) 0 p)

pub returns : goal.returns
returns c = subst (λ s. IsSettled s → ShowsPicture s) c.machine.view_is (settled_picture _ c.machine.invariant.sound)

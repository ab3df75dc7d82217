-- Changes of a document, and when they are refused.
use Rattle.std.specs.Prelude.{ℕ, ◌+◌, ◌==◌, nat_lt, Bool, true, ◌||◌, not, if◌then◌else◌, Option, Some, None, Result, Ok, Err, List, [], ◌∷◌}
use Rattle.pixel_core.specs.Rgba.{Rgba}
use Rattle.pixel_core.specs.declared.blending.Op.TheVariants.{Over}
use Rattle.doc_model.specs.declared.tree.Look.{Look}
use Rattle.doc_model.specs.declared.tree.Change.{Change}
use Rattle.doc_model.specs.declared.tree.Change.TheVariants as change
use Rattle.doc_model.specs.declared.tree.TreeFault.{TreeFault}
use Rattle.doc_model.specs.declared.tree.TreeFault.TheVariants.{Taken, NoNode, NotGroup, IntoItself, TreeFull, TooDeep, BadPlace}
use Rattle.doc_model.specs.Forest.{Forest, none, paint, group, count, width, height, has, is_group, inserted, within, without, only, children, depth, with_look}

-- the look of a new node
abbrev pub new_look : Look
new_look = record { opacity = 255; op = Over; visible = true }

-- the first refusal whose test passes
abbrev pub first_of_faults : List (Bool × TreeFault) → Option TreeFault
first_of_faults [] = None
first_of_faults (c ∷ rest) = if c.0 then Some c.1 else first_of_faults rest

-- the new document, or the fault where there is one
abbrev pub answer : {A : Type 0} → Option TreeFault → A → Result A TreeFault
answer None new = Ok new
answer (Some fault) new = Err fault

module _ {A : Type 0} where
  -- as has, is_group, within and so on, where the group 0 is the root
  abbrev pub there : ℕ → Forest A → Bool
  there q doc = (q == 0) || has q doc

  -- whether the group q is there
  abbrev pub takes : ℕ → Forest A → Bool
  takes q doc = (q == 0) || is_group q doc

  -- how many children the group q has
  abbrev pub child_count : ℕ → Forest A → ℕ
  child_count q doc = if q == 0 then width doc else width (children q doc)

  -- the nodes set among the children of the group q
  abbrev pub set_in : ℕ → ℕ → Forest A → Forest A → Forest A
  set_in q place nodes doc = if q == 0 then inserted place nodes doc else within q (inserted place nodes) doc

  -- why a new node can't come
  abbrev pub no_new : ℕ → ℕ → ℕ → Forest A → Option TreeFault
  no_new id above place doc = first_of_faults (
      (there id doc, Taken id)
      ∷ (not (there above doc), NoNode above)
      ∷ (not (takes above doc), NotGroup above)
      ∷ (count doc == 256, TreeFull 256)
      ∷ (nat_lt 16 (depth above doc + 1), TooDeep 16)
      ∷ (nat_lt (child_count above doc) place, BadPlace place)
      ∷ [])

  -- why a node can't be moved
  abbrev pub no_place : ℕ → ℕ → ℕ → Forest A → Option TreeFault
  no_place id above place doc = first_of_faults (
      (not (has id doc) || (id == 0), NoNode id)
      ∷ (not (there above doc), NoNode above)
      ∷ (not (takes above doc), NotGroup above)
      ∷ (has above (only id doc), IntoItself id)
      ∷ (nat_lt 16 (depth above doc + height (only id doc)), TooDeep 16)
      ∷ (nat_lt (child_count above (without id doc)) place, BadPlace place)
      ∷ [])

  -- why a node can't be removed or looked at otherwise
  abbrev pub no_node : ℕ → Forest A → Option TreeFault
  no_node id doc = first_of_faults ((not (has id doc) || (id == 0), NoNode id) ∷ [])

  -- the document after the change, or the first refusal. fresh tells the content of a new paint node, by its default pixel
  abbrev pub changed : (Rgba → A) → Change → Forest A → Result (Forest A) TreeFault
  changed fresh (change.Layer id above place pixel) doc = answer (no_new id above place doc) (set_in above place (paint id new_look (fresh pixel) none) doc)
  changed fresh (change.Group id above place) doc = answer (no_new id above place doc) (set_in above place (group id new_look none none) doc)
  changed fresh (change.Remove id) doc = answer (no_node id doc) (without id doc)
  changed fresh (change.Place id above place) doc = answer (no_place id above place doc) (set_in above place (only id doc) (without id doc))
  changed fresh (change.Look id look) doc = answer (no_node id doc) (with_look id look doc)

-- The next of the children of a group, with its pixels.
use Rattle.std.proofs.Common.{◌≡◌, ℕ, suc, ◌∷◌, Some, None, inl, inr, sym, ap, ◌∙◌}
use Rattle.std.specs.Ordering.{nat_cmp}
use Rattle.std.specs.FinMap.{FinMap}
use Rattle.std.specs.Option.{unwrap_or}
use Rattle.pixel_core.specs.Rgba.{clear}
use Rattle.geom_core.proofs.Tests.{taken, kept}
use Rattle.doc_model.specs.declared.tree.Look.{Look}
use Rattle.doc_model.specs.Layers.{Layer, plain}
use Rattle.doc_model.specs.Forest.{upper}
use Rattle.doc_model.specs.Children.{look_in, child_in}
use Rattle.doc_model.specs.Changes.{takes}
use Rattle.doc_model.specs.Ids.{IsTree}
use Rattle.doc_model.specs.Picture.{Doc}
use Rattle.doc_model.proofs.NextChildren as kids
use Rattle.machine_model.specs.Groups.{cache, nodes_in, with_pixels}
use Rattle.machine_model.specs.Effects.{layer_in}
use Rattle.slot_work.specs.Gathering.{pixels_in}

-- where no child stands, none follows
pub no_child : (g k : ℕ) (t : Doc) → child_in g k t ≡ None → upper k (nodes_in g t) ≡ upper (suc k) (nodes_in g t)
no_child g k t e = kids.none_next k (nodes_in g t) e

-- the child at a place, and those above it
pub next_child : (caches : FinMap nat_cmp Layer) (t : Doc) (g k id : ℕ) (look : Look) → IsTree t → child_in g k t ≡ Some id → look_in id t ≡ Some look
    → with_pixels caches (upper k (nodes_in g t)) ≡ record { id = id; look = look; pixels = pixels_in caches t id } ∷ with_pixels caches (upper (suc k) (nodes_in g t))
next_child caches t g k id look tree e l = elim (kids.next_child t g k id look tree e l) [
  | inl is ↦ (let pixels : is.held ≡ pixels_in caches t id = sym (kept (takes id t) (cache caches id) (layer_in id t) is.paints ∙ ap (λ o. unwrap_or o (plain clear)) is.holds) in
      ap (with_pixels caches) is.here ∙ (λ j. record { id = id; look = look; pixels = pixels j } ∷ with_pixels caches (upper (suc k) (nodes_in g t))))
  | inr is ↦ (let pixels : cache caches id ≡ pixels_in caches t id = sym (taken (takes id t) (cache caches id) (layer_in id t) is.groups) in
      ap (with_pixels caches) is.here ∙ (λ j. record { id = id; look = look; pixels = pixels j } ∷ with_pixels caches (upper (suc k) (nodes_in g t))))
]

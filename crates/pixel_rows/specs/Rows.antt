-- Rows of pixels laid on others.
use Rattle.std.specs.Prelude.{◌≡◌, ℕ, ◌<◌, ◌≤◌, List, length, slice_index_or}
use Rattle.pixel_core.specs.declared.blending.Op.{Op}
use Rattle.pixel_core.specs.Rgba.{Rgba, clear}
use Rattle.pixel_core.specs.Canonical.{IsCanonical}
use Rattle.pixel_core.specs.Compose.{compose}

-- each new pixel is the source of its place laid on the old one, with the strength of its place
abbrev pub LaysRow : Op → (ℕ → Rgba) → (ℕ → ℕ) → List Rgba → List Rgba → Type 0
LaysRow op source strength old new = (k : ℕ) → k < length old → slice_index_or new k clear ≡ compose op (source k) (slice_index_or old k clear) (strength k)

-- the pixels from one place up to another are f of their places and what they were, the others are as they were
pub record ChangesPart (f : ℕ → Rgba → Rgba) (start end : ℕ) (old new : List Rgba) : Type 0 where
  pub before : (k : ℕ) → k < start → slice_index_or new k clear ≡ slice_index_or old k clear
  pub here : (k : ℕ) → start ≤ k → k < end → slice_index_or new k clear ≡ f k (slice_index_or old k clear)
  pub after : (k : ℕ) → end ≤ k → slice_index_or new k clear ≡ slice_index_or old k clear

-- the pixels from one place up to another are laid on as in a row, the others are as they were
abbrev pub LaysPart : Op → (ℕ → Rgba) → (ℕ → ℕ) → ℕ → ℕ → List Rgba → List Rgba → Type 0
LaysPart op source strength start end old new = ChangesPart (λ k d. compose op (source k) d (strength k)) start end old new

-- p at full strength has the effect of s with a strength
abbrev pub Dims : Rgba → Rgba → ℕ → Type 0
Dims p s strength = (op : Op) (d : Rgba) → compose op p d 255 ≡ compose op s d strength

-- a pixel whose alpha lies between these
pub record CoversWithin (least most : ℕ) (p : Rgba) : Type 0 where
  pub canonical : IsCanonical p
  pub not_below : least ≤ p.a
  pub not_above : p.a ≤ most

-- the alphas of these pixels lie between these
abbrev pub AllCoverWithin : ℕ → ℕ → List Rgba → Type 0
AllCoverWithin least most pixels = (k : ℕ) → k < length pixels → CoversWithin least most (slice_index_or pixels k clear)

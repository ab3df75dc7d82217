-- Laws of products of fractions and of composing.
use Rattle.std.specs.Prelude.{ℕ, ◌≡◌, ◌≢◌, ◌≤◌}
use Rattle.pixel_core.specs.declared.blending.Op.{Op}
use Rattle.pixel_core.specs.declared.blending.Op.TheVariants.{Over, Erase}
use Rattle.pixel_core.specs.Rgba.{Rgba, clear}
use Rattle.pixel_core.specs.Canonical.{IsCanonical}
use Rattle.pixel_core.specs.Compose.{compose, mul}

-- the fractions 255 / 255 and 0 / 255, and the order of two
pub record LawsOfMul : Type 0 where
  pub whole : (a : ℕ) → mul a 255 ≡ a
  pub nothing : (a : ℕ) → mul a 0 ≡ 0
  pub either_way : (a b : ℕ) → mul a b ≡ mul b a
  pub no_more : (a b : ℕ) → b ≤ 255 → mul a b ≤ a

-- canonical pixels compose to a canonical one
abbrev pub StaysCanonical : Type 0
StaysCanonical = (op : Op) (s d : Rgba) (m : ℕ) → IsCanonical s → IsCanonical d → m ≤ 255 → IsCanonical (compose op s d m)

-- a source of which no alpha is left under the strength, as with alpha 0 or strength 0, leaves the destination as it is
abbrev pub UnseenLeaves : Type 0
UnseenLeaves = (op : Op) (s d : Rgba) (m : ℕ) → mul s.a m ≡ 0 → IsCanonical d → compose op s d m ≡ d

-- an opaque source at full strength hides what it is laid over
abbrev pub OpaqueHides : Type 0
OpaqueHides = (s d : Rgba) → s.a ≡ 255 → IsCanonical d → compose Over s d 255 ≡ s

-- on a clear destination a source at full strength is as it is
abbrev pub OnClear : Type 0
OnClear = (op : Op) (s : Rgba) → op ≢ Erase → IsCanonical s → compose op s clear 255 ≡ s

-- an opaque source at full strength erases all
abbrev pub OpaqueErases : Type 0
OpaqueErases = (s d : Rgba) → s.a ≡ 255 → compose Erase s d 255 ≡ clear

-- Blocks of which the alphas tell the result.
use Rattle.std.proofs.Common.{◌≡◌, ◌≢◌, ℕ, ◌<◌, List, length, get_or, arith, ap, sym, ◌∙◌}
use Rattle.pixel_core.specs.declared.blending.Op.{Op}
use Rattle.pixel_core.specs.declared.blending.Op.TheVariants.{Over, Erase}
use Rattle.pixel_core.specs.Rgba.{Rgba, clear}
use Rattle.pixel_core.specs.Canonical.{IsCanonical}
use Rattle.pixel_core.specs.Compose.{compose}
use Rattle.pixel_core.proofs.Rounding.{whole}
use Rattle.pixel_core.proofs.ComposeLaws.{unseen_leaves, opaque_hides, on_clear}
use Rattle.pixel_rows.specs.Rows.{AllCoverWithin, LaysRow}

-- each pixel is canonical
abbrev pub EachCanonical : List Rgba → Type 0
EachCanonical pixels = (k : ℕ) → k < length pixels → IsCanonical (get_or pixels k clear)

-- the sources laid at full strength
abbrev pub LaysBlock : Op → List Rgba → List Rgba → List Rgba → Type 0
LaysBlock op sources old new = LaysRow op (λ k. get_or sources k clear) (λ _. 255) old new

-- clear sources change nothing
pub unseen_block : (op : Op) (sources row : List Rgba) (least most : ℕ) → length row ≡ length sources → most ≡ 0 → AllCoverWithin least most sources → EachCanonical row → LaysBlock op sources row row
unseen_block op sources row least most n e h known k t =
    let s = h k (omega (arith, n, t)) in
    let z : (get_or sources k clear).a ≡ 0 = omega (arith, s.not_above) in
    sym (unseen_leaves op (get_or sources k clear) (get_or row k clear) 255 (whole (get_or sources k clear).a ∙ z) (known k t))

-- sources that hide what they are laid over
pub hiding_block : (sources old : List Rgba) (least most : ℕ) → length old ≡ length sources → least ≡ 255 → AllCoverWithin least most sources → EachCanonical old → LaysBlock Over sources old sources
hiding_block sources old least most n e h known k t =
    let s = h k (omega (arith, n, t)) in
    let full : (get_or sources k clear).a ≡ 255 = omega (arith, s.not_below, s.canonical.a) in
    sym (opaque_hides (get_or sources k clear) (get_or old k clear) full (known k t))

-- sources on nothing
pub first_block : (op : Op) (sources old : List Rgba) (least most : ℕ) → length old ≡ length sources → op ≢ Erase → most ≡ 0 → EachCanonical sources → AllCoverWithin least most old → LaysBlock op sources old sources
first_block op sources old least most n o e known h k t =
    let d = h k t in
    let none : get_or old k clear ≡ clear = d.canonical.clear_where_0 (omega (arith, d.not_above)) in
    sym (ap (λ x. compose op (get_or sources k clear) x 255) none ∙ on_clear op (get_or sources k clear) o (known k (omega (arith, n, t))))

-- Parts of a tile, with children laid on them.
use Rattle.std.specs.Prelude.{◌≡◌, ℕ, ◌<◌, if◌then◌else◌}
use Rattle.tile_core.specs.Pixels.{Pixels, pixel_of}
use Rattle.tile_core.specs.Parts.{in_part}
use Rattle.doc_model.specs.declared.tree.Look.{Look}
use Rattle.doc_model.specs.Picture.{with_look}
use Rattle.compose_core.specs.declared.children.Given.{Given}
use Rattle.compose_core.specs.Children.{given_at}

-- the new tile has the child laid on the old one on a part, and the old one's pixels elsewhere
abbrev pub LaysChild : ℕ → ℕ → ℕ → ℕ → Look → Given → Pixels → Pixels → Type 0
LaysChild left top w h look given old new = (col row : ℕ) → col < 64 → pixel_of new col row ≡ (if in_part left top w h col row then with_look look (given_at col row given) (pixel_of old col row) else pixel_of old col row)

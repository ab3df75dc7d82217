-- The proofs of the laws.
use Rattle.std.proofs.Common.{◌≡◌, Bool, true, false, cond, sym, ap, ◌∙◌, refl}
use Rattle.std.specs.FinMap as map
use Rattle.pixel_core.specs.Rgba.{Rgba, clear}
use Rattle.pixel_core.specs.Compose.{on_paper}
use Rattle.geom_core.specs.Grid.{key_of, same_key}
use Rattle.geom_core.specs.Keys.{key_cmp_total}
use Rattle.tile_core.specs.Pixels.{pixel_at, pixel_or}
use Rattle.tile_core.proofs.TileLaws.{after_put}
use Rattle.frame_core.specs.Laws.{ShownAfterPut, PaperWhereNothing}
use Rattle.frame_core.proofs.OnPaper.{paper_shows}

colours_after : (b : Bool) (q r paper : Rgba) → on_paper (cond b q r) paper ≡ cond b (on_paper q paper) (on_paper r paper)
colours_after true q r paper = refl
colours_after false q r paper = refl

pub shown_after_put : ShownAfterPut
shown_after_put s k tile p =
    ap (λ o. on_paper (pixel_or o clear p) s.paper) (map.get-insert key_cmp_total s.tiles k tile (key_of p))
    ∙ ap (λ q. on_paper q s.paper) (after_put (same_key (key_of p) k) tile (map.get s.tiles (key_of p)) clear p)
    ∙ colours_after (same_key (key_of p) k) (pixel_at tile p) (pixel_or (map.get s.tiles (key_of p)) clear p) s.paper

pub paper_where_nothing : PaperWhereNothing
paper_where_nothing s p is e = ap (λ o. on_paper (pixel_or o clear p) s.paper) e ∙ sym (paper_shows s.paper is.opaque)

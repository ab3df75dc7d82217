-- What point operations leave of a device's tile.
use Rattle.std.proofs.Common.{◌≡◌, Bool, true, false, cond, Some, [], ◌∷◌, refl, sym, ap, ◌∙◌}
use Rattle.geom_core.specs.Areas.{Point}
use Rattle.geom_core.specs.Grid.{Key}
use Rattle.geom_core.proofs.Tests.{taken, kept}
use Rattle.tile_core.specs.Pixels.{Pixels, pixel_at}
use Rattle.doc_model.specs.Layers.{Layer, at}
use Rattle.doc_model.proofs.LayerLaws.{layer_ext}
use Rattle.doc_model.specs.Shots.{in_tile}
use Rattle.doc_model.specs.Strokes.{Jobs}
use Rattle.job_core.specs.Points.{Spot, LaysPoints, painted_in, all_painted_in}
use Rattle.paint_device.specs.InPlace.{LaysUnder}
use Rattle.paint_device.specs.Seen.{layer_of}
use Rattle.paint_device.specs.Sheets.{Sheet, sheet_at, with_under}
use Rattle.paint_device.proofs.Shown.{at-layer_of, default-layer_of}
use Rattle.paint_device.proofs.Writes.{seen_after_exchange}
use Rattle.desk_steps.specs.Tiles.{IsPaintedOn}
use Rattle.desk_steps.proofs.Archived.{ChangesTile, published_changes}
use Rattle.desk_steps.proofs.Lain.{tile_at}

-- they change that tile alone
pub painted_changes : (jobs : Jobs) (key : Key) (l : Layer) → ChangesTile key l (all_painted_in jobs key l)
painted_changes [] key l = record { default_pixel = refl; pixels = λ p out. refl }
painted_changes (j ∷ jobs) key l =
    let one : ChangesTile key l (painted_in j.1 key l) = published_changes j.1 l key l in
    let more : ChangesTile key (painted_in j.1 key l) (all_painted_in jobs key (painted_in j.1 key l)) = painted_changes jobs key (painted_in j.1 key l) in
    record { default_pixel = more.default_pixel ∙ one.default_pixel; pixels = λ p out. more.pixels p out ∙ one.pixels p out }

-- painted on the pixels that stand under their key
pub points_laid : (w : Spot) (s : Sheet) (before after : Pixels) → ((p : Point) → in_tile w.key p ≡ true → pixel_at before p ≡ sheet_at s p) → LaysPoints w before after → IsPaintedOn w s after
points_laid w s before after same lays p h = sym (lays (layer_of s) (λ p h. at-layer_of s p ∙ sym (same p h)) p h)

-- with that tile the layer has what was painted
pub painted_layer : (w : Spot) (s : Sheet) (t : Pixels) → IsPaintedOn w s t → layer_of (with_under s w.key (Some t)) ≡ all_painted_in w.jobs w.key (layer_of s)
painted_layer w s t is = layer_ext _ _
    (default-layer_of (with_under s w.key (Some t)) ∙ sym (changes.default_pixel ∙ default-layer_of s))
    (λ p. at-layer_of (with_under s w.key (Some t)) p ∙ seen_after_exchange s w.key (Some t) p ∙ go p (in_tile w.key p) refl)
  where
    changes : ChangesTile w.key (layer_of s) (all_painted_in w.jobs w.key (layer_of s))
    changes = painted_changes w.jobs w.key (layer_of s)

    go : (p : Point) (b : Bool) → in_tile w.key p ≡ b → cond (in_tile w.key p) (pixel_at t p) (sheet_at s p) ≡ at (all_painted_in w.jobs w.key (layer_of s)) p
    go p true h = taken (in_tile w.key p) _ _ h ∙ is p h
    go p false h = kept (in_tile w.key p) _ _ h ∙ sym (changes.pixels p h ∙ at-layer_of s p)

-- the same where it was painted in place
pub painted_in_place : (w : Spot) (old new : Sheet) → LaysUnder (LaysPoints w) old new w.key → layer_of new ≡ all_painted_in w.jobs w.key (layer_of old)
painted_in_place w old new l = ap layer_of l.new_is ∙ painted_layer w old l.after (points_laid w old l.before l.after (λ p h. tile_at old w.key l.before p h (sym l.was)) l.lays)

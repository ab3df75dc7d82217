use Rattle.std.proofs.Common.{◌≡◌, ◌∙◌, ap, sym, subst, length}
use Rattle.machine_model.specs.Groups.{cache}
use Rattle.group_caches.specs.Entries.{IsPlace, LacksBelow}
use Rattle.std.proofs.lemmas.Int.{to_z-of_z}
use Rattle.pixel_core.specs.Rgba.{clear}
use Rattle.geom_core.specs.Areas.{point}
use Rattle.doc_model.specs.Layers.{at}
use Rattle.doc_model.proofs.LayerLaws.{at-plain}
use Rattle.paint_device.specs.Sheets.{sheet_at}
use Rattle.paint_device.proofs.Shown.{at-layer_of}
use Rattle.group_caches.proofs.Finds.{place_cache, no_cache}
use Rattle.group_caches.proofs.caches.Caches.at.Goals as goal

pub returns-in-Some : goal.returns-in-Some
returns-in-Some c =
    let e : c.at.result ≡ sheet_at c.index.result.now.device (point c.args.x c.args.y) = simp (to_z-of_z, c.ranges.x, c.ranges.y) at c.at.ensures in
    e ∙ sym (at-layer_of c.index.result.now.device (point c.args.x c.args.y)) ∙ ap (λ l. at l (point c.args.x c.args.y)) (place_cache c.self.inside.places.items c.in-Some.i c.args.group c.index.result.now c.index.result.now (subst (λ ps. IsPlace c.args.group ps c.in-Some.i) c.deref.ensures.value c.in-Some.ensures.some) c.index.ensures ∙ ap (λ m. cache m c.args.group) c.self.view_is)

pub returns-in-None : goal.returns-in-None
returns-in-None c = sym (at-plain clear (point c.args.x c.args.y)) ∙ ap (λ l. at l (point c.args.x c.args.y)) (no_cache c.self.inside.places.items c.args.group (subst (λ ps. LacksBelow c.args.group ps (length ps)) c.deref.ensures.value c.in-None.ensures.none) ∙ ap (λ m. cache m c.args.group) c.self.view_is)

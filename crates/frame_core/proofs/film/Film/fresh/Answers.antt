use Rattle.std.proofs.Common.{◌≡◌, ◌<◌, ◌+◌, Some, length, refl, sym, ap, ◌∙◌, arith}
use Rattle.std.specs.Prelude.{slice_get}
use Rattle.std.proofs.lemmas.Option.{slice_get_read}
use Rattle.frame_core.proofs.film.Film.fresh.Goals as goal

pub returns : goal.returns
returns c k before s e was is =
    let fresh = c.self.inside.fresh.items in
    let marks = c.index.result.now in
    let next : c.args.i ≡ k + 1 = omega (arith, e) in
    let many : length c.self.inside.frames.items ≡ length c.args.self.now = ap length c.self.view_is in
    let inside : c.args.i < length fresh = omega (arith, c.requires, c.self.invariant.marks, many) in
    let here : slice_get fresh c.args.i ≡ Some marks = slice_get_read fresh (length fresh) c.args.i marks refl inside c.index.ensures in
    c.self.invariant.renewed k before s marks (ap (λ v. slice_get v k) c.self.view_is ∙ was)
    (ap (λ v. slice_get v (k + 1)) c.self.view_is ∙ ap (slice_get c.args.self.now) (sym next) ∙ is) (ap (slice_get fresh) (sym next) ∙ here)

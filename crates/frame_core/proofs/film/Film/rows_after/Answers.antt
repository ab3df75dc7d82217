use Rattle.std.proofs.Common.{◌≡◌, ◌-◌, Some, get_or, length, refl, sym, ap, ◌∙◌}
use Rattle.std.specs.Prelude.{slice_get}
use Rattle.std.proofs.lemmas.Option.{slice_get_read}
use Rattle.geom_core.proofs.Tests.{some_same}
use Rattle.frame_core.specs.Frames.{rows_colours}
use Rattle.frame_core.proofs.Films.{shows_before}
use Rattle.frame_core.proofs.film.Film.rows_after.Goals as goal

pub rows_after-requires-clause-inside : goal.rows_after-requires-clause-inside
rows_after-requires-clause-inside c =
    let frame = c.index.result.now in
    let here : slice_get c.args.self.now c.args.i ≡ Some frame = slice_get_read c.args.self.now (length c.args.self.now) c.args.i frame refl c.requires.there (c.index.ensures ∙ ap (λ v. get_or v c.args.i frame) c.self.view_is) in
    (c.requires.band frame here).0

pub rows_after-requires-clause-whole : goal.rows_after-requires-clause-whole
rows_after-requires-clause-whole c =
    let frame = c.index.result.now in
    let here : slice_get c.args.self.now c.args.i ≡ Some frame = slice_get_read c.args.self.now (length c.args.self.now) c.args.i frame refl c.requires.there (c.index.ensures ∙ ap (λ v. get_or v c.args.i frame) c.self.view_is) in
    (c.requires.band frame here).1

pub rows_after-requires-clause-shown : goal.rows_after-requires-clause-shown
rows_after-requires-clause-shown c =
    let before = c.index-2.result.now in
    shows_before c.args.self.now c.args.i c.args.top c.args.n before c.args.band.now c.requires.follows c.requires.there (c.index-2.ensures ∙ ap (λ v. get_or v (c.args.i - 1) before) c.self.view_is) c.requires.shown

pub returns : goal.returns
returns c s at =
    let frame = c.index.result.now in
    let here : slice_get c.args.self.now c.args.i ≡ Some frame = slice_get_read c.args.self.now (length c.args.self.now) c.args.i frame refl c.requires.there (c.index.ensures ∙ ap (λ v. get_or v c.args.i frame) c.self.view_is) in
    c.rows_after.ensures ∙ ap (λ v. rows_colours v c.args.top c.args.n) (some_same frame s (sym here ∙ at))

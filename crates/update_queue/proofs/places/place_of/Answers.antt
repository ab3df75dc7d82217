use Rattle.std.proofs.Common.{◌≡◌, true, Some, length, refl, sym, ◌∙◌}
use Rattle.std.specs.Prelude.{slice_get}
use Rattle.std.proofs.lemmas.Option.{slice_get_read}
use Rattle.update_queue.proofs.Elements.{position_is}
use Rattle.update_queue.proofs.Joining.{fits, fitting_first}
use Rattle.update_queue.proofs.places.place_of.Goals as goal

pub returns-then-takes_in : goal.returns-then-takes_in
returns-then-takes_in c =
    let at : slice_get c.args.patches.now c.args.guess ≡ Some c.index-patches-guess.result = slice_get_read c.args.patches.now (length c.args.patches.now) c.args.guess c.index-patches-guess.result refl c.if-guess-patches.true c.index-patches-guess.is in
    let fitting : fits c.args.walk c.args.part.now c.index-patches-guess.result ≡ true = sym c.takes_in.ensures ∙ c.if-takes_in.true in
    sym (position_is (fits c.args.walk c.args.part.now) c.args.patches.now c.args.guess c.if-guess-patches.true (fitting_first c.args.walk c.args.part.now c.args.patches.now c.args.guess c.index-patches-guess.result c.requires.unlike at fitting))

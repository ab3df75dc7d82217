use Rattle.std.proofs.Common.{◌≡◌, ◌-◌, ◌++◌, ◌<◌, Some, length, get_or, vec_len, sym, ap, ◌∙◌, arith}
use Rattle.std.specs.Prelude.{slice_get, option_to_list}
use Rattle.std.proofs.lemmas.Option.{slice_get_within, get_or_from_slice_get}
use Rattle.frame_core.specs.declared.ply.Ply.TheVariants.{Open}
use Rattle.filmed_caches.proofs.PliesAdded.{group_ended, group_left_out}
use Rattle.filmed_caches.proofs.plies.close.Goals as goal

pub returns-then-ends_open : goal.returns-then-ends_open
returns-then-ends_open c =
    let xs = c.args.plies.now.items in
    let last : slice_get xs (length xs - 1) ≡ Some Open = ap (λ ys. slice_get ys (length ys - 1)) (sym c.deref.ensures.value) ∙ c.ends_open.ensures.0 c.if-ends_open.true in
    let some : length xs - 1 < length xs = slice_get_within xs (length xs - 1) Open last in
    let many : vec_len c.args.plies.now ≡ length xs = omega (arith, c.args.plies.now.ok.0) in
    let gone : c.pop.result ≡ Some Open = c.pop.ensures.value Open (omega arith) ∙ ap (λ n. Some (get_or xs (n - 1) Open)) many ∙ ap Some (get_or_from_slice_get xs (length xs - 1) Open Open last) in
    λ doc key. group_left_out doc key c.args.look xs c.pop.new.self.items c.requires (c.pop.ensures.items ∙ ap (λ o. c.pop.new.self.items ++ option_to_list o) gone)

pub returns : goal.returns
returns c = λ doc key. group_ended doc key c.args.look c.args.plies.now.items c.push.new.self.items (omega arith) c.requires c.in_ok-push.ensures.items

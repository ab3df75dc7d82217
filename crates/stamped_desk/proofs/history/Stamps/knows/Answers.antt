use Rattle.std.proofs.Common.{◌<◌, ℕ, List, length, sym, ◌∙◌, ap, subst, arith, refl}
use Rattle.std.specs.Prelude.{slice_get}
use Rattle.std.proofs.lemmas.Bool.Decides.{nat_tests}
use mathlib.Core.List.{IsPrefix}
use Rattle.stamped_desk.specs.Marks.{Mark}
use Rattle.stamped_desk.proofs.Prefixes.{both_at}
use Rattle.stamped_desk.proofs.history.Stamps.knows.Goals as goal

pub returns-clause-value : goal.returns-clause-value
returns-clause-value g c =
    let all = c.learn.new.self.log in
    let mine = c.self.inside.seen.log in
    let number : ℕ = c.stamp.inside.number in
    let these : IsPrefix mine all = subst (λ (l : List g.row.T.Denot). IsPrefix l all) (ap (λ s. s.log) c.again-both.ensures) c.learn.ensures.2 in
    λ h.
    let less : number < length mine = grind (arith, nat_tests, h, c.self.invariant.0) in
    ap (λ (l : List g.row.T.Denot). slice_get l c.args.stamp.now.number) (sym c.self.view_is)
    ∙ ap (slice_get mine) (ap (λ (m : Mark g.row.T.Denot). m.number) (sym c.stamp.view_is))
    ∙ both_at mine c.stamp.inside.seen.log all number number refl less c.stamp.invariant.0 these c.learn.ensures.3
    ∙ ap (λ (m : Mark g.row.T.Denot). m.value) c.stamp.view_is

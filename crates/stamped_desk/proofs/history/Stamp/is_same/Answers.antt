use Rattle.std.proofs.Common.{◌≡◌, List, sym, ◌∙◌, ap, subst, arith}
use Rattle.std.proofs.lemmas.Bool.Decides.{nat_tests}
use mathlib.Core.List.{IsPrefix}
use Rattle.stamped_desk.specs.Marks.{Mark}
use Rattle.stamped_desk.proofs.Prefixes.{both_at}
use Rattle.stamped_desk.proofs.history.Stamp.is_same.Goals as goal

pub returns-clause-same : goal.returns-clause-same
returns-clause-same g c =
    let all = c.learn.new.self.log in
    let this : IsPrefix c.self.inside.seen.log all = subst (λ (l : List g.row.T.Denot). IsPrefix l all) (ap (λ s. s.log) c.again-both.ensures) c.learn.ensures.2 in
    λ h.
    let one : c.self.inside.number ≡ c.other.inside.number = grind (arith, nat_tests, h) in
    ap (λ (m : Mark g.row.T.Denot). m.value) (sym c.self.view_is)
    ∙ both_at c.self.inside.seen.log c.other.inside.seen.log all c.self.inside.number c.other.inside.number one c.self.invariant.0 c.other.invariant.0 this c.learn.ensures.3
    ∙ ap (λ (m : Mark g.row.T.Denot). m.value) c.other.view_is

use Rattle.std.proofs.Common.{rules, ◌≡◌, ◌+◌, Some, None, true, length, [], ◌∷◌, ◌++◌, sym, ap, ◌∙◌, arith}
use Rattle.doc_model.specs.Strokes.{runs}
use Rattle.doc_model.specs.Searches.{first_conflicting}
use Rattle.stroke_core.specs.Fed.{Fed, plus}
use Rattle.stroke_core.specs.Marks.{marks_of}
use Rattle.stroke_core.proofs.RunFacts.{first_told, first_outside, in_run, not_in_run}
use Rattle.stroke_core.proofs.stroke.OpenStroke.first_conflict.Goals as goal

pub returns-in_default : goal.returns-in_default
returns-in_default c = λ kind job m. sym (ap (plus 1) (first_outside c.args.self.now.jobs (kind, job) (not_in_run (kind, job) (sym c.in_default.is ∙ m))))

pub returns-in_err-place : goal.returns-in_err-place
returns-in_err-place c = λ kind job m.
    let r : (runs kind ≡ true) × (c.in-Some.footprint ≡ marks_of (kind, job)) = in_run c.in-Some.footprint (kind, job) (sym c.in-Some.is ∙ m) in
    let none : c.from_residual.result ≡ plus 1 (plus c.self.inside.start None) = search rules in
    none
    ∙ first_told c.self.inside.jobs.items c.self.inside.footprints c.self.inside.start kind job c.in-Some.footprint None c.self.invariant r.0 r.1 (sym c.in_err-place.was ∙ c.first_clash.ensures)
    ∙ ap (λ (s : Fed). plus 1 (first_conflicting (s.jobs ++ (kind, job) ∷ []) (length s.jobs))) c.self.view_is

pub returns : goal.returns
returns c = λ kind job m.
    let r : (runs kind ≡ true) × (c.in-Some.footprint ≡ marks_of (kind, job)) = in_run c.in-Some.footprint (kind, job) (sym c.in-Some.is ∙ m) in
    let same : (c.self.inside.start + c.in_ok-place.place + 1) ≡ (1 + (c.self.inside.start + c.in_ok-place.place)) = omega arith in
    ap Some same
    ∙ first_told c.self.inside.jobs.items c.self.inside.footprints c.self.inside.start kind job c.in-Some.footprint (Some c.in_ok-place.place) c.self.invariant r.0 r.1 (sym c.in_ok-place.was ∙ c.first_clash.ensures)
    ∙ ap (λ (s : Fed). plus 1 (first_conflicting (s.jobs ++ (kind, job) ∷ []) (length s.jobs))) c.self.view_is

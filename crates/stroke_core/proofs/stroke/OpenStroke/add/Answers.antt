use Rattle.std.proofs.Common.{rules, ◌≡◌, ◌+◌, Some, None, length, [], ◌∷◌, ◌++◌, sym, ap, ◌∙◌, subst, arith}
use Rattle.std.proofs.lemmas.Grind.{common_steps}
use Rattle.doc_model.specs.Strokes.{conflict}
use Rattle.stroke_core.specs.Fed.{Fed, StandsFor, found}
use Rattle.stroke_core.proofs.MoreJobs.{found_none, found_some, plus_none, stands_added, stands_refused, stands_still}
use Rattle.stroke_core.proofs.stroke.OpenStroke.add.Goals as goal

pub returns-in-Some-clause-stands : goal.returns-in-Some-clause-stands
returns-in-Some-clause-stands c = λ fed h _.
    let e : c.args.self.now.overlap ≡ Some (c.in-Some.first, c.in-Some.second) = search rules in
    stands_still fed (c.args.kind, c.args.job) c.args.self.now (c.in-Some.first, c.in-Some.second) h e

pub returns-in-Some-first_conflict-clause-pair : goal.returns-in-Some-first_conflict-clause-pair
returns-in-Some-first_conflict-clause-pair c = λ first second same.
    let none : c.args.self.now.overlap ≡ None = search rules in
    let clear : conflict c.args.self.now.jobs ≡ None = subst (λ (s : Fed). conflict s.jobs ≡ None) c.self.view_is c.self.invariant.clear in
    let len : c.len.result ≡ length c.args.self.now.jobs = grind (arith, common_steps) in
    let one : c.in-Some-first_conflict.first ≡ first = cc in
    let two : c.len.result + 1 ≡ second = cc in
    found_some c.args.self.now (c.args.kind, c.args.job) c.in-Some-first_conflict.first none clear (sym c.in-Some-first_conflict.is ∙ c.first_conflict.ensures c.args.kind c.args.job c.footprint_in_run-footprint.ensures)
    ∙ (λ i. Some (one i, sym len i + 1)) ∙ ap (λ n. Some (first, n)) two

pub returns-in-Some-first_conflict-clause-stands : goal.returns-in-Some-first_conflict-clause-stands
returns-in-Some-first_conflict-clause-stands c = λ fed h _.
    let none : c.args.self.now.overlap ≡ None = search rules in
    let clear : conflict c.args.self.now.jobs ≡ None = subst (λ (s : Fed). conflict s.jobs ≡ None) c.self.view_is c.self.invariant.clear in
    let len : length c.args.self.now.jobs ≡ c.len.result = grind (arith, common_steps) in
    let told : found c.args.self.now (c.args.kind, c.args.job) ≡ Some (c.in-Some-first_conflict.first, c.len.result + 1) = found_some c.args.self.now (c.args.kind, c.args.job) c.in-Some-first_conflict.first none clear (sym c.in-Some-first_conflict.is ∙ c.first_conflict.ensures c.args.kind c.args.job c.footprint_in_run-footprint.ensures) ∙ ap (λ n. Some (c.in-Some-first_conflict.first, n + 1)) len in
    subst (λ (s : Fed). StandsFor (fed ++ (c.args.kind, c.args.job) ∷ []) (record s { overlap = Some (c.in-Some-first_conflict.first, c.len.result + 1) })) (sym c.self.view_is) (stands_refused fed (c.args.kind, c.args.job) c.args.self.now (c.in-Some-first_conflict.first, c.len.result + 1) h told)

pub returns-clause-clear : goal.returns-clause-clear
returns-clause-clear c =
    let none : c.args.self.now.overlap ≡ None = search rules in
    let clear : conflict c.args.self.now.jobs ≡ None = subst (λ (s : Fed). conflict s.jobs ≡ None) c.self.view_is c.self.invariant.clear in
    let last : None ≡ c.first_conflict.result = search rules in
    found_none c.args.self.now (c.args.kind, c.args.job) none clear (plus_none 1 _ (last ∙ c.first_conflict.ensures c.args.kind c.args.job c.footprint_in_run-footprint.ensures))

pub returns-clause-stands : goal.returns-clause-stands
returns-clause-stands c = λ fed h _.
    let none : c.args.self.now.overlap ≡ None = search rules in
    let clear : conflict c.args.self.now.jobs ≡ None = subst (λ (s : Fed). conflict s.jobs ≡ None) c.self.view_is c.self.invariant.clear in
    let last : None ≡ c.first_conflict.result = search rules in
    let told : found c.args.self.now (c.args.kind, c.args.job) ≡ None = found_none c.args.self.now (c.args.kind, c.args.job) none clear (plus_none 1 _ (last ∙ c.first_conflict.ensures c.args.kind c.args.job c.footprint_in_run-footprint.ensures)) in
    let ok : c.keep.new.self ≡ record c.args.self.now { jobs = c.args.self.now.jobs ++ (c.args.kind, c.args.job) ∷ [] } = search rules in
    rw ok (stands_added fed (c.args.kind, c.args.job) c.args.self.now h told)

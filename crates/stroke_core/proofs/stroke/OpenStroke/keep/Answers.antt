use Rattle.std.proofs.Common.{◌≡◌, ◌<◌, None, length, [], ◌∷◌, ◌++◌, cond, sym, subst, arith, true, false, ◌∙◌}
use Rattle.doc_model.specs.Strokes.{runs}
use Rattle.doc_model.specs.Searches.{first_conflicting}
use Rattle.stroke_core.specs.Fed.{Fed}
use Rattle.stroke_core.specs.Marks.{marks_of}
use Rattle.std.proofs.lemmas.Grind.{common_steps}
use Rattle.stroke_core.proofs.RunFacts.{in_run, not_in_run, kept_more, kept_same}
use Rattle.stroke_core.proofs.stroke.OpenStroke.keep.Goals as goal
use Rattle.stroke_core.proofs.stroke.OpenStroke.keep.Goals.{in-Some+in_ok-push-in-Some, in-None}

pub invariant_of-self-2 : goal.invariant_of-self-2
invariant_of-self-2 c =
    let room : length c.self.inside.jobs.items < 4096 = subst (λ (s : Fed). length s.jobs < 4096) (sym c.self.view_is) c.requires.room in
    let clear : first_conflicting (c.self.inside.jobs.items ++ (c.args.kind, c.args.job) ∷ []) (length c.self.inside.jobs.items) ≡ None = subst (λ (s : Fed). first_conflicting (s.jobs ++ (c.args.kind, c.args.job) ∷ []) (length s.jobs) ≡ None) (sym c.self.view_is) c.requires.clear in
    let jobs : c.push_reserved.new.items.items ≡ c.self.inside.jobs.items ++ (c.args.kind, c.args.job) ∷ [] = grind (arith, common_steps) in
    let marks : c.match-footprint.self-inside.footprints ≡ cond (runs c.args.kind) (c.self.inside.footprints ++ marks_of (c.args.kind, c.args.job) ∷ []) [] = elim c.match-footprint.branch [
      | in-Some+in_ok-push-in-Some w ↦ (let r : (runs c.args.kind ≡ true) × (w.in-Some.footprint ≡ marks_of (c.args.kind, c.args.job)) = in_run w.in-Some.footprint (c.args.kind, c.args.job) (sym w.in-Some.is ∙ c.requires.marks) in rw (r.0, ← r.1) (grind (arith, common_steps)))
      | in-None w ↦ (let r : runs c.args.kind ≡ false = not_in_run (c.args.kind, c.args.job) (sym w.in-None.is ∙ c.requires.marks) in rw r (grind (arith, common_steps)))
    ] in
    let start : c.run_start-self-inside.result ≡ cond (runs c.args.kind) c.self.inside.start (length (c.self.inside.jobs.items ++ (c.args.kind, c.args.job) ∷ [])) = grind (arith, common_steps) in
    kept_same _ _ _ _ _ _ (kept_more c.self.inside.jobs.items c.self.inside.footprints c.self.inside.start (c.args.kind, c.args.job) c.self.invariant room c.requires.checked clear) jobs marks start

use Rattle.std.proofs.Common.{◌≡◌, ◌++◌, ◌∷◌, [], Result, Ok, Err, Some, Bool, true, false, refl, sym, ap, subst, ◌∙◌}
use Rattle.std.specs.Prelude.{IfOk}
use Rattle.geom_core.specs.declared.NoMemory.{NoMemory}
use Rattle.doc_model.specs.declared.command.Command.{Command}
use Rattle.doc_model.specs.Lawful.{may_follow}
use Rattle.doc_model.specs.Strokes.{entries}
use Rattle.entry_queue.specs.Pushed.{pushed}
use Rattle.machine_model.specs.Next.{when}
use Rattle.trace_lines.specs.declared.line.Line.{Line}
use Rattle.trace_state.specs.Taken.{Taken}
use Rattle.trace_core.specs.Outline.{Outline}
use Rattle.trace_core.specs.Parts.{parts}
use Rattle.trace_core.specs.Following.{happens}
use Rattle.trace_core.specs.Moves.{Follows, fed, with_command}
use Rattle.trace_core.proofs.machine.OutlinedMachine.take.Goals as goal

-- what happens at a line is what its form says
by_form : (line form : Line) (r : Result Bool NoMemory) (old new : Outline) → line ≡ form → Follows r (happens old form) old new → Follows r (happens old line) old new
by_form line form r old new is f = subst (λ l. Follows r (happens old l) old new) (sym is) f

-- what a command leaves of what was fed is what its event leaves of the outline
fed_follows : (r : Result Bool NoMemory) (o : Outline) (c : Command) (t : Taken) → IfOk r (λ may. may ≡ may_follow (entries o.fed) c) → (r ≡ Ok true → t ≡ record { fed = o.fed ++ c ∷ []; left = pushed o.left c }) → (r ≡ Ok false → t ≡ record { fed = o.fed; left = o.left }) → Follows r (fed o c) o (record o { fed = t.fed; left = t.left })
fed_follows (Ok true) o c t may more same = ap (λ b. when b (with_command o c)) (sym may) ∙ ap (λ (x : Taken). Some (record o { fed = x.fed; left = x.left })) (sym (more refl))
fed_follows (Ok false) o c t may more same = (ap (λ b. when b (with_command o c)) (sym may), ap (λ (x : Taken). record o { fed = x.fed; left = x.left }) (same refl))
fed_follows (Err e) o c t may more same = tt

pub returns-in-Feed : goal.returns-in-Feed
returns-in-Feed c =
    let o : Outline = parts c.args.self.now in
    by_form _ _ c.feed.result o (record o { fed = c.feed.new.self.fed; left = c.feed.new.self.left }) c.in-Feed.is (fed_follows c.feed.result o _ c.feed.new.self c.feed.ensures.may c.feed.ensures.fed c.feed.ensures.same)

pub returns-in-Outside : goal.returns-in-Outside
returns-in-Outside c = by_form _ _ (Ok false) (parts c.args.self.now) (parts c.args.self.now) c.in-Outside.is (refl, refl)

pub returns-in-Step : goal.returns-in-Step
returns-in-Step c = by_form _ _ c.step.result (parts c.args.self.now) (parts c.step.new.self) c.in-Step.is c.step.ensures

pub returns-in-Start : goal.returns-in-Start
returns-in-Start c = by_form _ _ (Ok c.start.result) (parts c.args.self.now) (parts c.start.new.self) c.in-Start.is c.start.ensures

pub returns-in-Publish : goal.returns-in-Publish
returns-in-Publish c = by_form _ _ c.publish.result (parts c.args.self.now) (parts c.publish.new.self) c.in-Publish.is c.publish.ensures

pub returns-in-End : goal.returns-in-End
returns-in-End c = by_form _ _ (Ok c.end.result) (parts c.args.self.now) (parts c.end.new.self) c.in-End.is c.end.ensures

pub returns-in-Walk : goal.returns-in-Walk
returns-in-Walk c = by_form _ _ c.walk.result (parts c.args.self.now) (parts c.walk.new.self) c.in-Walk.is c.walk.ensures

pub returns-in-Put : goal.returns-in-Put
returns-in-Put c = by_form _ _ c.put.result (parts c.args.self.now) (parts c.put.new.self) c.in-Put.is c.put.ensures

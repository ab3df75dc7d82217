use Rattle.std.proofs.Common.{◌≡◌, ◌++◌, ◌∷◌, [], drop, sym, ap, subst, ◌∙◌}
use Rattle.live_view.specs.declared.update.WallChange.TheVariants.{Lay, Mark}
use Rattle.live_view.specs.Rule.{Stands}
use Rattle.live_view.specs.Walls.{updates_in}
use Rattle.live_view.proofs.Keeping.{appended, came_back, stands_as, marks_as, pending_marked}
use Rattle.live_view.proofs.press.Press.mark.Goals as goal
use Rattle.live_view.proofs.press.Press.mark.Goals.{in-Ok, in-Err}

pub returns-after-append-clause-pending : goal.returns-after-append-clause-pending
returns-after-append-clause-pending g c = elim c.match-append.branch [
  | in-Ok w ↦ ap (λ p. updates_in (drop p.writer.behind p.writer.log.items)) w.self-is ∙ pending_marked (drop c.args.self.now.writer.behind c.args.self.now.writer.log.items) (drop c.append.new.self.behind c.append.new.self.log.items) c.past.result (appended c.append.result w.in-Ok.field-0 (Mark c.past.result) (drop c.args.self.now.writer.behind c.args.self.now.writer.log.items) (drop c.append.new.self.behind c.append.new.self.log.items) w.in-Ok.is c.append.ensures.pending)
  | in-Err w ↦ ap (λ p. updates_in (drop p.writer.behind p.writer.log.items)) w.self-is ∙ ap updates_in (came_back c.append.result w.in-Err.field-0 (Mark c.past.result) (drop c.args.self.now.writer.behind c.args.self.now.writer.log.items) (drop c.append.new.self.behind c.append.new.self.log.items) w.in-Err.is c.append.ensures.pending)
]

pub returns-after-append-clause-stands : goal.returns-after-append-clause-stands
returns-after-append-clause-stands g c = elim c.match-append.branch [
  | in-Ok w ↦ subst (λ p. Stands g.K.Naming.book p.writer.desk.shown.value p.line (drop p.writer.behind p.writer.log.items) p.stage p.count) (sym w.self-is)
      (marks_as g.K.Naming.book c.args.self.now.writer.desk.shown.value c.append.new.self.desk.shown.value c.args.self.now.line c.past.result (drop c.args.self.now.writer.behind c.args.self.now.writer.log.items) (drop c.append.new.self.behind c.append.new.self.log.items) c.args.self.now.stage c.args.self.now.count c.in-Listed.is (ap (λ d. d.shown.value) c.append.ensures.desk) c.past.ensures
      (appended c.append.result w.in-Ok.field-0 (Mark c.past.result) (drop c.args.self.now.writer.behind c.args.self.now.writer.log.items) (drop c.append.new.self.behind c.append.new.self.log.items) w.in-Ok.is c.append.ensures.pending) c.requires.stands)
  | in-Err w ↦ subst (λ p. Stands g.K.Naming.book p.writer.desk.shown.value p.line (drop p.writer.behind p.writer.log.items) p.stage p.count) (sym w.self-is)
      (stands_as g.K.Naming.book c.args.self.now.writer.desk.shown.value c.append.new.self.desk.shown.value c.args.self.now.line (drop c.args.self.now.writer.behind c.args.self.now.writer.log.items) (drop c.append.new.self.behind c.append.new.self.log.items) c.args.self.now.stage c.args.self.now.count (ap (λ d. d.shown.value) c.append.ensures.desk)
      (came_back c.append.result w.in-Err.field-0 (Mark c.past.result) (drop c.args.self.now.writer.behind c.args.self.now.writer.log.items) (drop c.append.new.self.behind c.append.new.self.log.items) w.in-Err.is c.append.ensures.pending) c.requires.stands)
]

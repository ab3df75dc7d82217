use Rattle.std.proofs.Common.{◌≡◌, ◌++◌, ◌∷◌, [], drop, sym, ap, subst, ◌∙◌}
use Rattle.std.specs.Prelude.{OnOk}
use Rattle.live_view.specs.declared.update.WallChange.TheVariants.{Lay, Mark}
use Rattle.live_view.specs.Rule.{Stands}
use Rattle.live_view.specs.Walls.{updates_in}
use Rattle.live_view.proofs.Keeping.{appended, came_back, stands_as, puts_as, pending_more}
use Rattle.live_view.proofs.press.Press.put.Goals as goal
use Rattle.live_view.proofs.press.Press.put.Goals.{in-Ok, in-Err}

pub returns-after-append-clause-stands : goal.returns-after-append-clause-stands
returns-after-append-clause-stands g c = elim c.match-append.branch [
  | in-Ok w ↦ subst (λ p. Stands g.K.Naming.book p.writer.desk.shown.value p.line (drop p.writer.behind p.writer.log.items) p.stage p.count) (sym w.self-is)
      (puts_as g.K.Naming.book c.args.self.now.writer.desk.shown.value c.append.new.self.desk.shown.value c.args.self.now.line (drop c.args.self.now.writer.behind c.args.self.now.writer.log.items) (drop c.append.new.self.behind c.append.new.self.log.items) c.args.self.now.stage c.args.self.now.count c.args.update c.in-Open.is (ap (λ d. d.shown.value) c.append.ensures.desk)
      (appended c.append.result w.in-Ok.field-0 (Lay c.args.update) (drop c.args.self.now.writer.behind c.args.self.now.writer.log.items) (drop c.append.new.self.behind c.append.new.self.log.items) w.in-Ok.is c.append.ensures.pending) c.requires.stands c.requires.few)
  | in-Err w ↦ subst (λ p. Stands g.K.Naming.book p.writer.desk.shown.value p.line (drop p.writer.behind p.writer.log.items) p.stage p.count) (sym w.self-is)
      (stands_as g.K.Naming.book c.args.self.now.writer.desk.shown.value c.append.new.self.desk.shown.value c.args.self.now.line (drop c.args.self.now.writer.behind c.args.self.now.writer.log.items) (drop c.append.new.self.behind c.append.new.self.log.items) c.args.self.now.stage c.args.self.now.count (ap (λ d. d.shown.value) c.append.ensures.desk)
      (came_back c.append.result w.in-Err.field-0 (Lay c.args.update) (drop c.args.self.now.writer.behind c.args.self.now.writer.log.items) (drop c.append.new.self.behind c.append.new.self.log.items) w.in-Err.is c.append.ensures.pending) c.requires.stands)
]

pub returns-after-append-clause-ok : goal.returns-after-append-clause-ok
returns-after-append-clause-ok g c = elim c.match-append.branch [
  | in-Ok w ↦ subst (λ r. OnOk r (updates_in (drop c.match-append.self.writer.behind c.match-append.self.writer.log.items) ≡ updates_in (drop c.args.self.now.writer.behind c.args.self.now.writer.log.items) ++ c.args.update ∷ [])) (sym w.result-is)
      (ap (λ p. updates_in (drop p.writer.behind p.writer.log.items)) w.self-is ∙ pending_more (drop c.args.self.now.writer.behind c.args.self.now.writer.log.items) (drop c.append.new.self.behind c.append.new.self.log.items) c.args.update (appended c.append.result w.in-Ok.field-0 (Lay c.args.update) (drop c.args.self.now.writer.behind c.args.self.now.writer.log.items) (drop c.append.new.self.behind c.append.new.self.log.items) w.in-Ok.is c.append.ensures.pending))
  | in-Err w ↦ subst (λ r. OnOk r (updates_in (drop c.match-append.self.writer.behind c.match-append.self.writer.log.items) ≡ updates_in (drop c.args.self.now.writer.behind c.args.self.now.writer.log.items) ++ c.args.update ∷ [])) (sym w.result-is) tt
]

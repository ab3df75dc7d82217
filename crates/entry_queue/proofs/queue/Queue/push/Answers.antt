use Rattle.std.proofs.Common.{rules, ◌≡◌, [], ◌∷◌, ◌++◌, sym, subst}
use Rattle.std.specs.Prelude.{OnOk}
use Rattle.entry_queue.specs.declared.entry.Entry.TheVariants.{Other}
use Rattle.entry_queue.specs.Pushed.{pushed}
use Rattle.entry_queue.proofs.Indexed.{on_ok, pushed_other}
use Rattle.entry_queue.proofs.Standing.{stands_pushed}
use Rattle.entry_queue.proofs.queue.Queue.push.Goals as goal

pub returns-in-Stroke-clause-stands : goal.returns-in-Stroke-clause-stands
returns-in-Stroke-clause-stands c = λ before l h.
    let ok : OnOk c.open.result (c.open.new.self ≡ record c.args.self.now { left = pushed c.args.self.now.left c.args.command.now }) = search rules in
    on_ok c.open.result (c.open.new.self ≡ record c.args.self.now { left = pushed c.args.self.now.left c.args.command.now }) _ (λ e. rw e (stands_pushed before c.args.command.now c.args.self.now l h)) ok

pub returns-in-Add-clause-stands : goal.returns-in-Add-clause-stands
returns-in-Add-clause-stands c = λ before l h.
    let ok : OnOk c.add.result (c.add.new.self ≡ record c.args.self.now { left = pushed c.args.self.now.left c.args.command.now }) = search rules in
    on_ok c.add.result (c.add.new.self ≡ record c.args.self.now { left = pushed c.args.self.now.left c.args.command.now }) _ (λ e. rw e (stands_pushed before c.args.command.now c.args.self.now l h)) ok

pub returns-in-End-clause-stands : goal.returns-in-End-clause-stands
returns-in-End-clause-stands c = λ before l h.
    let e : c.close.new.self ≡ record c.args.self.now { left = pushed c.args.self.now.left c.args.command.now } = search rules in
    rw e (stands_pushed before c.args.command.now c.args.self.now l h)

pub returns-in-Cancel-clause-stands : goal.returns-in-Cancel-clause-stands
returns-in-Cancel-clause-stands c = λ before l h.
    let e : c.close-in-Cancel.new.self ≡ record c.args.self.now { left = pushed c.args.self.now.left c.args.command.now } = search rules in
    rw e (stands_pushed before c.args.command.now c.args.self.now l h)

pub returns-in_default : goal.returns-in_default
returns-in_default c =
    let same : pushed c.args.self.now.left c.args.command.now ≡ c.args.self.now.left ++ Other c.args.command.now ∷ [] = pushed_other c.args.self.now.left c.args.command.now c.in_default.not-Stroke c.in_default.not-Add c.in_default.not-End c.in_default.not-Cancel in
    let ok : OnOk c.append.result (c.append.new.self ≡ record c.args.self.now { left = pushed c.args.self.now.left c.args.command.now }) = subst (λ es. OnOk c.append.result (c.append.new.self ≡ record c.args.self.now { left = es })) (sym same) c.append.ensures.ok in
    record {
      ok = ok;
      err = c.append.ensures.err;
      stands = λ before l h. on_ok c.append.result (c.append.new.self ≡ record c.args.self.now { left = pushed c.args.self.now.left c.args.command.now }) _ (λ e. rw e (stands_pushed before c.args.command.now c.args.self.now l h)) ok;
    }

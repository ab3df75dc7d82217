use Rattle.std.proofs.Common.{◌+◌, sym, ap, ◌∙◌, subst}
use Rattle.std.specs.FinSet as set
use Rattle.geom_core.specs.Exchanged.{HasTouched}
use Rattle.memento_core.specs.Revisions.{keys_in}
use Rattle.memento_core.proofs.Booked.{exchange_notes, same_some, touched_of}
use Rattle.memento_core.proofs.book.Book.drop_open.Goals as goal

pub returns-clause-touched : goal.returns-clause-touched
returns-clause-touched g c r is = subst (λ v. HasTouched (keys_in v) c.touched.result) (same_some c.in-Some.index r c.self.inside.index (sym c.in-Some.ensures.value) (ap (λ b. b.index) c.self.view_is ∙ is))
    (touched_of c.in-Some.index c.exchange.new.self _ _ c.touched.result c.exchange.ensures.exchanges c.touched.ensures)

pub returns-clause-counts : goal.returns-clause-counts
returns-clause-counts g c = c.exchange.ensures.counts ∙ ap (λ n. c.args.steps.now + n) (ap set.len (sym (exchange_notes c.in-Some.index c.exchange.new.self _ _ c.exchange.ensures.exchanges)) ∙ sym c.touched.ensures.count)

use Rattle.std.proofs.Common.{◌≡◌, ℕ, ◌∙◌, Some, ap, sym}
use Rattle.std.specs.Prelude.{◌==◌, if◌then◌else◌}
use Rattle.std.specs.Ordering.{nat_cmp}
use Rattle.std.specs.BTreeMap.{get as found}
use Rattle.command_log.specs.Table.{kept, just_started, at_hand}
use Rattle.command_log.proofs.table.Table.start.Goals as goal

pub returns-in_err-put_back-clause-full : goal.returns-in_err-put_back-clause-full
returns-in_err-put_back-clause-full c _ = c.in_err-put_back.ensures.full

pub returns-clause-kept : goal.returns-clause-kept
returns-clause-kept c = λ m. ap (λ o. if c.args.no == m then Some just_started else o) (older m ∙ c.put_back.ensures.same m)
  where
    older : (m : ℕ) → found nat_cmp c.put_back.new.self.older m ≡ kept c.put_back.new.self m
    older m = ap (λ s. at_hand s m (found nat_cmp c.put_back.new.self.older m)) (sym c.in_ok-put_back.ensures.back)

-- What an undo stack ends as once the entry that was lent is given back.
use Rattle.std.specs.Prelude.{◌≡◌, Option, OnSome, IfNone}
use Rattle.std.specs.Borrow.{LendsSo, Fml, RattleType, MutBor}
use Rattle.history_core.specs.Stacks.{Stack, IsUndone, IsRedone}
use Rattle.history_core.specs.contracts.UndoStack.{the_row}

module _ (R : RattleType) (s : MutBor (Stack R.Denot)) where
  -- the undone entry, as it was left, is the next of the future
  abbrev pub LendsUndone : Option (MutBor R.Denot) → Fml
  LendsUndone r = LendsSo (the_row R) R s r (λ new entry. OnSome r (IsUndone s.now new entry)) (λ new. IfNone r (new ≡ s.now))

  -- the redone entry, as it was left, is the newest of the past
  abbrev pub LendsRedone : Option (MutBor R.Denot) → Fml
  LendsRedone r = LendsSo (the_row R) R s r (λ new entry. OnSome r (IsRedone s.now new entry)) (λ new. IfNone r (new ≡ s.now))

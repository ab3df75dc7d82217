-- What slots end as, where the device in one of them is lent.
use Rattle.std.specs.Prelude.{ℕ, Option, Some, nat_eq}
use Rattle.std.specs.Option.{OnSome}
use Rattle.std.specs.Ordering.{nat_cmp}
use Rattle.std.specs.BTreeMap.{WritesThrough}
use Rattle.std.specs.Borrow.{LendsSo, Fml, RattleType, MutBor, u16}
use Rattle.std.specs.contracts.alloc.Global as global
use Rattle.std.specs.contracts.collections.BTreeMap as tree
use Rattle.std.specs.contracts.option.Option as option
use Rattle.std.specs.contracts.impls.GlobalAllocator.TheImpl.{ghosts}
use Rattle.paint_device.specs.contracts.device.Device as device
use Rattle.paint_device.specs.Sheets.{Sheet}
use Rattle.desk_steps.specs.Slots.{Slots}

-- the slots, as the logic holds them
abbrev pub slots_row : RattleType
slots_row = tree.the_row u16 (option.the_row device.the_row) global.the_row (record { cmp = nat_cmp }) (record { eq = nat_eq }) (record { partial_cmp = λ a b. Some (nat_cmp a b) }) ghosts

-- the slot of the id has the device as it was left, and the others stay
abbrev pub LendsDevice : MutBor Slots → ℕ → Option (MutBor Sheet) → Fml
LendsDevice s id r = LendsSo slots_row device.the_row s r (λ n w. OnSome r (WritesThrough nat_cmp (nat_cmp id) s.now (Some w) n)) (λ n. Unit {0})

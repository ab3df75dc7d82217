use Rattle.std.proofs.Common.{◌≡◌, drop}
use Rattle.std.specs.List.{list_any, list_all}
use Rattle.geom_core.specs.Grid.{Key, same_key, keys_of}
use Rattle.slot_work.proofs.remaining.next_in.Given as goal

-- the tiles so far are published
abbrev pub invariant-loop-i : goal.invariant-loop-i
invariant-loop-i l = list_all (λ (k : Key). list_any (same_key k) l.painter.published) (drop l.i (keys_of l.rect)) ≡ list_all (λ (k : Key). list_any (same_key k) l.painter.published) (keys_of l.rect)

-- What a machine keeps, as the parts of a desk.
use Rattle.desk_state.specs.Parts.{Parts, parts}
use Rattle.desk_events.specs.declared.machine.Machine.TheInside.{Inside}

-- what it keeps, as the parts' own contracts see it
abbrev pub parts_of : Inside → Parts
parts_of m = parts m.canvas m.fed.items m.queue m.store m.filmed.caches m.updates m.slots m.filmed.frames m.way m.next

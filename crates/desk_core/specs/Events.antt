-- Events that damage nothing, and those that leave lower children as they are.
use Rattle.std.specs.Prelude.{Bool, true, false, ◌&&◌}
use Rattle.machine_model.specs.Event.{Event, Feed, Init, Start, Publish, End, Finish, Cancel, Act, WalkStart, WalkPublish, WalkEnd}

-- whether points that are up to date stay so: a job damages what it will write as it starts
abbrev pub is_quiet : Event → Bool
is_quiet (Feed c) = true
is_quiet Init = true
is_quiet (Start place) = false
is_quiet (Publish place key) = true
is_quiet (End place) = true
is_quiet Finish = true
is_quiet Cancel = false
is_quiet Act = false
is_quiet (WalkStart place patch) = true
is_quiet (WalkPublish place g key) = true
is_quiet (WalkEnd place) = true

-- whether lower children stay as they are: below which layer they are lower ones changes as a stroke begins, and which groups move as a walk starts
abbrev pub spares_lower : Event → Bool
spares_lower (Feed c) = true
spares_lower Init = false
spares_lower (Start place) = true
spares_lower (Publish place key) = true
spares_lower (End place) = true
spares_lower Finish = true
spares_lower Cancel = true
spares_lower Act = false
spares_lower (WalkStart place patch) = false
spares_lower (WalkPublish place g key) = true
spares_lower (WalkEnd place) = true

-- whether all that is known goes on to hold
abbrev pub goes_by : Event → Bool
goes_by e = is_quiet e && spares_lower e

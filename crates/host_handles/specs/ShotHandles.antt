-- What a handle keeps of a shot.
use mathlib.Core.List.{List}
use mathlib.Core.Bool.{Bool}
use base.Fml.{Fml}
use base.Stored.{Coded, coded_list}
use denote.RawPtr.{Ptr}
use Rattle.std.specs.Global.{Global}
use Rattle.loose_box.specs.Kept.{kept}
use Rattle.host_desk.specs.contracts.shot.Shot.{the_row}

abbrev pub shot_kept : Global → Ptr → Bool → List the_row.Denot → Fml
shot_kept = kept the_row

abbrev pub shots_coded : Coded (List the_row.Denot)
shots_coded = coded_list the_row.coded

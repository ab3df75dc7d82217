-- What a handle keeps of a desk.
use mathlib.Core.List.{List}
use mathlib.Core.Bool.{Bool}
use base.Fml.{Fml}
use base.Stored.{Coded, coded_list}
use denote.RawPtr.{Ptr}
use Rattle.std.specs.Global.{Global}
use Rattle.loose_box.specs.Kept.{kept}
use Rattle.host_desk.specs.contracts.host.Host.{the_row}

abbrev pub desk_kept : Global → Ptr → Bool → List the_row.Denot → Fml
desk_kept = kept the_row

abbrev pub desks_coded : Coded (List the_row.Denot)
desks_coded = coded_list the_row.coded

-- What a handle keeps of a piece.
use mathlib.Core.List.{List}
use mathlib.Core.Bool.{Bool}
use base.Fml.{Fml}
use base.Stored.{Coded, coded_list}
use denote.RawPtr.{Ptr}
use Rattle.std.specs.Global.{Global}
use Rattle.loose_box.specs.Kept.{kept}
use Rattle.host_pieces.specs.contracts.piece.Piece.{the_row}

abbrev pub piece_kept : Global → Ptr → Bool → List the_row.Denot → Fml
piece_kept = kept the_row

abbrev pub pieces_coded : Coded (List the_row.Denot)
pieces_coded = coded_list the_row.coded

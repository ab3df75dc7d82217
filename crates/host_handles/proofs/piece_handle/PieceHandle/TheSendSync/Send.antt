-- A handle may go to another thread, as what it has may.
use denote.Struct.Struct.{exits_of}
use denote.Struct.Owning.{shape, fields, to}
use denote.Param.Send.{IsSend, AllSend, owning_send, struct_send, sendable}
use Rattle.std_alloc.proofs.SendSync.{quiet}
use Rattle.std_heap.proofs.Global.TheSendSync as field
use Rattle.loose_box.proofs.Slots.{quiet_kept}
use Rattle.host_pieces.specs.contracts.piece.Piece as Home
use Rattle.host_pieces.proofs.piece.Piece.TheSendSync.{the_send as home_send}
use Rattle.host_handles.specs.contracts.piece_handle.PieceHandle.{the_row, the_type}

pub send : IsSend the_row
send =
    let all : AllSend (fields the_type) = (search sendable, (field.the_field_send, (search sendable, tt))) in
    owning_send the_type all (λ d. quiet_kept Home.the_row home_send d.alloc d.at d.full d.value)
    (λ k. quiet (to the_type) (exits_of k (fields the_type)) ((struct_send (shape the_type) all).leaving k))

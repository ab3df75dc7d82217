pub mod DeskHandles
pub mod PieceHandles
pub mod ShotHandles

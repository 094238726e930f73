pub mod Sizes
pub mod Rows
pub mod Pieces
pub mod Taken
pub mod Grows
pub mod PieceRuns

pub mod Squares
pub mod Bitboard
pub mod Step
pub mod Test
pub mod Piece

pub mod DigitLemmas
pub mod Pieces
pub mod SpelledPixels
pub mod FieldLemmas

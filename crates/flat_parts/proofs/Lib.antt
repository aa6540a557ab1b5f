pub mod FoundPart

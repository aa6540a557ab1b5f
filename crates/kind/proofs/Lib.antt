pub mod Byte

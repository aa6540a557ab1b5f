mod Digits
mod Machine

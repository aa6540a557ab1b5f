mod Forms
mod Kept

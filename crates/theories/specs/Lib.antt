pub mod Bare
pub mod Clues
pub mod Meaning
pub mod OneVat
pub mod Pairs
pub mod Pairwise
pub mod SharedResults
pub mod Laws

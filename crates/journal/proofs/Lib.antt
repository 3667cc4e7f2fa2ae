mod Decimals
mod Fields
mod Names
mod Pairs
mod Pieces

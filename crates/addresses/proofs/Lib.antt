mod Cuts
mod Digits
mod Rows
mod Fills
mod Readings

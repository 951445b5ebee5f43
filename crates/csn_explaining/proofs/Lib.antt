mod Decimals
mod Digits
mod Texts

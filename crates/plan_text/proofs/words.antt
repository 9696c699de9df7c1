pub mod Digits
pub mod PlainAdds
pub mod Separators

pub mod LastDigits
pub mod NearShares

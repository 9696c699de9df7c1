pub mod Purchases

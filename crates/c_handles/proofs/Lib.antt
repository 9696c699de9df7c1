mod Lending
mod Loans
mod Reading
mod Values

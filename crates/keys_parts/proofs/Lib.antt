mod Lines
mod Scans
mod Parted
mod Blocks

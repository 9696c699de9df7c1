mod Passing
mod Bytes
mod Spelled
mod Lines
mod Parsed

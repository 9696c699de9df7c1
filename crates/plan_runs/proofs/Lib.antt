pub mod answering

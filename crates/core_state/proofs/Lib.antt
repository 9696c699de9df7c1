pub mod UpdatableValue

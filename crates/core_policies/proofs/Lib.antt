pub mod FoldedValues

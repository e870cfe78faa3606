pub mod BitWrites

pub mod Made
pub mod Named

pub mod Pictured
pub mod Uses
pub mod Walk
pub mod Found

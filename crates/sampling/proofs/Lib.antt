pub mod Walk
pub mod Drawing

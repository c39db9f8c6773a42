pub mod Ends
pub mod Frames
pub mod Pairs
pub mod Looking
pub mod Serving
pub mod Taking
pub mod Passing

pub mod Framing
pub mod Scans
pub mod Scanning
pub mod Packets
pub mod Streams
pub mod Words
pub mod Inner

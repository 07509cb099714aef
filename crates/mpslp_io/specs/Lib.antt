pub mod Devices
pub mod TextBuffer
pub mod Printing
pub mod EachCall
pub mod LinesAt

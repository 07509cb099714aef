pub mod FaultTests
pub mod Declaring
pub mod ErrorOf
pub mod LineAnswer
pub mod OpenLine
pub mod LinesRead
pub mod Pieces
pub mod TextReading

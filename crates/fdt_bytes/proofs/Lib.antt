pub mod BigEndian
pub mod Cells
pub mod Padding
pub mod Splice
pub mod Tests

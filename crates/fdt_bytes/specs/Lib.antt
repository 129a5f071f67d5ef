pub mod BigEndian
pub mod Padding
pub mod Splice

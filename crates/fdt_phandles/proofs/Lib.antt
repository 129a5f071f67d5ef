pub mod Phandles

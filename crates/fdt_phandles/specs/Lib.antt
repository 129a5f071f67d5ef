pub mod Phandle

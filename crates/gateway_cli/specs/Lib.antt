pub mod Bases
pub mod CommandLine

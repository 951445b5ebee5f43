pub mod Describes

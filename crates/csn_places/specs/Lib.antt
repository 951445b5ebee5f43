pub mod Depths
pub mod Origins
pub mod Places

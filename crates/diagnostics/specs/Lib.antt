pub mod Blanked
pub mod Hints
pub mod Strays
pub mod Items
pub mod Linted
pub mod Nearest
pub mod Places
pub mod Told

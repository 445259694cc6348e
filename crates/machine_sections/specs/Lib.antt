pub mod Automata
pub mod Effects
pub mod Monitors
pub mod Standing
pub mod Clocked
pub mod History
pub mod Laws
pub mod Firsts

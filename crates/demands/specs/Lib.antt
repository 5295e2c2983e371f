pub mod Same
pub mod Figures
pub mod OneCue

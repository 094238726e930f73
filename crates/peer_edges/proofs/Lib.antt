pub mod Asks
mod SeenLaws

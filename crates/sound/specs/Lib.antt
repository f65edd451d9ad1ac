-- What it means that seats are sound.
pub mod Sound

pub mod Augmented

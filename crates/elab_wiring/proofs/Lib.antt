pub mod OverLaws
pub mod ConnectLaws
pub mod RootLaws
pub mod InterfaceSound
pub mod ConnectSound
pub mod SignatureClassSound
mod Samples

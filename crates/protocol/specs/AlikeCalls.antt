pub mod AlikeFiner
pub mod CommissioningSheet
pub mod Peerwise

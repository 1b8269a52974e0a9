pub mod Following
pub mod RxEnds
pub mod Steps
pub mod TxEnds

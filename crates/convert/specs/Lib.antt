pub mod Convert
pub mod Laws
pub mod ForwardAnswer
pub mod BackAnswer

pub mod Ports
pub mod PortLaws

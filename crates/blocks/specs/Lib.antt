pub mod Blocks
pub mod Laying

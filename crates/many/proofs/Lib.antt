pub mod Scan
pub mod Places
pub mod Laying
pub mod Verdicts
pub mod Many
pub mod Each

mod Table
pub mod Rule
pub mod Sizes
mod Sum
mod ArmRule
mod Refusals
pub mod Between

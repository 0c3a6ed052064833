pub mod Distinct
pub mod NodeSteps
pub mod ReadAgain

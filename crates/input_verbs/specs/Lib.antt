pub mod InputVerbs
pub mod OpenInputs
-- what private functions promise one another
pub mod InputSteps

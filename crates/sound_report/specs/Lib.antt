pub mod Statuses
pub mod PlanLines
pub mod RunLines
pub mod PinParts
pub mod Texts
pub mod Pages
-- what private functions promise one another
pub mod StretchTexts

pub mod Roles
pub mod VerbList
pub mod SetUp
-- what the functions of the steps promise one another
pub mod Steps

-- what a line of digits means, how bytes are printed, and the step of a digest
pub mod Questions
-- the line of a question
pub mod Question
-- what a read takes of an input
pub mod Reading
-- computed cases
pub mod Examples

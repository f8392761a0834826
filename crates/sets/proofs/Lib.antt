-- the answer of a set by those of its lists
pub mod AnswerLaws
-- what 20 of a whole set answers
pub mod HeightLaws

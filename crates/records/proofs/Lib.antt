pub mod Lists
pub mod Members
-- the reader answers the first refusal of the list of its checks
pub mod AnswerLaws

-- an answer that decides a proposition
pub mod Decides

-- the facts below the pages, in the pages' words
pub mod FactsInWords

-- texts character by character, and how long they are
pub mod Laws

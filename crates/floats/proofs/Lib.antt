-- nothing but the rounded result is the nearest float
pub mod NearestLaws

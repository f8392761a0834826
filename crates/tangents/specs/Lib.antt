-- the tangents of CatmullRom and Cardinal
pub mod CatmullRom

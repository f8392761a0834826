-- the tangents of CentripetalCatmullRom and ChordalCatmullRom
pub mod Alpha

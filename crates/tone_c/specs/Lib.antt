-- the calls: what is given, the checks, what is in lent memory afterwards
pub mod Boundary
-- the outputs of `tone_picture` by the record's bytes
pub mod PictureLaws
-- their checks and arguments, computed
pub mod Examples
-- the version of the boundary
pub mod Version

-- the twelve formats, a layout each
pub mod Formats
-- the checks of the picture calls
pub mod Checks
-- what is known once they have passed
pub mod CheckLaws
-- the kernels take every format
pub mod FormatLaws
-- both tables and limits, computed: values of document 01
pub mod Examples

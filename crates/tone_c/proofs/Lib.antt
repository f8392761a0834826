-- a format's number and a record that are given
pub mod GivenFormat
pub mod GivenRecord

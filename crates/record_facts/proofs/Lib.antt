-- into 522 bytes no answer is 13
pub mod RoomLaws
-- what has the writer's form comes back byte for byte
pub mod WriterFormLaws
-- what was written reads back
pub mod RoundTripLaws

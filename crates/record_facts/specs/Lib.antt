-- The facts about records, said of the definitions that the contracts of `records` and `writing`
-- cite. Found: what the reader finds in a record; from it Levels: the heights that are read and
-- written are whole; ReadLegal: what is read passes the writer's check of a set; and Spelling: what
-- the bytes of an accepted record are; from that Canonical: such a record is what the writer makes
-- of its set, but for bit 7 and the naming of its kind; NotLonger; and NewDefault: what bit 7
-- means.
-- RoundTrip: a list and a kind that were written read back. Room: 522 bytes always suffice.
-- Refusals: which numbers a call never answers. Runs says all this of runs of the reader and the
-- writer. Longest: the first 523 bytes of an input tell all; Input says so of what `tonetable`
-- prints. Examples: the edges.
-- In proofs/ are RoundTripLaws: what was written reads back; RoomLaws: into 522 bytes no answer is
-- 13; and WriterFormLaws: what has the writer's form comes back byte for byte.
pub mod Found
pub mod Refusals
pub mod Levels
pub mod ReadLegal
pub mod Longest
pub mod RoundTrip
pub mod Spelling
pub mod Canonical
pub mod NotLonger
pub mod NewDefault
pub mod Room
pub mod Input
pub mod Runs
pub mod Examples

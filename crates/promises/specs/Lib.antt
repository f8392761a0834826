-- What is promised, a page for each demand of the mission, in full; the proofs are apart and
-- cited.
-- Demand1: every call on anything at all answers with the first refusal, and a refusal changes
-- nothing. Checks has its words.
-- Demand2: each call gives what its definition says, the curves are the published ones, and records
-- survive writing then reading. Results has its words.
-- Demand3: what holds of two runs of the set call. Words has its words.
-- Request1: what document 02's U1 says of the calls on sets and records. Request3: what its U3 says
-- of the functions of a spline. Request9: what its U9 says of heights that are no levels. Printed:
-- what `tonetable` prints for document 01's example.
-- Boundary: the first two demands of the calls of the C boundary; BoundaryDemand3: the third.
-- ControlsOfWords, Determined: the words pinned from both sides, by computed cases at their edges
-- and by what they determine.
-- Controls, ControlsOfRuns: that the premises of the third demand are needed, by computed runs made
-- in Pixels; the first on kinds, lists, rows and chroma, the other on what runs share and refusals.
-- BoundaryControls: the same of the C boundary's words.
-- P1 to P12 are a table of their own, Marked of the crate `examples`.
-- Proofs of the second demand: Drawn, ResultFacts. Of the third, in this order: PlaceFacts, the
-- places of a picture; ListFacts, the list that tones a byte; RunFacts, what a run that is not
-- refused has at each place; LegalFacts, the lists that tone it; ChromaFacts, its chroma outputs;
-- PictureFacts, its whole picture; ShareFacts, what two runs have in common; TonedFacts and
-- RowFacts, the clauses on toned bytes and on rows alone.
pub mod Checks
pub mod Demand1
pub mod Boundary
pub mod Words
pub mod PlaceFacts
pub mod ListFacts
pub mod RunFacts
pub mod LegalFacts
pub mod ChromaFacts
pub mod PictureFacts
pub mod ShareFacts
pub mod TonedFacts
pub mod RowFacts
pub mod Results
pub mod Drawn
pub mod ResultFacts
pub mod Demand2
pub mod Demand3
pub mod Request1
pub mod Request3
pub mod Request9
pub mod Printed
pub mod BoundaryDemand3
pub mod Pixels
pub mod ControlsOfWords
pub mod Determined
pub mod Controls
pub mod ControlsOfRuns
pub mod BoundaryControls

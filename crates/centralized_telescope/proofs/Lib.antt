-- The laws that the proofs of `centralized_telescope` share, by the source file that they serve; those that only others here cite stand
-- before them.
-- params.rt
mod Whole
mod Figures
-- types.rt, exports.rt
mod ListFaults
mod ListAnswers
-- theorems.rt
mod TryFinds
mod Tries
mod VerifierDemand
mod VerdictHolds
mod FoundHolds
mod ProverDemand
mod DemandHolds
mod CasesHold
mod TicketsHold
mod FirstLayoutHolds
mod PlanHolds
mod PrepareHolds
mod RaisingHolds
mod RaisedDigests
mod RaisedExampleHolds
mod TwoProductsHold
mod PartiesExampleHolds
mod ShapeHolds
mod ShapeExampleHolds
-- round.rt
mod RoundHashes
-- bins.rt; BinCounting sort.rt too
mod BinCounting
mod BinPlacing
mod BinBuilding
mod BinSpans
-- search.rt
mod TableFacts
mod Walked
mod Turn
mod OneTry
-- bins.rt
mod BinListing
-- search.rt, its tries
mod ManyTries
-- telescope.rt, theorems.rt
mod ProveAnswers
-- proof_list.rt; ProofWriting ticket.rt too
mod ProofWriting
mod ProofAnswers
-- blocks.rt
mod BlockWriting
mod BlockReading
-- order.rt
mod Comparing
-- sort.rt
-- pool.rt
mod Sought
mod AddedPlaces
mod PoolAnswers
-- theorems.rt
mod PoolHolds
-- sort.rt, misc.rt, theorems.rt
mod DistinctAnswers
-- proof.rt
mod ChainFollowed
-- telescope.rt, proof.rt, exports.rt
mod VerdictAnswers
-- numbers.rt, exports.rt
mod NumbersRead
-- exports.rt
mod ExportAnswers
-- element_bytes.rt
mod ElementWriting
-- preparing.rt
mod RunHashing
mod PrepareAnswers
-- shape.rt
mod Tallying
mod ShapeAnswers
-- products.rt
mod PartyAnswers
-- ticket.rt
mod TicketWriting
mod TicketReading
mod TicketAnswers

-- The laws that the proofs of `harness_exports` share.
mod Answer
mod ProverNumbers
mod TicketNumbers
mod PlanAnswers
mod PoolNumbers
mod PrepareNumbers
mod PartyNumbers
mod ChainNumbers

-- What the contracts of `centralized_telescope` and its theorems cite, in reading order: the core, and what is read later. What follows
-- from it stands in laws/, what inner functions promise each other in inner/: neither has to be believed.
pub mod core
pub mod later
pub mod laws
pub mod inner

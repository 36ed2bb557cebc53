-- The definitions that the contracts of `runs` cite: the bag of a run, what a call answers, and the law on queues.
pub mod Bags
pub mod Calls
pub mod Lines
pub mod Entering
pub mod Queues
pub mod Agreement

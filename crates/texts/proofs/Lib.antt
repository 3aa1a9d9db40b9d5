-- The lemmas that the proofs of this crate use.
mod Steps
mod Checks

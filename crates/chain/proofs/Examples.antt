-- Histories that meet the rules, with document 01's quorum test: the theorem isn't about nothing.
mod Pair
mod Changes
mod Attempts
mod Alone

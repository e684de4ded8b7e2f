-- The protocol in three layers, and what is proved of each: changes of heads' states (Model, Reach), the same by record words (Words), and worlds
-- with sessions and lines (World). Safety is the statement; Quorum ties it to document 01's quorum test.
pub mod Model
pub mod Reach
pub mod Words
pub mod World
pub mod Quorum
pub mod Safety

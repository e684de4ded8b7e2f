-- The laws, one file a subject.
pub mod Truth
pub mod Order
pub mod Fold
pub mod Count
pub mod Tests
pub mod Last
pub mod First
pub mod Lists
pub mod Stores
pub mod Chains

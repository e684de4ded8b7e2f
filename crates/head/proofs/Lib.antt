-- What is proved of the calls beside the code's contracts.
pub mod Laws

-- Histories of document 01 that are computed: case 11, three sessions in a row, two attempts of one number, and why two premises of demand 3 are needed.
pub mod Examples

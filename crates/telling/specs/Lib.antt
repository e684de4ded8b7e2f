-- What a state line tells of its writer's record.
pub mod Telling

pub mod TypeQueries
pub mod SubtypeTables

pub mod PassRuns

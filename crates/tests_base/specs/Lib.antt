pub mod SamplePrograms

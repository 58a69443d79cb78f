pub mod SoundRuns

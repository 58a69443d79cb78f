pub mod StutteringRuns
